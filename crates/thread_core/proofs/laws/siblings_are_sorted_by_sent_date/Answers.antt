use Rattle.thread_core.proofs.Siblings.{siblings_rise, siblings_rise_in_threads}
use Rattle.thread_core.proofs.laws.siblings_are_sorted_by_sent_date.Goals as goal

pub returns-clause-any_forest : goal.returns-clause-any_forest
returns-clause-any_forest c = siblings_rise (record {
  inside = c.a_forest_has_ranks.ensures.inside;
  ranks = c.a_forest_has_ranks.ensures.ranks;
  falling = c.falling_heights_give_ranks.ensures;
})

pub returns-clause-step_one : goal.returns-clause-step_one
returns-clause-step_one c = siblings_rise_in_threads (record {
  inside = c.a_forest_has_ranks.ensures.inside;
  ranks = c.a_forest_has_ranks.ensures.ranks;
  falling = c.falling_heights_give_ranks.ensures;
}) c.step_one_leaves_a_forest.ensures
