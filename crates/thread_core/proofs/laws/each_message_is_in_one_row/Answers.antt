use Rattle.thread_core.proofs.PlacesOnce.{each_place_once, each_place_once_in_threads}
use Rattle.thread_core.proofs.laws.each_message_is_in_one_row.Goals as goal

pub returns-clause-any_forest : goal.returns-clause-any_forest
returns-clause-any_forest c = each_place_once (record {
  inside = c.a_forest_has_ranks.ensures.inside;
  ranks = c.a_forest_has_ranks.ensures.ranks;
  falling = c.falling_heights_give_ranks.ensures;
})

pub returns-clause-step_one : goal.returns-clause-step_one
returns-clause-step_one c = each_place_once_in_threads (record {
  inside = c.a_forest_has_ranks.ensures.inside;
  ranks = c.a_forest_has_ranks.ensures.ranks;
  falling = c.falling_heights_give_ranks.ensures;
}) c.step_one_leaves_a_forest.ensures
