use Rattle.thread_core.proofs.DeepRows.{all_below}
use Rattle.thread_core.proofs.laws.rows_show_all_descendants.Goals as goal

pub returns : goal.returns
returns c = all_below (record {
  inside = c.a_forest_has_ranks.ensures.inside;
  ranks = c.a_forest_has_ranks.ensures.ranks;
  falling = c.falling_heights_give_ranks.ensures;
})
