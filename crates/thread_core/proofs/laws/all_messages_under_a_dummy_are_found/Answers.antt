use Rattle.thread_core.proofs.Depths.{under-is}
use Rattle.thread_links.specs.Links.{parent_of}
use Rattle.thread_core.proofs.laws.all_messages_under_a_dummy_are_found.Goals as goal

pub returns : goal.returns
returns c = λ count messages links x forest h.
    let laws = c.a_forest_has_ranks.ensures in
    let ranks = laws.ranks count links forest in
    under-is (record { count = count; messages = messages; parent = parent_of links }) ranks.0 (λ y p e. (laws.inside count links y p forest e).0) ranks.1 x h
