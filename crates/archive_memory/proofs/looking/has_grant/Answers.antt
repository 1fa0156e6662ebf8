use Rattle.std.proofs.Common.{rules, tests, ◌∙◌}
use Rattle.std.proofs.lemmas.Iterator.{YieldsList-from_slice}
use Rattle.std.proofs.lemmas.Iterator.Search.{any_from_yields_List}
use Rattle.policy_core.specs.Numbers.{grant_kind_rank}
use Rattle.archive_model.specs.Questions.{is_grant_of_rank}
use Rattle.archive_memory.specs.Entries.{grant_in}
use Rattle.archive_memory.proofs.MapLemmas.{any_map}
use Rattle.archive_memory.proofs.looking.has_grant.Goals as goal

pub returns : goal.returns
returns c =
    let test = is_grant_of_rank c.args.person.now c.args.list.now (grant_kind_rank c.args.kind) in
    any_from_yields_List (λ e. test (grant_in e)) _ _ _ c.any.ensures.ran (YieldsList-from_slice c.args.grants.now (cc)) (λ x b q k. search (rules, tests))
    ∙ any_map test grant_in c.args.grants.now
