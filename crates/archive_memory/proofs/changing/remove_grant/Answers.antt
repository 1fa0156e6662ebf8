use Rattle.std.proofs.Common.{not, rules, tests, ◌∙◌, ap, map}
use Rattle.std.proofs.lemmas.Fn.{filter_same}
use Rattle.policy_core.specs.Numbers.{grant_kind_rank}
use Rattle.archive_model.specs.Questions.{is_grant_of_rank}
use Rattle.archive_model.specs.Records.{Grant}
use Rattle.archive_memory.specs.Entries.{grant_in}
use Rattle.archive_memory.proofs.MapLemmas.{filter_map}
use Rattle.archive_memory.proofs.changing.remove_grant.Goals as goal

pub returns : goal.returns
returns c =
    let test = λ (g : Grant). not (is_grant_of_rank c.args.person.now c.args.list.now (grant_kind_rank c.args.kind) g) in
    ap (map grant_in) (filter_same _ (λ e. test (grant_in e)) _ (λ x b q r. search (rules, tests)) _ _ c.retain.ensures.filtered)
    ∙ filter_map test grant_in c.args.grants.now.items
