use Rattle.std.proofs.Common.{rules, tests, bytes_eq, ◌∙◌}
use Rattle.std.proofs.lemmas.Iterator.{YieldsList-from_slice}
use Rattle.std.proofs.lemmas.Iterator.Search.{any_from_yields_List}
use Rattle.archive_model.specs.Records.{Person}
use Rattle.archive_memory.specs.Entries.{person_in}
use Rattle.archive_memory.proofs.MapLemmas.{any_map}
use Rattle.archive_memory.proofs.looking.has_token.Goals as goal

pub returns : goal.returns
returns c =
    any_from_yields_List (λ e. bytes_eq (person_in e).token c.args.token.now) _ _ _ c.any.ensures.ran (YieldsList-from_slice c.args.persons.now (cc)) (λ x b q k. search (rules, tests))
    ∙ any_map (λ (p : Person). bytes_eq p.token c.args.token.now) person_in c.args.persons.now
