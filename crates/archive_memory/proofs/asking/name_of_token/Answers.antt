use Rattle.std.proofs.Common.{rules, sym, Bor, tests, ◌∙◌, ap, bytes_eq, Option, Some}
use Rattle.std.specs.Prelude.{option_map}
use Rattle.std.proofs.lemmas.Iterator.{YieldsList-from_slice}
use Rattle.std.proofs.lemmas.Iterator.Search.{find_from_yields_List}
use Rattle.archive_model.specs.Records.{Person}
use Rattle.archive_memory.specs.Entries.{person_in}
use Rattle.archive_memory.specs.declared.entries.PersonEntry.{PersonEntry}
use Rattle.archive_memory.proofs.MapLemmas.{find_map}
use Rattle.archive_memory.proofs.asking.name_of_token.Goals as goal

pub returns-in-Some : goal.returns-in-Some
returns-in-Some c =
    let found = find_from_yields_List (λ e. bytes_eq (person_in e).token c.args.token.now) _ _ c.find.result c.find.ensures.ran
    (YieldsList-from_slice c.args.persons.now (cc)) (λ x b q k. search (rules, tests)) in
    ap Some c.as_str.ensures.value ∙ ap (λ (e : Option (Bor PersonEntry)). option_map (λ (p : Person). p.name) (option_map person_in (option_map (λ y. y.now) e))) (sym c.in-Some.is)
    ∙ ap (λ e. option_map (λ (p : Person). p.name) (option_map person_in e)) found
    ∙ ap (option_map (λ (p : Person). p.name)) (find_map (λ (p : Person). bytes_eq p.token c.args.token.now) person_in c.args.persons.now)

pub returns-in-None : goal.returns-in-None
returns-in-None c =
    let found = find_from_yields_List (λ e. bytes_eq (person_in e).token c.args.token.now) _ _ c.find.result c.find.ensures.ran
    (YieldsList-from_slice c.args.persons.now (cc)) (λ x b q k. search (rules, tests)) in
    ap (λ (e : Option (Bor PersonEntry)). option_map (λ (p : Person). p.name) (option_map person_in (option_map (λ y. y.now) e))) (sym c.in-None.is)
    ∙ ap (λ e. option_map (λ (p : Person). p.name) (option_map person_in e)) found
    ∙ ap (option_map (λ (p : Person). p.name)) (find_map (λ (p : Person). bytes_eq p.token c.args.token.now) person_in c.args.persons.now)
