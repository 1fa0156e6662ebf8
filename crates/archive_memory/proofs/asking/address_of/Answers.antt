use Rattle.std.proofs.Common.{rules, sym, Bor, tests, ◌∙◌, ap, Option, Some}
use Rattle.std.specs.Prelude.{option_map}
use Rattle.std.proofs.lemmas.Iterator.{YieldsList-from_slice}
use Rattle.std.proofs.lemmas.Iterator.Search.{find_from_yields_List}
use Rattle.archive_model.specs.Records.{Address}
use Rattle.archive_model.specs.Questions.{is_address_of}
use Rattle.archive_memory.specs.Entries.{address_in}
use Rattle.archive_memory.specs.declared.entries.AddressEntry.{AddressEntry}
use Rattle.archive_memory.proofs.MapLemmas.{find_map}
use Rattle.archive_memory.proofs.asking.address_of.Goals as goal

pub returns-in-Some : goal.returns-in-Some
returns-in-Some c =
    let found = find_from_yields_List (λ e. is_address_of c.args.person.now (address_in e)) _ _ c.find.result c.find.ensures.ran
    (YieldsList-from_slice c.args.addresses.now (cc)) (λ x b q k. search (rules, tests)) in
    ap Some c.as_str.ensures.value
    ∙ ap (λ (e : Option (Bor AddressEntry)). option_map (λ (a : Address). a.address) (option_map address_in (option_map (λ y. y.now) e))) (sym c.in-Some.is)
    ∙ ap (λ e. option_map (λ (a : Address). a.address) (option_map address_in e)) found
    ∙ ap (option_map (λ (a : Address). a.address)) (find_map (is_address_of c.args.person.now) address_in c.args.addresses.now)

pub returns-in-None : goal.returns-in-None
returns-in-None c =
    let found = find_from_yields_List (λ e. is_address_of c.args.person.now (address_in e)) _ _ c.find.result c.find.ensures.ran
    (YieldsList-from_slice c.args.addresses.now (cc)) (λ x b q k. search (rules, tests)) in
    ap (λ (e : Option (Bor AddressEntry)). option_map (λ (a : Address). a.address) (option_map address_in (option_map (λ y. y.now) e))) (sym c.in-None.is)
    ∙ ap (λ e. option_map (λ (a : Address). a.address) (option_map address_in e)) found
    ∙ ap (option_map (λ (a : Address). a.address)) (find_map (is_address_of c.args.person.now) address_in c.args.addresses.now)
