use Rattle.std.proofs.Common.{rules, sym, Bor, tests, ◌∙◌, ap, true, Option}
use Rattle.std.specs.Prelude.{option_map}
use Rattle.std.specs.Option.{option_map_or}
use Rattle.std.proofs.lemmas.Iterator.{YieldsList-from_slice}
use Rattle.std.proofs.lemmas.Iterator.Search.{find_from_yields_List}
use Rattle.archive_model.specs.Records.{ListOption}
use Rattle.archive_model.specs.Questions.{is_option_of}
use Rattle.archive_memory.specs.Entries.{list_option}
use Rattle.archive_memory.specs.declared.entries.ListEntry.{ListEntry}
use Rattle.archive_memory.proofs.MapLemmas.{find_map}
use Rattle.archive_memory.proofs.asking.merge_of.Goals as goal

pub returns-in-Some : goal.returns-in-Some
returns-in-Some c =
    let found = find_from_yields_List (λ e. is_option_of c.args.list.now (list_option e)) _ _ c.find.result c.find.ensures.ran
    (YieldsList-from_slice c.args.lists.now (cc)) (λ x b q k. search (rules, tests)) in
    ap (λ (e : Option (Bor ListEntry)). option_map_or (λ (o : ListOption). o.merge) (option_map list_option (option_map (λ y. y.now) e)) true) (sym c.in-Some.is)
    ∙ ap (λ e. option_map_or (λ (o : ListOption). o.merge) (option_map list_option e) true) found
    ∙ ap (λ o. option_map_or (λ (o : ListOption). o.merge) o true) (find_map (is_option_of c.args.list.now) list_option c.args.lists.now)

pub returns-in-None : goal.returns-in-None
returns-in-None c =
    let found = find_from_yields_List (λ e. is_option_of c.args.list.now (list_option e)) _ _ c.find.result c.find.ensures.ran
    (YieldsList-from_slice c.args.lists.now (cc)) (λ x b q k. search (rules, tests)) in
    ap (λ (e : Option (Bor ListEntry)). option_map_or (λ (o : ListOption). o.merge) (option_map list_option (option_map (λ y. y.now) e)) true) (sym c.in-None.is)
    ∙ ap (λ e. option_map_or (λ (o : ListOption). o.merge) (option_map list_option e) true) found
    ∙ ap (λ o. option_map_or (λ (o : ListOption). o.merge) o true) (find_map (is_option_of c.args.list.now) list_option c.args.lists.now)
