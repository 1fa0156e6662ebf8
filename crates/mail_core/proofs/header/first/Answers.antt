use Rattle.std.proofs.Common.{◌≡◌, ◌∙◌, sym, ap, refl, rules, tests, Option, Some, None, option_map}
use Rattle.std.specs.List.{find}
use Rattle.std.proofs.lemmas.Iterator.Search.{find_from_yields_List}
use Rattle.std.proofs.lemmas.Iterator.Consumers.{YieldsList-from_first}
use Rattle.mail_core.specs.Fields.{HeaderField, fields_of, has_name}
use Rattle.mail_core.proofs.header.first.Goals as goal

same : (o : Option HeaderField) → option_map (λ (x : HeaderField). x) o ≡ o
same None = refl
same (Some x) = refl

pub returns-in_err-field : goal.returns-in_err-field
returns-in_err-field c =
    let found = find_from_yields_List (has_name c.args.name.now) _ _ _ c.find.ensures.ran (YieldsList-from_first (λ x. x) (λ s. s) _ c.fields.ensures) (λ x b q k. search (rules, tests)) in
    let none : find (has_name c.args.name.now) (fields_of c.args.text.now) ≡ None = sym found ∙ same c.find.result ∙ c.in_err-field.was in
    rw c.from_residual.ensures (ap (option_map (λ (f : HeaderField). f.body)) none)

pub returns : goal.returns
returns c =
    let found = find_from_yields_List (has_name c.args.name.now) _ _ _ c.find.ensures.ran (YieldsList-from_first (λ x. x) (λ s. s) _ c.fields.ensures) (λ x b q k. search (rules, tests)) in
    let some : find (has_name c.args.name.now) (fields_of c.args.text.now) ≡ Some c.in_ok-field.field = sym found ∙ same c.find.result ∙ c.in_ok-field.was in
    ap (option_map (λ (f : HeaderField). f.body)) some ∙ ap (λ (f : HeaderField). Some f.body) (sym c.field.view_is)
