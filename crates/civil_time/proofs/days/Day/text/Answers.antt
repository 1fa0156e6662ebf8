use Rattle.std.proofs.Common.{ap, ◌∙◌, rules, unsigned_abs, w16, FitsSigned}
use Rattle.std.proofs.lemmas.Int.{to_z-of_z}
use Rattle.civil_time.proofs.DateLemmas.{date_back}
use Rattle.civil_time.proofs.TextLemmas.{day_text_is}
use Rattle.civil_time.proofs.days.Day.text.Goals as goal

pub returns : goal.returns
returns c =
    let p = c.parts-year in
    let date = date_back p.result.0 p.result.1 p.result.2 c.args.self p.ensures.date in
    let fits : FitsSigned w16 p.result.0 = search rules in
    let year = c.unsigned_abs.ensures.value ∙ ap unsigned_abs (to_z-of_z w16 p.result.0 fits) in
    day_text_is c.date_text.result c.args.self (unsigned_abs p.result.0) p.result.1 p.result.2 _ c.date_text.ensures date year
