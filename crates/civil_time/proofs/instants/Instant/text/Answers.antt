use Rattle.std.proofs.Common.{ap, ◌∙◌, rules, unsigned_abs, w16, FitsSigned}
use Rattle.std.proofs.lemmas.Int.{to_z-of_z}
use Rattle.civil_time.proofs.DateLemmas.{date_back}
use Rattle.civil_time.proofs.TextLemmas.{text_is}
use Rattle.civil_time.proofs.instants.Instant.text.Goals as goal

pub returns : goal.returns
returns c =
    let p = c.parts-year in
    let date = date_back p.result.0 p.result.1 p.result.2 c.day.result p.ensures.date in
    let fits : FitsSigned w16 p.result.0 = search rules in
    let year = c.unsigned_abs.ensures.value ∙ ap unsigned_abs (to_z-of_z w16 p.result.0 fits) in
    text_is c.moment_text.result c.args.self c.day.result (unsigned_abs p.result.0) p.result.1 p.result.2 c.second_of_day.result _
    c.moment_text.ensures c.day.ensures date c.second_of_day.ensures.value year
