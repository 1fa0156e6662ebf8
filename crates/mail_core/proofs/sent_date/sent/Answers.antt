use Rattle.std.proofs.Common.{◌≡◌, ◌∙◌, ap, arith, rules, ℤ, pos, neg_ℤ, ◌+ℤ◌, ◌*ℤ◌, ◌≤ℤ◌, to_z, of_z, w64, w32, FitsSigned}
use Rattle.std.proofs.lemmas.Int.{ints}
use Rattle.mail_core.specs.DateTokens.{tokens_of}
use Rattle.mail_core.proofs.SentLemmas.{sent-some}
use Rattle.mail_core.proofs.sent_date.sent.Goals as goal

-- nothing is lost in 64 bits
fits64 : (d s : ℤ) → FitsSigned w32 d → neg_ℤ (pos 500_000) ≤ℤ s → s ≤ℤ pos 500_000
    → to_z w64 (of_z w64 (to_z w64 (of_z w64 (to_z w64 (of_z w64 (to_z w32 (of_z w32 d))) *ℤ pos 86400)) +ℤ to_z w64 (of_z w64 (to_z w32 (of_z w32 s))))) ≡ (d *ℤ pos 86400) +ℤ s
fits64 d s f low high = omega (arith, ints, f, low, high)

pub returns-in-Some : goal.returns-in-Some
returns-in-Some c =
    let date = rw c.skip_weekday.ensures at c.in-Some.ensures in
    let fits : FitsSigned w32 c.in-Some.day = search rules in
    let seconds = c.read_seconds_of_day.ensures in
    let whole = fits64 c.in-Some.day c.read_seconds_of_day.result fits seconds.low seconds.high in
    sent-some (tokens_of c.args.date.now) (tokens_of c.in-Some.rest.now) c.args.arrival c.in-Some.day _ c.unwrap_or.result c.new.result date
    (whole ∙ ap (λ (s : ℤ). (c.in-Some.day *ℤ pos 86400) +ℤ s) seconds.value) c.new.ensures c.unwrap_or.ensures
