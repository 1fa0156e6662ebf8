-- The last step of a sent date.
use Rattle.std.proofs.Common.{◌≡◌, ◌∙◌, ap, sym, List, ℤ, pos, ◌+ℤ◌, ◌*ℤ◌, Option, Some, None, unwrap_or}
use Rattle.civil_time.specs.Calendar.{checked_instant}
use Rattle.mail_core.specs.DateTokens.{Token}
use Rattle.mail_core.specs.Sent.{date_at, without_weekday, utc_seconds_of_time, sent_date_of_tokens}

clipped : ℤ → Option (ℤ × List Token) → ℤ
clipped arrival None = arrival
clipped arrival (Some date) = unwrap_or (checked_instant ((date.0 *ℤ pos 86_400) +ℤ utc_seconds_of_time date.1)) arrival

pub sent-some : (ts rest : List Token) (arrival day n r : ℤ) (o : Option ℤ) → date_at (without_weekday ts) ≡ Some (day, rest)
    → n ≡ (day *ℤ pos 86_400) +ℤ utc_seconds_of_time rest → o ≡ checked_instant n → r ≡ unwrap_or o arrival → r ≡ sent_date_of_tokens ts arrival
unfolding clipped
sent-some ts rest arrival day n r o hd hn ho hr =
    hr ∙ ap (λ (p : Option ℤ). unwrap_or p arrival) (ho ∙ ap checked_instant hn) ∙ sym (ap (clipped arrival) hd)
