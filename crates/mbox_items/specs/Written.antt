-- Messages as they are written (RFC 4155, appendix A): a separator line with the sender, one space, and the time in UTC
-- in the form of C's `ctime`; the whole text; and an empty line.
use Rattle.std.specs.Prelude.{◌≡◌, ℕ, ◌+◌, ◌-◌, ◌/◌, ◌%◌, ◌≤◌, nat_lt, true, List, [], ◌∷◌, ◌++◌, length, take, if◌then◌else◌, ℤ, codes}
use Rattle.civil_time.specs.Calendar.{weekday, is_instant, day_of_instant}
use Rattle.civil_time.specs.Clock.{second_of_day}
use Rattle.civil_time.specs.Dates.{Date, date_of_day}
use Rattle.civil_time.specs.Digits.{as_two_digits, as_four_digits}
use Rattle.civil_time.specs.Names.{name_at, weekday_names, month_names}
use Rattle.mail_core.specs.Lines.{lines}
use Rattle.mbox_items.specs.Separator.{Envelope, IsSenderText, joined_by_spaces}
use Rattle.mbox_items.specs.Division.{Item, NoneSeparates, whole}

-- two digits, and a number below 10 with a space in place of the first
abbrev pub as_day_digits : ℕ → List ℕ
as_day_digits n = if nat_lt n 10 then 32 ∷ (48 + n) ∷ [] else as_two_digits n

-- `hh:mm:ss`, of the seconds in a day
abbrev pub clock_text : ℕ → List ℕ
clock_text s = as_two_digits (s / 3600) ++ 58 ∷ (as_two_digits (s / 60 % 60) ++ 58 ∷ as_two_digits (s % 60))

-- `Www Mmm dd hh:mm:ss yyyy`
abbrev pub ctime_text : ℕ → Date → ℕ → List ℕ
ctime_text weekday date seconds = joined_by_spaces (
    name_at weekday weekday_names ∷ name_at (date.month - 1) month_names ∷ as_day_digits date.day
    ∷ clock_text seconds ∷ as_four_digits date.year ∷ [])

unfoldable pub time_text : ℤ → List ℕ
time_text instant =
    let day = day_of_instant instant in
    ctime_text (weekday day) (date_of_day day) (second_of_day instant)

-- what the canonical separator line of an envelope says
abbrev pub separator_line_text : Envelope → List ℕ
separator_line_text envelope = joined_by_spaces (codes "From" ∷ envelope.sender ∷ time_text envelope.arrival ∷ [])

-- a separator line with a sender of two tokens, and what follows it
abbrev pub two_token_separator_line : List ℕ → List ℕ → List ℕ → List ℕ
two_token_separator_line left right end = codes "From " ++ (joined_by_spaces (left ∷ codes "at" ∷ right ∷ []) ++ end)

-- a text, and the LF that ends a line
abbrev pub with_lf : List ℕ → List ℕ
with_lf text = text ++ codes "\n"

-- a message as it is written: its separator line, its whole text, and an empty line
abbrev pub written_item : Item → List ℕ
written_item item = with_lf (separator_line_text item.envelope) ++ with_lf (whole item.text)

-- the mbox (RFC 4155, appendix A) of these messages, in their order; no line of a text is quoted with `>`
abbrev pub written : List Item → List ℕ
written [] = []
written (item ∷ items) = written_item item ++ written items

-- of some text exactly the first `count` bytes were written
abbrev pub AppendsPrefixOfText : List ℕ → List ℕ → List ℕ → ℕ → Type 0
AppendsPrefixOfText before after text count = (count ≤ length text) × (after ≡ before ++ take count text)

-- a message whose text is the whole text
abbrev pub whole_item : Item → Item
whole_item item = record { envelope = item.envelope; text = whole item.text }

-- the sender is a written form, and the arrival lies in the years 1900 to 9998
pub record IsEnvelope (envelope : Envelope) : Type 0 where
  pub is_sender_text : IsSenderText envelope.sender
  pub arrival_is_instant : is_instant envelope.arrival ≡ true

-- what each message is: no line of its whole text is a separator line that follows an empty line
pub record IsItem (item : Item) : Type 0 where
  pub is_envelope : IsEnvelope item.envelope
  pub no_line_separates : NoneSeparates (lines (whole item.text))
