-- What holds of pages, whatever a mail says.
use Rattle.std.specs.Prelude.{◌≡◌, ℕ, ◌<◌, ◌==◌, nat_lt, Bool, true, not, ◌&&◌, ◌||◌, List, Some, ℤ}
use Rattle.std.specs.List.{All, list_all}
use Rattle.percent_encoding.specs.Percent.{percent_decode}
use Rattle.civil_time.specs.Calendar.{is_instant, month_of_instant, month_of_text}
use Rattle.civil_time.specs.Texts.{instant_month_text}
use Rattle.archive_html.specs.Texts.{html_escaped_text}
use Rattle.archive_html.specs.Links.{percent_encoded}

-- printable ASCII but `"`, `<` and `>`: it neither ends an attribute nor begins or ends a tag
abbrev pub is_html_inert_byte : ℕ → Bool
is_html_inert_byte b = not (nat_lt b 32 || nat_lt 126 b) && (not (b == 60) && (not (b == 62) && not (b == 34)))

abbrev pub IsByte : ℕ → Type 0
IsByte b = b < 256

-- nothing that is shown, and nothing that a link leads to, breaks out of its place
abbrev pub EscapedHtmlIsInert : Type 0
EscapedHtmlIsInert = (text : List ℕ) → list_all is_html_inert_byte (html_escaped_text text) ≡ true

-- nor does an escaped text break out
abbrev pub PercentEncodedIsInert : Type 0
PercentEncodedIsInert = (text : List ℕ) → All IsByte text → list_all is_html_inert_byte (percent_encoded text) ≡ true

-- the target of an author's link, decoded, is the author key
abbrev pub AuthorTargetRoundTrips : Type 0
AuthorTargetRoundTrips = (key : List ℕ) → All IsByte key → percent_decode (percent_encoded key) ≡ key

-- the target of a message's month link, read as a month, is the month in which the message was sent
abbrev pub MonthTargetRoundTrips : Type 0
MonthTargetRoundTrips =
    (sent : ℤ) → is_instant sent ≡ true → month_of_text (instant_month_text sent) ≡ Some (month_of_instant sent)
