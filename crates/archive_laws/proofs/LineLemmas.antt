-- A row of a page is one line: no part of it has an LF.
use Rattle.std.proofs.Common.{◌≡◌, ◌∙◌, ◌⊎◌, inl, inr, ℕ, zero, suc, ℤ, ◌<◌, ◌≤◌, ◌+◌, ◌/◌, ◌%◌, ◌==◌, nat_lt, nat_le}
use Rattle.std.proofs.Common.{List, [], ◌∷◌, ◌++◌, length, get_or, Bool, true, false, cond, not, refl, sym, ap, arith, codes, decimal}
use Rattle.std.specs.List.{list_all}
use Rattle.std.proofs.lemmas.Bool.{and_parts, cases_lt}
use Rattle.std.proofs.lemmas.Bool.Decides.{nat_tests}
use Rattle.std.proofs.lemmas.Fmt.{decimal_digit, decimal_is_IsNumeral}
use Rattle.std.specs.Str.Parse.{digits_value}
use Rattle.hex.specs.Hex.{encode_with, lower_digits}
use Rattle.hex.proofs.HexLemmas.{length-encode_with}
use Rattle.sha2.proofs.Facts256.{length-sha256}
use Rattle.sha2.specs.Sha256.{sha256}
use Rattle.mbox_items.specs.Separator.{joined_by_spaces}
use Rattle.civil_time.specs.Digits.{as_two_digits, as_four_digits}
use Rattle.civil_time.specs.Clock.{second_of_day}
use Rattle.civil_time.specs.Dates.{Date, date_of_instant}
use Rattle.civil_time.specs.Texts.{year_month_text, full_date_text, hour_minute_text, instant_text, instant_month_text}
use Rattle.policy_core.specs.Names.{is_name, is_name_byte}
use Rattle.archive_model.specs.Keys.{key_of}
use Rattle.archive_results.specs.Shown.{Line}
use Rattle.archive_html.specs.Texts.{html_escaped_text}
use Rattle.archive_html.specs.Laws.{is_html_inert_byte}
use Rattle.archive_html.specs.Links.{is_unreserved, hex_digit, percent_encoded_byte, percent_encoded, link, list_path, month_link, author_link, subject_text, message_link, thread_link}
use Rattle.archive_html.proofs.LawLemmas.{shown_is_inert}
use Rattle.archive_html.proofs.RowLemmas.{two_digits}
use Rattle.archive_laws.proofs.ByteLemmas.{both, weaker}
use Rattle.archive_laws.proofs.AskingLemmas.{name_bytes}

unfoldable pub no_lf : ℕ → Bool
no_lf b = not (b == 10)

abbrev pub IsLine : List ℕ → Type 0
IsLine text = list_all no_lf text ≡ true

-- ---- digits

no_lf_above : (n b : ℕ) → 10 < n → no_lf (n + b) ≡ true
unfolding no_lf
no_lf_above n b h = grind (arith, nat_tests, h)

two_line : (n : ℕ) → IsLine (as_two_digits n)
two_line n = rw (no_lf_above 48 (n / 10) (omega arith), no_lf_above 48 (n % 10) (omega arith)) refl

four_line : (n : ℕ) → IsLine (as_four_digits n)
four_line n = both no_lf (as_two_digits (n / 100)) (as_two_digits (n % 100)) (two_line (n / 100)) (two_line (n % 100))

-- a digit of a depth
unfoldable pub is_digit : ℕ → Bool
is_digit b = nat_le 48 b

pub depth_digits : (n : ℕ) → n ≤ 20 → list_all is_digit (decimal n) ≡ true
unfolding is_digit
depth_digits n low = by (cases_lt n 10)
  where
    above : (d : ℕ) → nat_le 48 (48 + d) ≡ true
    above d = grind (arith, nat_tests)

    by : (n < 10) ⊎ (10 ≤ n) → list_all is_digit (decimal n) ≡ true
    by (inl small) = rw (decimal_digit n small, above n) refl
    by (inr large) = rw (two_digits n large low, above (n / 10), above (n % 10)) refl

digit_no_lf : (b : ℕ) → is_digit b ≡ true → no_lf b ≡ true
unfolding is_digit no_lf
digit_no_lf b h = grind (arith, nat_tests, h)

pub depth_alike : (n m : ℕ) → n ≤ 20 → m ≤ 20 → decimal n ≡ decimal m → n ≡ m
depth_alike n m low too e =
    sym (decimal_is_IsNumeral n (omega (arith, low))).1 ∙ ap (digits_value 10) e ∙ (decimal_is_IsNumeral m (omega (arith, too))).1

-- ---- keys

digit_in : (xs : List ℕ) → IsLine xs → (n : ℕ) → no_lf (get_or xs n 0) ≡ true
unfolding no_lf
digit_in [] h n = refl
digit_in (x ∷ xs) h zero = (and_parts (no_lf x) (list_all no_lf xs) h).0
digit_in (x ∷ xs) h (suc n) = digit_in xs (and_parts (no_lf x) (list_all no_lf xs) h).1 n

digits_line : IsLine lower_digits
unfolding no_lf
digits_line = refl

hex_line : (bytes : List ℕ) → IsLine (encode_with lower_digits bytes)
unfolding encode_with
hex_line [] = refl
hex_line (b ∷ bytes) = rw (digit_in lower_digits digits_line (b / 16), digit_in lower_digits digits_line (b % 16), hex_line bytes) refl

pub key_line : (text : List ℕ) → IsLine (key_of text)
key_line text = hex_line (sha256 text)

pub key_length : (text : List ℕ) → length (key_of text) ≡ 64
key_length text = let e = length-encode_with lower_digits (sha256 text) in let l = length-sha256 text in omega (arith, e, l)

-- ---- names and texts

pub name_line : (name : List ℕ) → is_name name ≡ true → IsLine name
unfolding no_lf
name_line name is = weaker is_name_byte no_lf byte name (name_bytes name is)
  where
    byte : (b : ℕ) → is_name_byte b ≡ true → not (b == 10) ≡ true
    byte b h = grind (arith, nat_tests, h)

shown_line : (text : List ℕ) → IsLine (html_escaped_text text)
unfolding no_lf
shown_line text = weaker is_html_inert_byte no_lf byte (html_escaped_text text) (shown_is_inert text)
  where
    byte : (b : ℕ) → is_html_inert_byte b ≡ true → not (b == 10) ≡ true
    byte b h = grind (arith, nat_tests, h)

hex_no_lf : (n : ℕ) → no_lf (hex_digit n) ≡ true
hex_no_lf n = by (nat_lt n 10)
  where
    by : (t : Bool) → no_lf (cond t (48 + n) (55 + n)) ≡ true
    by true = no_lf_above 48 n (omega arith)
    by false = no_lf_above 55 n (omega arith)

plain_no_lf : (b : ℕ) → is_unreserved b ≡ true → no_lf b ≡ true
unfolding no_lf
plain_no_lf b h = grind (arith, nat_tests, h)

percent_no_lf : no_lf 37 ≡ true
unfolding no_lf
percent_no_lf = refl

escaped_line : (text : List ℕ) → IsLine (percent_encoded text)
escaped_line [] = refl
escaped_line (b ∷ bs) = both no_lf (percent_encoded_byte b) (percent_encoded bs) (by (is_unreserved b) refl) (escaped_line bs)
  where
    by : (t : Bool) → is_unreserved b ≡ t → IsLine (cond t (b ∷ []) (37 ∷ hex_digit (b / 16) ∷ hex_digit (b % 16) ∷ []))
    by true e = rw (plain_no_lf b e) refl
    by false e = rw (percent_no_lf, hex_no_lf (b / 16), hex_no_lf (b % 16)) refl

-- ---- links

link_line : (target text : List ℕ) → IsLine target → IsLine text → IsLine (link target text)
unfolding no_lf
link_line target text ht hx =
    both no_lf (codes "<a href=\"") (target ++ (codes "\">" ++ (text ++ codes "</a>"))) refl
    (both no_lf target (codes "\">" ++ (text ++ codes "</a>")) ht
    (both no_lf (codes "\">") (text ++ codes "</a>") refl
    (both no_lf text (codes "</a>") hx refl)))

path_line : (list rest : List ℕ) → IsLine list → IsLine rest → IsLine (list_path list rest)
unfolding no_lf
path_line list rest hl hr = both no_lf (codes "/l/") (list ++ rest) refl (both no_lf list rest hl hr)

year_month_line : (year month : ℕ) → IsLine (year_month_text year month)
unfolding no_lf
year_month_line year month =
    both no_lf (as_four_digits year) (45 ∷ as_two_digits month) (four_line year) (both no_lf (45 ∷ []) (as_two_digits month) refl (two_line month))

date_line : (date : Date) → IsLine (full_date_text date)
unfolding no_lf
date_line date =
    both no_lf (year_month_text date.year date.month) (45 ∷ as_two_digits date.day) (year_month_line date.year date.month)
    (both no_lf (45 ∷ []) (as_two_digits date.day) refl (two_line date.day))

clock_line : (seconds : ℕ) → IsLine (hour_minute_text seconds)
unfolding no_lf
clock_line seconds =
    both no_lf (as_two_digits (seconds / 3600)) (58 ∷ as_two_digits (seconds / 60 % 60)) (two_line (seconds / 3600))
    (both no_lf (58 ∷ []) (as_two_digits (seconds / 60 % 60)) refl (two_line (seconds / 60 % 60)))

instant_line : (sent : ℤ) → IsLine (instant_text sent)
unfolding instant_text no_lf
instant_line sent =
    both no_lf (full_date_text (date_of_instant sent)) (32 ∷ hour_minute_text (second_of_day sent)) (date_line (date_of_instant sent))
    (both no_lf (32 ∷ []) (hour_minute_text (second_of_day sent)) refl (clock_line (second_of_day sent)))

month_of_line : (sent : ℤ) → IsLine (instant_month_text sent)
unfolding instant_month_text
month_of_line sent = let date : Date = date_of_instant sent in year_month_line date.year date.month

month_line : (list : List ℕ) (sent : ℤ) → IsLine list → IsLine (month_link list sent)
unfolding month_link no_lf
month_line list sent hl =
    link_line (list_path list (codes "/month/" ++ instant_month_text sent)) (instant_text sent)
    (path_line list (codes "/month/" ++ instant_month_text sent) hl (both no_lf (codes "/month/") (instant_month_text sent) refl (month_of_line sent)))
    (instant_line sent)

author_line : (list author : List ℕ) → IsLine list → IsLine (author_link list author)
unfolding author_link no_lf
author_line list author hl = by (length author == 0)
  where
    by : (t : Bool) → IsLine (cond t (codes "(none)") (link (list_path list (codes "/by/" ++ percent_encoded author)) (html_escaped_text author)))
    by true = refl
    by false = link_line (list_path list (codes "/by/" ++ percent_encoded author)) (html_escaped_text author)
        (path_line list (codes "/by/" ++ percent_encoded author) hl (both no_lf (codes "/by/") (percent_encoded author) refl (escaped_line author))) (shown_line author)

subject_line : (subject : List ℕ) → IsLine (subject_text subject)
unfolding subject_text no_lf
subject_line subject = by (length subject == 0)
  where
    by : (t : Bool) → IsLine (cond t (codes "(no subject)") (html_escaped_text subject))
    by true = refl
    by false = shown_line subject

message_line : (list key subject : List ℕ) → IsLine list → IsLine key → IsLine (message_link list key subject)
unfolding message_link no_lf
message_line list key subject hl hk = link_line (list_path list (codes "/m/" ++ key)) (subject_text subject)
    (path_line list (codes "/m/" ++ key) hl (both no_lf (codes "/m/") key refl hk)) (subject_line subject)

thread_line : (list key : List ℕ) → IsLine list → IsLine key → IsLine (thread_link list key)
unfolding thread_link no_lf
thread_line list key hl hk = link_line (list_path list (codes "/t/" ++ key)) (codes "thread")
    (path_line list (codes "/t/" ++ key) hl (both no_lf (codes "/t/") key refl hk)) refl

-- ---- a row, without its LF

abbrev pub row_line : (depth : ℕ) → (parts : List (List ℕ)) → List ℕ
row_line depth parts = codes "<div class=\"d" ++ (decimal depth ++ (codes "\">" ++ (joined_by_spaces parts ++ codes "</div>")))

pub line_is : (depth : ℕ) (parts : List (List ℕ)) → depth ≤ 20 → IsLine (joined_by_spaces parts) → IsLine (row_line depth parts)
unfolding no_lf
line_is depth parts low hp =
    both no_lf (codes "<div class=\"d") (decimal depth ++ (codes "\">" ++ (joined_by_spaces parts ++ codes "</div>"))) refl
    (both no_lf (decimal depth) (codes "\">" ++ (joined_by_spaces parts ++ codes "</div>")) (weaker is_digit no_lf digit_no_lf (decimal depth) (depth_digits depth low))
    (both no_lf (codes "\">") (joined_by_spaces parts ++ codes "</div>") refl
    (both no_lf (joined_by_spaces parts) (codes "</div>") hp refl)))

abbrev pub parts_of : (list : List ℕ) → Line → List (List ℕ)
parts_of list line =
    month_link list line.sent ∷ author_link list line.author ∷ message_link list line.key line.subject ∷ thread_link list line.key ∷ []

spaced_line : (xs ys : List ℕ) → IsLine xs → IsLine ys → IsLine (xs ++ 32 ∷ ys)
unfolding no_lf
spaced_line xs ys hx hy = both no_lf xs (32 ∷ ys) hx (both no_lf (32 ∷ []) ys refl hy)

pub parts_line : (list : List ℕ) (line : Line) → IsLine list → IsLine line.key → IsLine (joined_by_spaces (parts_of list line))
parts_line list line hl hk =
    let last : List ℕ = message_link list line.key line.subject ++ 32 ∷ thread_link list line.key in
    let ends : IsLine last = spaced_line (message_link list line.key line.subject) (thread_link list line.key)
    (message_line list line.key line.subject hl hk) (thread_line list line.key hl hk) in
    spaced_line (month_link list line.sent) (author_link list line.author ++ 32 ∷ last) (month_line list line.sent hl)
    (spaced_line (author_link list line.author) last (author_line list line.author hl) ends)
