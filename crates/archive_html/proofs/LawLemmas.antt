-- The laws of pages.
use Rattle.std.proofs.Common.{◌≡◌, ℕ, ◌==◌, nat_lt, Bool, true, false, ◌&&◌, ◌||◌, List, [], ◌∷◌, ◌++◌, refl, sym, ap, ◌∙◌, if◌then◌else◌, codes}
use Rattle.std.specs.List.{list_all}
use Rattle.std.proofs.lemmas.Bool.{agree_below, agree_below_at}
use Rattle.std.proofs.lemmas.List.Elements.{All-head, All-tail}
use Rattle.percent_encoding.specs.Percent.{percent_decode}
use Rattle.percent_encoding.proofs.PercentLemmas.{round_trip}
use Rattle.archive_html.specs.declared.escapes.TheConstants.{RESERVED}
use Rattle.civil_time.proofs.TextLemmas.{instant_month_read}
use Rattle.archive_html.specs.Texts.{html_escaped_byte, html_escaped_text}
use Rattle.archive_html.specs.Links.{percent_encoded_byte, percent_encoded}
use Rattle.archive_html.specs.Laws.{IsByte, is_html_inert_byte, EscapedHtmlIsInert, PercentEncodedIsInert, AuthorTargetRoundTrips, MonthTargetRoundTrips}
use Rattle.archive_html.proofs.EscapeLemmas.{encoded}

-- ---- texts

all_append : (f : ℕ → Bool) (xs ys : List ℕ) → list_all f xs ≡ true → list_all f ys ≡ true → list_all f (xs ++ ys) ≡ true
all_append f [] ys h k = k
all_append f (x ∷ xs) ys h k = cases (f x) h (all_append f xs ys)
  where
    cases : (t : Bool) → (t && list_all f xs) ≡ true → (list_all f xs ≡ true → list_all f ys ≡ true → list_all f (xs ++ ys) ≡ true) → (t && list_all f (xs ++ ys)) ≡ true
    cases true h later = later h k
    cases false h later = absurd (cc)

shown_inert : (b : ℕ) → list_all is_html_inert_byte (html_escaped_byte b) ≡ true
shown_inert b = cases (nat_lt b 32 || nat_lt 126 b) (b == 38) (b == 60) (b == 62) (b == 34) refl refl refl refl
  where
    cases : (o a l g q : Bool) → (nat_lt b 32 || nat_lt 126 b) ≡ o → (b == 60) ≡ l → (b == 62) ≡ g → (b == 34) ≡ q
        → list_all is_html_inert_byte (if o then codes "?" else if a then codes "&amp;" else if l then codes "&lt;" else if g then codes "&gt;" else if q then codes "&quot;" else b ∷ []) ≡ true
    cases true a l g q eo el eg eq = refl
    cases false true l g q eo el eg eq = refl
    cases false false true g q eo el eg eq = refl
    cases false false false true q eo el eg eq = refl
    cases false false false false true eo el eg eq = refl
    cases false false false false false eo el eg eq = rw (eo, el, eg, eq) refl

pub shown_is_inert : EscapedHtmlIsInert
shown_is_inert [] = refl
shown_is_inert (b ∷ bs) = all_append is_html_inert_byte (html_escaped_byte b) (html_escaped_text bs) (shown_inert b) (shown_is_inert bs)

escapes_inert : agree_below (λ b. list_all is_html_inert_byte (percent_encoded_byte b)) (λ b. true) 256 ≡ true
escapes_inert = refl

pub escaped_is_inert : PercentEncodedIsInert
escaped_is_inert [] small = refl
escaped_is_inert (b ∷ bs) small = all_append is_html_inert_byte (percent_encoded_byte b) (percent_encoded bs)
    (agree_below_at (λ k. list_all is_html_inert_byte (percent_encoded_byte k)) (λ k. true) 256 b escapes_inert (All-head IsByte b bs small))
    (escaped_is_inert bs (All-tail IsByte b bs small))

pub escapes_are_read : AuthorTargetRoundTrips
escapes_are_read key small = ap percent_decode (sym (encoded key small)) ∙ round_trip RESERVED key refl small

-- ---- months

pub months_are_read : MonthTargetRoundTrips
months_are_read z h = instant_month_read z h
