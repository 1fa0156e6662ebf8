-- The form of keys.
use Rattle.std.proofs.Common.{◌≡◌, ℕ, zero, suc, inl, inr, ◌<◌, ◌/◌, ◌%◌, ◌==◌, Bool, true, ◌&&◌, List, [], ◌∷◌, length, slice_index, refl, ◌∙◌, arith}
use Rattle.std.specs.List.{list_all}
use Rattle.std.specs.Str.{IsAscii, IsUtf8}
use Rattle.std.proofs.lemmas.Bool.{and_parts, cases_lt, eq-eqb}
use Rattle.std.proofs.lemmas.Bool.Decides.{nat_tests}
use Rattle.std.proofs.lemmas.Str.{IsUtf8-from_ascii}
use Rattle.std.proofs.lemmas.Str.Ascii.{IsAscii-nil, IsAscii-cons}
use Rattle.hex.specs.Hex.{encode_with, encode_lower, lower_digits}
use Rattle.hex.proofs.HexLemmas.{length-encode_with}
use Rattle.archive_model.specs.Keys.{is_key, is_key_digit}

ascii_digit : (b : ℕ) → is_key_digit b ≡ true → b < 128
ascii_digit b h = grind (arith, nat_tests, h)

IsAscii-digits : (bs : List ℕ) → list_all is_key_digit bs ≡ true → IsAscii bs
IsAscii-digits [] h = IsAscii-nil
IsAscii-digits (b ∷ bs) h =
    let parts = and_parts (is_key_digit b) (list_all is_key_digit bs) h in
    IsAscii-cons b bs (ascii_digit b parts.0) (IsAscii-digits bs parts.1)

pub IsUtf8-key : (bs : List ℕ) → is_key bs ≡ true → IsUtf8 bs
IsUtf8-key bs h = IsUtf8-from_ascii bs (IsAscii-digits bs (and_parts (length bs == 64) (list_all is_key_digit bs) h).1)

-- each of the first n digits of the table passes the test
are_digits : ℕ → Bool
are_digits zero = true
are_digits (suc n) = is_key_digit (slice_index lower_digits n) && are_digits n

digit_below : (n k : ℕ) → are_digits n ≡ true → k < n → is_key_digit (slice_index lower_digits k) ≡ true
unfolding are_digits
digit_below zero k h lt = absurd (omega (arith, lt))
digit_below (suc n) k h lt =
    let parts = and_parts (is_key_digit (slice_index lower_digits n)) (are_digits n) h in
    elim (cases_lt k n) [
      | inl below ↦ digit_below n k parts.1 below
      | inr top ↦ let e : k ≡ n = omega (arith, top, lt) in rw e parts.0
    ]

sixteen : are_digits 16 ≡ true
unfolding are_digits
sixteen = refl

IsBytes : List ℕ → Type 0
IsBytes bs = (i : ℕ) → slice_index bs i < 256

later : (b : ℕ) (bs : List ℕ) → IsBytes (b ∷ bs) → IsBytes bs
unfolding IsBytes
later b bs fits = λ i. fits (suc i)

both : (a b c : Bool) → a ≡ true → b ≡ true → c ≡ true → (a && (b && c)) ≡ true
both a b c p q r = rw (p, q, r) refl

are_key_digits : (bs : List ℕ) → IsBytes bs → list_all is_key_digit (encode_lower bs) ≡ true
unfolding encode_with IsBytes
are_key_digits [] fits = refl
are_key_digits (b ∷ bs) fits =
    let byte : b < 256 = fits 0 in
    both _ _ _ (digit_below 16 (b / 16) sixteen (omega (arith, byte))) (digit_below 16 (b % 16) sixteen (omega arith))
    (are_key_digits bs (later b bs fits))

both_two : (a b : Bool) → a ≡ true → b ≡ true → (a && b) ≡ true
both_two a b p q = rw (p, q) refl

-- 32 bytes have 64 digits
pub is_key-encode_lower : (bs : List ℕ) → length bs ≡ 32 → ((i : ℕ) → slice_index bs i < 256) → is_key (encode_lower bs) ≡ true
unfolding IsBytes
is_key-encode_lower bs len fits =
    both_two _ _ (eq-eqb (length (encode_lower bs)) 64 (length-encode_with lower_digits bs ∙ omega (arith, len))) (are_key_digits bs fits)
