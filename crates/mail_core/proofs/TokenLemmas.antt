-- The tokens of a text, one after the other.
use Rattle.std.proofs.Common.{◌≡◌, ℕ, zero, suc, ◌+◌, ◌-◌, ◌≤◌, Bool, true, false, ◌==◌, List, [], ◌∷◌, length, take, drop, refl, arith, ap, ◌∙◌, sym, Option, Some, None, length-drop}
use Rattle.std.specs.List.{prefix_len, take_while}
use Rattle.std.specs.Char.{is_ascii_alphabetic}
use Rattle.mail_core.specs.Comments.{after_closing_paren}
use Rattle.civil_time.specs.Digits.{is_digit}
use Rattle.mail_core.specs.DateTokens.{Token, is_white, byte_kind_by_tests, token_byte_kind, token_at, add_token, tokens_from, tokens_of}
use Rattle.mail_core.specs.DateTokens.TokenByteKind.{white, digit, letter, paren, other}
use Rattle.mail_core.specs.DateTokens.Token.{digits, letters, sign}

pub tokens-nil : tokens_of [] ≡ []
unfolding tokens_of tokens_from
tokens-nil = refl

tokens-skip : (xs : List ℕ) (k : ℕ) → tokens_from k xs ≡ tokens_of (drop k xs)
unfolding tokens_of tokens_from
tokens-skip xs zero = refl
tokens-skip [] (suc k) = refl
tokens-skip (x ∷ xs) (suc k) = tokens-skip xs k

tokens-cons : (b : ℕ) (bs : List ℕ) (o : Option Token) (n : ℕ) → token_at b bs ≡ (o, n) → tokens_of (b ∷ bs) ≡ add_token o (tokens_of (drop n bs))
unfolding tokens_of tokens_from
tokens-cons b bs o n h = ap (λ (t : Option Token × ℕ). add_token t.0 (tokens_from t.1 bs)) h ∙ ap (add_token o) (tokens-skip bs n)

kind-white : (b : ℕ) → is_white b ≡ true → token_byte_kind b ≡ white
unfolding token_byte_kind
kind-white b h = ap (λ (p : Bool). byte_kind_by_tests p (is_digit b) (is_ascii_alphabetic b) (b == 40)) h

kind-digit : (b : ℕ) → is_white b ≡ false → is_digit b ≡ true → token_byte_kind b ≡ digit
unfolding token_byte_kind
kind-digit b w h = ap (λ (p : Bool). byte_kind_by_tests p (is_digit b) (is_ascii_alphabetic b) (b == 40)) w ∙ ap (λ (p : Bool). byte_kind_by_tests false p (is_ascii_alphabetic b) (b == 40)) h

kind-letter : (b : ℕ) → is_white b ≡ false → is_digit b ≡ false → is_ascii_alphabetic b ≡ true → token_byte_kind b ≡ letter
unfolding token_byte_kind
kind-letter b w d h =
    ap (λ (p : Bool). byte_kind_by_tests p (is_digit b) (is_ascii_alphabetic b) (b == 40)) w ∙ ap (λ (p : Bool). byte_kind_by_tests false p (is_ascii_alphabetic b) (b == 40)) d
    ∙ ap (λ (p : Bool). byte_kind_by_tests false false p (b == 40)) h

kind-other : (b : ℕ) → is_white b ≡ false → is_digit b ≡ false → is_ascii_alphabetic b ≡ false → (b == 40) ≡ false → token_byte_kind b ≡ other
unfolding token_byte_kind
kind-other b w d a h =
    ap (λ (p : Bool). byte_kind_by_tests p (is_digit b) (is_ascii_alphabetic b) (b == 40)) w ∙ ap (λ (p : Bool). byte_kind_by_tests false p (is_ascii_alphabetic b) (b == 40)) d
    ∙ ap (λ (p : Bool). byte_kind_by_tests false false p (b == 40)) a ∙ ap (λ (p : Bool). byte_kind_by_tests false false false p) h

kind-paren : token_byte_kind 40 ≡ paren
unfolding token_byte_kind
kind-paren = refl

pub tokens-white : (b : ℕ) (bs : List ℕ) → is_white b ≡ true → tokens_of (b ∷ bs) ≡ tokens_of bs
unfolding token_at
tokens-white b bs h = tokens-cons b bs None 0 (rw (kind-white b h, token_at) refl)

prefix-more : (test : ℕ → Bool) (b : ℕ) (bs : List ℕ) → test b ≡ true → drop {A = ℕ} (prefix_len test (b ∷ bs)) (b ∷ bs) ≡ drop (prefix_len test bs) bs
prefix-more test b bs h = rw h (ap (λ (n : ℕ). drop n (b ∷ bs)) (let e : 1 + prefix_len test bs ≡ suc (prefix_len test bs) = omega arith in e))

pub tokens-digits : (b : ℕ) (bs : List ℕ) → is_white b ≡ false → is_digit b ≡ true
    → tokens_of (b ∷ bs) ≡ digits (take (prefix_len is_digit (b ∷ bs)) (b ∷ bs)) ∷ tokens_of (drop (prefix_len is_digit (b ∷ bs)) (b ∷ bs))
unfolding token_at
tokens-digits b bs w h =
    tokens-cons b bs (Some (digits (take_while is_digit (b ∷ bs)))) (prefix_len is_digit bs) (rw (kind-digit b w h, token_at) refl)
    ∙ ap (λ (l : List ℕ). digits (take_while is_digit (b ∷ bs)) ∷ tokens_of l) (sym (prefix-more is_digit b bs h))

pub tokens-letters : (b : ℕ) (bs : List ℕ) → is_white b ≡ false → is_digit b ≡ false → is_ascii_alphabetic b ≡ true
    → tokens_of (b ∷ bs) ≡ letters (take (prefix_len is_ascii_alphabetic (b ∷ bs)) (b ∷ bs)) ∷ tokens_of (drop (prefix_len is_ascii_alphabetic (b ∷ bs)) (b ∷ bs))
unfolding token_at
tokens-letters b bs w d h =
    tokens-cons b bs (Some (letters (take_while is_ascii_alphabetic (b ∷ bs)))) (prefix_len is_ascii_alphabetic bs) (rw (kind-letter b w d h, token_at) refl)
    ∙ ap (λ (l : List ℕ). letters (take_while is_ascii_alphabetic (b ∷ bs)) ∷ tokens_of l) (sym (prefix-more is_ascii_alphabetic b bs h))

pub tokens-sign : (b : ℕ) (bs : List ℕ) → is_white b ≡ false → is_digit b ≡ false → is_ascii_alphabetic b ≡ false → (b == 40) ≡ false
    → tokens_of (b ∷ bs) ≡ sign b ∷ tokens_of bs
unfolding token_at
tokens-sign b bs w d a p = tokens-cons b bs (Some (sign b)) 0 (rw (kind-other b w d a p, token_at) refl)

pub tokens-open : (b : ℕ) (bs : List ℕ) → b ≡ 40 → after_closing_paren false 1 bs ≡ None → tokens_of (b ∷ bs) ≡ sign b ∷ tokens_of bs
unfolding token_at
tokens-open b bs e h = rw e (tokens-cons 40 bs (Some (sign 40)) 0 (rw (kind-paren, h, token_at) refl))

pub tokens-comment : (b : ℕ) (bs : List ℕ) (e : ℕ) → b ≡ 40 → e ≤ length bs → after_closing_paren false 1 bs ≡ Some (drop e bs) → tokens_of (b ∷ bs) ≡ tokens_of (drop e bs)
unfolding token_at
tokens-comment b bs e s le h =
    rw s (tokens-cons 40 bs None (length bs - length (drop e bs)) (rw (kind-paren, h, token_at) refl) ∙ ap (λ (n : ℕ). tokens_of (drop n bs))
    (let k : length bs - length (drop e bs) ≡ e = simp length-drop (omega arith) in k))
