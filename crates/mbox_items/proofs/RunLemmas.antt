-- Runs of bytes that end no token and no line.
use Rattle.std.proofs.Common.{◌≡◌, ◌≢◌, ℕ, Bool, true, false, not, ◌==◌, ◌&&◌, ◌||◌, refl, sym, List, [], ◌∷◌, length}
use Rattle.std.specs.List.{list_any}
use Rattle.civil_time.proofs.DateLemmas.{both}
use Rattle.mbox_items.specs.Separator.{is_sender_token}

-- none of the bytes ends a token or a line
abbrev pub is_plain : ℕ → Bool
is_plain b = not (b == 32) && not (b == 10)

-- a token, of such bytes alone
abbrev pub is_run : List ℕ → Bool
is_run [] = true
is_run (b ∷ bs) = is_plain b && is_run bs

not_true : (b : Bool) → not b ≡ true → b ≡ false
not_true true h = sym h
not_true false h = refl

pub plain_other : (b : ℕ) → is_plain b ≡ true → (b == 32) ≡ false
plain_other b h = not_true (b == 32) (both (not (b == 32)) (not (b == 10)) h).0

pub plain_inside : (b : ℕ) → is_plain b ≡ true → (b == 10) ≡ false
plain_inside b h = not_true (b == 10) (both (not (b == 32)) (not (b == 10)) h).1

-- ---- tokens of a sender

run_of : (t : List ℕ) → list_any (λ b. b == 32) t ≡ false → list_any (λ b. b == 10) t ≡ false → is_run t ≡ true
run_of [] h g = refl
run_of (b ∷ t) h g = cases (b == 32) (b == 10) refl refl h g (run_of t)
  where
    cases : (x y : Bool) → (b == 32) ≡ x → (b == 10) ≡ y → (x || list_any (λ b. b == 32) t) ≡ false → (y || list_any (λ b. b == 10) t) ≡ false
        → (list_any (λ b. b == 32) t ≡ false → list_any (λ b. b == 10) t ≡ false → is_run t ≡ true) → is_run (b ∷ t) ≡ true
    cases true y e f h g later = absurd (cc)
    cases false true e f h g later = absurd (cc)
    cases false false e f h g later = rw (e, f) (later h g)

some_of : (t : List ℕ) → not (length t == 0) ≡ true → t ≢ []
some_of [] h = absurd (cc)
some_of (b ∷ t) h = λ e. cc

pub sender_some : (t : List ℕ) → is_sender_token t ≡ true → t ≢ []
sender_some t h = some_of t (both (not (length t == 0)) (not (list_any (λ b. b == 32) t) && not (list_any (λ b. b == 10) t)) h).0

pub sender_run : (t : List ℕ) → is_sender_token t ≡ true → is_run t ≡ true
sender_run t h =
    let rest = (both (not (length t == 0)) (not (list_any (λ b. b == 32) t) && not (list_any (λ b. b == 10) t)) h).1 in
    let two = both (not (list_any (λ b. b == 32) t)) (not (list_any (λ b. b == 10) t)) rest in
    run_of t (not_true (list_any (λ b. b == 32) t) two.0) (not_true (list_any (λ b. b == 10) t) two.1)
