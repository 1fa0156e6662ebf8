-- What stands before the first `?` of a target.
use Rattle.std.proofs.Common.{◌≡◌, ◌≢◌, ℕ, suc, ◌<◌, List, [], ◌∷◌, ◌++◌, length, get_or, false, refl, ap, arith, ◌==◌}
use Rattle.std.proofs.lemmas.Bool.Decides.{nat_tests}
use Rattle.archive_requests.specs.Requests.{path_of}

unmarked : (b : ℕ) (bs : List ℕ) → ((i : ℕ) → i < length (b ∷ bs) → get_or (b ∷ bs) i 0 ≢ 63) → (b == 63) ≡ false
unmarked b bs h =
    let n : b ≢ 63 = h 0 (omega arith) in
    grind (arith, nat_tests)

pub path_of-whole : (bs : List ℕ) → ((i : ℕ) → i < length bs → get_or bs i 0 ≢ 63) → bs ≡ path_of bs
path_of-whole [] h = refl
path_of-whole (b ∷ bs) h = rw (unmarked b bs h) (ap (λ r. b ∷ r) (path_of-whole bs (λ i l. h (suc i) (omega arith))))

pub path_of-parted : (xs ys : List ℕ) → ((i : ℕ) → i < length xs → get_or xs i 0 ≢ 63) → xs ≡ path_of (xs ++ 63 ∷ ys)
path_of-parted [] ys h = refl
path_of-parted (b ∷ xs) ys h = rw (unmarked b xs h) (ap (λ r. b ∷ r) (path_of-parted xs ys (λ i l. h (suc i) (omega arith))))
