-- What devices told, one call after another.
use Rattle.std.proofs.Common.{◌≡◌, ◌≢◌, ℕ, zero, suc, ◌+◌, ◌-◌, List, [], ◌∷◌, ◌++◌, length, take, drop, refl, arith, append_assoc, ◌∙◌, Ok}
use Rattle.std.proofs.Math.Seq.{take-add}
use Rattle.std.proofs.lemmas.Grind.{common_steps}
use Rattle.byte_device.specs.Device.{failures_of_write}

-- a write that took some byte is no failure
pub written_faults-some : (E : Type 0) (bytes : List ℕ) (n : ℕ) → n ≢ 0 → failures_of_write {E = E} bytes (Ok n) ≡ 0
written_faults-some E [] n some = refl
written_faults-some E (b ∷ bytes) zero some = absurd (some refl)
written_faults-some E (b ∷ bytes) (suc n) some = refl

-- the range that a loop writes is the rest of the bytes
pub rest_of : (n : ℕ) (bytes : List ℕ) → take (length bytes - n) (drop n bytes) ≡ drop n bytes
rest_of n bytes = grind (arith, common_steps)

-- what was told of a text, and then the next bytes of it
pub told-more : (before now after bytes : List ℕ) (n k : ℕ)
    → now ≡ before ++ take n bytes → after ≡ now ++ take k (drop n bytes) → after ≡ before ++ take (n + k) bytes
told-more before now after bytes n k so_far next =
    next ∙ rw (so_far, take-add n k bytes) (append_assoc before (take n bytes) (take k (drop n bytes)))
