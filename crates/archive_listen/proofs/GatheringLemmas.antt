-- What is still held back.
use Rattle.std.proofs.Common.{◌≡◌, ◌≤◌, ◌<◌, ℕ, suc, ◌+◌, ◌-◌, List, [], ◌∷◌, ◌++◌, length, take, drop, drop-drop, length-take, min, refl, sym, ap, arith, append_assoc, ◌∙◌, Ok}
use Rattle.std.proofs.lemmas.List.{drop-take, take-append-drop}
use Rattle.byte_device.specs.Device.{failures_of_write}
use Rattle.byte_device.proofs.DeviceLemmas.{written_faults-some}

-- there are as many as lie between the two places, or fewer
pub rest_size : (first last : ℕ) (room : List ℕ) → length (take (last - first) (drop first room)) ≤ last - first
rest_size first last room = omega (arith, length-take (last - first) (drop first room))

-- after the first `k` of them were passed on
pub rest_passed : (first last k : ℕ) (room before now : List ℕ) → first ≤ last
    → now ≡ before ++ take k (take (last - first) (drop first room))
    → now ++ drop (first + k) (take last room) ≡ before ++ drop first (take last room)
rest_passed first last k room before now order told =
    let m = last - first in
    let sum : first + m ≡ last = omega (arith, order) in
    let piece : drop first (take last room) ≡ take m (drop first room) =
    ap (λ n. drop first (take n room)) (sym sum) ∙ drop-take first m room in
    let rest : drop (first + k) (take last room) ≡ drop k (take m (drop first room)) =
    sym (drop-drop k first (take last room)) ∙ ap (λ (t : List ℕ). drop k t) piece in
    ap (λ (t : List ℕ). t ++ drop (first + k) (take last room)) told
    ∙ ap (λ (t : List ℕ). (before ++ take k (take m (drop first room))) ++ t) rest
    ∙ append_assoc before (take k (take m (drop first room))) (drop k (take m (drop first room)))
    ∙ ap (λ (t : List ℕ). before ++ t) (take-append-drop k (take m (drop first room)) ∙ sym piece)

-- a write that takes as many as fit is no failure, where one fits
pub taken_fits : (E : Type 0) (bytes : List ℕ) (free : ℕ) → 0 < free → failures_of_write {E = E} bytes (Ok (min (length bytes) free)) ≡ 0
taken_fits E [] free some = refl
taken_fits E (b ∷ bytes) free some = written_faults-some E (b ∷ bytes) (min (suc (length bytes)) free) (λ none. omega (arith, some, none))
