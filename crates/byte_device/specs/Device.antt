-- What a call of a device counts as, beside the bytes that it moves.
use Rattle.std.specs.Prelude.{◌≡◌, ◌<◌, ℕ, zero, suc, List, [], ◌∷◌, length, Result, Ok, Err}

-- what a read adds to the failures: one where it failed
abbrev pub failures_of_read : {E : Type 0} → Result ℕ E → ℕ
failures_of_read (Err e) = 1
failures_of_read (Ok n) = 0

-- what a read adds to the ends that were met: one where it gave no byte for a buffer with room
abbrev pub ends_met_by_read : {E : Type 0} → List ℕ → Result ℕ E → ℕ
ends_met_by_read room (Err e) = 0
ends_met_by_read [] (Ok n) = 0
ends_met_by_read (b ∷ room) (Ok zero) = 1
ends_met_by_read (b ∷ room) (Ok (suc n)) = 0

-- what a write adds to the failures: one where it failed, or took no byte of some
abbrev pub failures_of_write : {E : Type 0} → List ℕ → Result ℕ E → ℕ
failures_of_write bytes (Err e) = 1
failures_of_write [] (Ok n) = 0
failures_of_write (b ∷ bytes) (Ok zero) = 1
failures_of_write (b ∷ bytes) (Ok (suc n)) = 0

-- a reader or a writer, with what it told and what was counted
pub record CountedState (D : Type 0) : Type 0 where
  pub inner : D
  pub told : List ℕ
  pub failures : ℕ
  pub ends : ℕ

-- a device that passes so many bytes and then fails
pub record TapState : Type 0 where
  -- the bytes that it was made of and those that were written since
  pub text : List ℕ
  -- how many of them were read
  pub at : ℕ
  -- how many bytes may still pass, in either direction
  pub left : ℕ
  -- what was read, and what was written
  pub read : List ℕ
  pub written : List ℕ
  -- how often a read or a write failed, and how often a read met the end
  pub failures : ℕ
  pub ends : ℕ

-- a call that asks for some byte while none may pass
abbrev pub ExceedsByteLimit : TapState → List ℕ → Type 0
ExceedsByteLimit t asked = (t.left ≡ 0) × (0 < length asked)
