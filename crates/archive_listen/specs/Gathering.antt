-- What is gathered before it is passed on.
use Rattle.std.specs.Prelude.{ℕ, List, take, drop}

-- A sink to which bytes are passed on, those that are held back, how many more can be, and how often a write failed.
pub record WriteBufferState (W : Type 0) : Type 0 where
  pub inner : W
  pub held : List ℕ
  pub free : ℕ
  pub failures : ℕ

-- of some room, what lies from the first place up to the last
abbrev pub slice_between : (first last : ℕ) → (room : List ℕ) → List ℕ
slice_between first last room = drop first (take last room)
