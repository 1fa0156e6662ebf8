-- What a call answers: 0 where it did what its name says, and else why not.
use Rattle.std.specs.Prelude.{◌≡◌, ℕ, ◌^◌, ◌<◌, ◌⊎◌, List, length}
use Rattle.luvazhimba_c.specs.declared.refusals.Refusal.{Refusal}
use Rattle.luvazhimba_c.specs.declared.refusals.Refusal.TheVariants.{NoRoom, Memory, Arrival, Place, Mbox, TooLong}

-- the call did what its name says
abbrev pub luv_done : ℕ
luv_done = 0

-- an array that the answer goes to has no room for it
abbrev pub luv_no_room : ℕ
luv_no_room = 1

-- a growth of memory was refused
abbrev pub luv_no_memory : ℕ
luv_no_memory = 2

-- an arrival lies outside the years 1900 to 9998
abbrev pub luv_no_instant : ℕ
luv_no_instant = 3

-- a message stands outside the bytes
abbrev pub luv_outside : ℕ
luv_outside = 4

-- the first line that is not empty is no separator line
abbrev pub luv_no_mbox : ℕ
luv_no_mbox = 5

-- an array that is read is too long
abbrev pub luv_too_long : ℕ
luv_too_long = 6

-- why a message is not read at its place
abbrev pub IsMessageReadError : ℕ → Type 0
IsMessageReadError number = (number ≡ luv_no_memory) ⊎ (number ≡ luv_outside) ⊎ (number ≡ luv_no_instant)

-- an array has more elements than 2^40
abbrev pub IsArrayTooLong : {X : Type 0} → List X → Type 0
IsArrayTooLong array = 2 ^ 40 < length array

-- the number of each refusal
abbrev pub refusal_number : Refusal → ℕ
refusal_number NoRoom = luv_no_room
refusal_number Memory = luv_no_memory
refusal_number Arrival = luv_no_instant
refusal_number Place = luv_outside
refusal_number Mbox = luv_no_mbox
refusal_number TooLong = luv_too_long
