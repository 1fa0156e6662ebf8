-- A cutter that is fed an mbox in pieces.
use Rattle.std.specs.Prelude.{◌≡◌, ℕ, List, ◌++◌, Bool, true, false, Result, Ok, Err}
use Rattle.mbox_core.specs.Division.{Item, DividesIntoItems, IsPreamble}
use Rattle.mbox_stream.specs.Stream.{IsBeginning, settled_items, IsSettledPreamble, IsOffsetUnlessOverflow}
use Rattle.mbox_core.specs.declared.faults.MboxFault.{MboxFault}
use Rattle.mbox_core.specs.declared.faults.MboxFault.TheVariants.{Preamble, Read, Memory, Failed}
use Rattle.mbox_stream.specs.declared.cutter.CutterPhase.{CutterPhase}
use Rattle.mbox_stream.specs.declared.cutter.CutterPhase.TheVariants.{Open, Stopped, Short, Finished}

pub record CutterState : Type 0 where
  -- the bytes fed and read, in order, but for calls that answered M4
  pub stream : List ℕ
  -- the items taken, and those that wait, in the order of the stream
  pub taken : List Item
  pub waiting : List Item
  pub phase : CutterPhase

-- what was given so far, taken or not
abbrev pub taken_and_waiting_items : CutterState → List Item
taken_and_waiting_items c = c.taken ++ c.waiting

-- The items are the settled ones, and no faulty line is; after M1 and M2 the settled ones; after M3 a beginning of them; and
-- after the end those of the stream.
abbrev pub AreItemsGivenInPhase : CutterPhase → List ℕ → List Item → Type 0
AreItemsGivenInPhase Open stream items = (items ≡ settled_items stream) × ((offset : ℕ) → ¬ IsSettledPreamble stream offset)
AreItemsGivenInPhase Stopped stream items = items ≡ settled_items stream
AreItemsGivenInPhase Short stream items = IsBeginning items (settled_items stream)
AreItemsGivenInPhase Finished stream items = DividesIntoItems stream items

-- what each cutter keeps
abbrev pub IsCutterConsistent : CutterState → Type 0
IsCutterConsistent c = AreItemsGivenInPhase c.phase c.stream (taken_and_waiting_items c)

-- how it stands after a fault
abbrev pub fault_phase : CutterPhase → MboxFault → CutterPhase
fault_phase s (Preamble n) = Stopped
fault_phase s Read = Stopped
fault_phase s Memory = Short
fault_phase s Failed = s

-- why more bytes are refused: M1 where the faulty line lies in the stream with its LF, so that every continuation has it
abbrev pub IsFeedFault : List ℕ → MboxFault → Type 0
IsFeedFault stream (Preamble n) = (offset : ℕ) × IsSettledPreamble stream offset × IsOffsetUnlessOverflow stream n offset
IsFeedFault stream Read = ⊥
IsFeedFault stream Memory = Unit {0}
IsFeedFault stream Failed = Unit {0}

-- the same of a read, which may fail
abbrev pub IsReadFault : List ℕ → MboxFault → Type 0
IsReadFault stream (Preamble n) = (offset : ℕ) × IsSettledPreamble stream offset × IsOffsetUnlessOverflow stream n offset
IsReadFault stream Read = Unit {0}
IsReadFault stream Memory = Unit {0}
IsReadFault stream Failed = Unit {0}

-- why the end is refused: M1 where `cut` refuses the stream
abbrev pub IsEndFault : List ℕ → MboxFault → Type 0
IsEndFault stream (Preamble n) = (offset : ℕ) × IsPreamble stream offset × IsOffsetUnlessOverflow stream n offset
IsEndFault stream Read = ⊥
IsEndFault stream Memory = Unit {0}
IsEndFault stream Failed = Unit {0}

-- whether a read failed, or met the end
abbrev pub is_read_failure : Result Bool MboxFault → Bool
is_read_failure (Ok b) = false
is_read_failure (Err (Preamble n)) = false
is_read_failure (Err Read) = true
is_read_failure (Err Memory) = false
is_read_failure (Err Failed) = false

-- the read succeeded and brought no bytes: the input is at its end
abbrev pub is_end_of_input : Result Bool MboxFault → Bool
is_end_of_input (Ok true) = false
is_end_of_input (Ok false) = true
is_end_of_input (Err e) = false
