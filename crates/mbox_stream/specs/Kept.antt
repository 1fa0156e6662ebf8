-- What is kept at each place of a stream.
use Rattle.std.specs.Prelude.{◌≡◌, ◌≤◌, ◌++◌, ℕ, List, [], length, drop}
use Rattle.mbox_core.specs.Separator.{Envelope}
use Rattle.mbox_core.specs.Division.{Item, items_from_separator, IsPreamble}
use Rattle.mbox_stream.specs.Stream.{IsBeginning, settled_bytes, settled_items, IsSettledPreamble, IsOffsetUnlessOverflow}
use Rattle.mbox_stream.specs.Window.{IsBeforeFirstMessage, IsOpenMessageWindow, IsSearchedUpTo}
use Rattle.mbox_stream.specs.declared.window.Place.{Place}
use Rattle.mbox_stream.specs.declared.window.Place.TheVariants.{Front, Message}
use Rattle.mbox_stream.specs.declared.window.Stop.{Stop}
use Rattle.mbox_stream.specs.declared.window.Stop.TheVariants.{Faulty, Memory}

-- Of a stream these items were given, and these bytes are not decided.
abbrev pub IsWindowAtPlace : Place → List ℕ → List ℕ → List Item → Type 0
IsWindowAtPlace (Front skipped) window stream items = IsBeforeFirstMessage stream window skipped items
IsWindowAtPlace (Message head from) window stream items = IsOpenMessageWindow head.envelope stream window items × IsSearchedUpTo window from

-- none of them is settled
abbrev pub HoldsNoSettledItem : Place → List ℕ → Type 0
HoldsNoSettledItem (Front skipped) window = settled_bytes window ≡ []
HoldsNoSettledItem (Message head from) window = items_from_separator (settled_bytes window) ≡ []

-- nor does a front that is one hold a whole line
abbrev pub FrontHoldsNoWholeLine : Place → List ℕ → Type 0
FrontHoldsNoWholeLine (Front skipped) window = settled_bytes window ≡ []
FrontHoldsNoWholeLine (Message head from) window = Unit {0}

-- A piece comes to the end of a stream of which nothing was settled but what was given.
abbrev pub AppendsPiece : Place → List ℕ → List ℕ → List ℕ → List Item → Type 0
AppendsPiece place window piece stream items =
    (before : List ℕ) × (stream ≡ before ++ piece) × IsWindowAtPlace place window before items × HoldsNoSettledItem place window

-- From a place of the window on a message is open, and no more is settled.
pub record OpensMessageAt (now : Envelope) (stream window : List ℕ) (start from : ℕ) (items : List Item) : Type 0 where
  pub start_in_range : start ≤ length window
  pub kept : IsOpenMessageWindow now stream (drop start window) items
  pub is_searched : IsSearchedUpTo (drop start window) from
  pub no_item_settled : items_from_separator (settled_bytes (drop start window)) ≡ []

-- Why no more is taken in: the faulty line is settled, or there was no memory, and some settled items may lack.
abbrev pub IsStopReason : Stop → List ℕ → List Item → Type 0
IsStopReason (Faulty n) stream items =
    (items ≡ settled_items stream) × (offset : ℕ) × IsSettledPreamble stream offset × IsOffsetUnlessOverflow stream n offset
IsStopReason Memory stream items = IsBeginning items (settled_items stream)

-- Why the end is refused: the first line that is not empty is no separator line, or there was no memory.
abbrev pub IsEndStopReason : Stop → List ℕ → Type 0
IsEndStopReason (Faulty n) stream = (offset : ℕ) × IsPreamble stream offset × IsOffsetUnlessOverflow stream n offset
IsEndStopReason Memory stream = Unit {0}
