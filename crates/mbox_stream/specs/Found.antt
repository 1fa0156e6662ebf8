-- What the searches of a window answer.
use Rattle.std.specs.Prelude.{◌≡◌, ℕ, List, []}
use Rattle.mbox_core.specs.Separator.{Envelope}
use Rattle.mbox_core.specs.Division.{items_from_separator}
use Rattle.mbox_stream.specs.Stream.{settled_bytes}
use Rattle.mbox_stream.specs.Window.{IsSearchedUpTo}
use Rattle.mbox_stream.specs.declared.finding.Found.{Found}
use Rattle.mbox_stream.specs.declared.finding.Found.TheVariants.{Next, More}
use Rattle.mbox_stream.specs.declared.finding.First.{First}
use Rattle.mbox_stream.specs.declared.finding.First.TheVariants.{Head, Blank, Faulty}

-- No separating line is whole, and none begins before this place.
abbrev pub HoldsNoWholeSeparator : List ℕ → ℕ → Type 0
HoldsNoWholeSeparator bytes from = IsSearchedUpTo bytes from × (items_from_separator (settled_bytes bytes) ≡ [])

abbrev pub IfFoundNext : Found → (List ℕ → Envelope → ℕ → Type 0) → Type 0
IfFoundNext (Next text envelope len) P = P text.now envelope len
IfFoundNext (More from) P = Unit {0}

abbrev pub IfFoundMore : Found → (ℕ → Type 0) → Type 0
IfFoundMore (Next text envelope len) P = Unit {0}
IfFoundMore (More from) P = P from

abbrev pub IfFirstIsHead : First → (Envelope → ℕ → Type 0) → Type 0
IfFirstIsHead (Head envelope at) P = P envelope at
IfFirstIsHead (Blank at) P = Unit {0}
IfFirstIsHead (Faulty at) P = Unit {0}

abbrev pub IfFirstIsBlank : First → (ℕ → Type 0) → Type 0
IfFirstIsBlank (Head envelope at) P = Unit {0}
IfFirstIsBlank (Blank at) P = P at
IfFirstIsBlank (Faulty at) P = Unit {0}

abbrev pub IfFirstIsFaulty : First → (ℕ → Type 0) → Type 0
IfFirstIsFaulty (Head envelope at) P = Unit {0}
IfFirstIsFaulty (Blank at) P = Unit {0}
IfFirstIsFaulty (Faulty at) P = P at
