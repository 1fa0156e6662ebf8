-- Message ids whose sides stand in one list of bytes, one after the other.
use Rattle.std.specs.Prelude.{◌≡◌, ℕ, ◌-◌, ◌≤◌, List, ◌++◌, length, map, take, drop}
use Rattle.std.specs.List.{All}
use Rattle.mail_core.specs.MsgIds.{MessageId}
use Rattle.mail_core.specs.declared.references.Place.{Place}

-- the bytes from a place up to another
abbrev pub between : List ℕ → ℕ → ℕ → List ℕ
between bytes from to = take (to - from) (drop from bytes)

-- the id whose left side stands up to the middle, and its right one behind that
abbrev pub id_at_place : List ℕ → Place → MessageId
id_at_place bytes place = record { left = between bytes place.start place.middle; right = between bytes place.middle place.end }

abbrev pub ids_at_places : List ℕ → List Place → List MessageId
ids_at_places bytes places = map (id_at_place bytes) places

-- the place is one in so many bytes
pub record IsPlaceWithin (count : ℕ) (place : Place) : Type 0 where
  pub start_at_most_middle : place.start ≤ place.middle
  pub middle_at_most_end : place.middle ≤ place.end
  pub end_in_range : place.end ≤ count

abbrev pub ArePlacesWithin : ℕ → List Place → Type 0
ArePlacesWithin count places = All (IsPlaceWithin count) places

-- some bytes, and maybe more behind them
abbrev pub IsPrefixOfBytes : List ℕ → List ℕ → Type 0
IsPrefixOfBytes bytes whole = (more : List ℕ) × (whole ≡ bytes ++ more)
