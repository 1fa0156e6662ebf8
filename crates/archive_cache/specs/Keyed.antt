-- The places of lines, in the order of their keys.
use Rattle.std.specs.Prelude.{ℕ, ◌<◌, ◌≡◌, List, [], ◌∷◌, length, slice_get, slice_index}
use Rattle.std.specs.Cmp.Lexicographic.{slice_cmp}
use Rattle.std.specs.Int.{from_be_bytes, w64}
use Rattle.std.specs.List.{Contains}
use Rattle.std.specs.List.Sorted.{IsSortedBy}
use Rattle.std.specs.Option.{option_map_or}
use Rattle.std.specs.Ordering.{is_lt, nat_cmp, ordering_then}
use Rattle.std.specs.declared.cmp.Ordering.{Ordering}
use Rattle.archive_cache.specs.declared.keyed.KeyStart.{KeyStart}
use Rattle.archive_results.specs.Shown.{Line}

-- the key of the line at a place; nothing where there is no line
abbrev pub key_at : List Line → (place : ℕ) → List ℕ
key_at lines place = option_map_or (λ l. l.key) (slice_get lines place) []

-- by their keys, and those of one key by themselves
abbrev pub place_cmp : List Line → (one other : ℕ) → Ordering
place_cmp lines one other = ordering_then (slice_cmp nat_cmp (key_at lines one) (key_at lines other)) (nat_cmp one other)

-- each is a byte
abbrev pub AreBytes : List ℕ → Type 0
AreBytes bytes = (at : ℕ) → slice_index bytes at < 256

-- the first eight bytes of a key as one number, with a zero for each that the key lacks
abbrev pub key_start : (key : List ℕ) → ℕ
key_start key = from_be_bytes w64 (slice_index key 0 ∷ slice_index key 1 ∷ slice_index key 2 ∷ slice_index key 3 ∷ slice_index key 4 ∷ slice_index key 5 ∷ slice_index key 6 ∷ slice_index key 7 ∷ [])

-- the place of a line, with how its key starts
abbrev pub start_at : List Line → (place : ℕ) → KeyStart
start_at lines place = record { start = key_start (key_at lines place); place = place }

-- by how their keys start, and those that start alike by their keys
abbrev pub start_cmp : List Line → (one other : KeyStart) → Ordering
start_cmp lines one other = ordering_then (nat_cmp one.start other.start) (place_cmp lines one.place other.place)

-- the key at its place is one of bytes, and starts so
pub record IsKeyStart (lines : List Line) (start : KeyStart) : Type 0 where
  pub is_of_bytes : AreBytes (key_at lines start.place)
  pub is_start : start.start ≡ key_start (key_at lines start.place)

-- Each place of a line stands in this order, which is that of the keys.
pub record IsKeyOrder (lines : List Line) (order : List ℕ) : Type 0 where
  pub contains_each_line : (place : ℕ) → place < length lines → Contains order place
  pub is_sorted : IsSortedBy (λ one other. is_lt (place_cmp lines one other)) order
