-- What is kept of views: the outlines, how one is looked for, and how many bytes they take, about. And what is kept of messages that
-- were withheld.
use Rattle.std.specs.Prelude.{◌≡◌, ◌==◌, ◌&&◌, ◌⊎◌, ◌+◌, ◌*◌, ◌≤◌, ◌++◌, ◌∷◌, ℕ, Bool, true, false, List, [], length, drop, find, insert}
use Rattle.std.specs.Prelude.{position, sum_by, slice_get, bytes_eq, Option, None, Some, option_map, Result, MatchResult}
use Rattle.std.specs.Option.{option_and_then, option_map_or}
use Rattle.policy_core.specs.Facts.{rank_of_standing}
use Rattle.archive_results.specs.Access.{MessageFacts, ReaderFacts}
use Rattle.archive_results.specs.Results.{place_of_key}
use Rattle.archive_results.specs.Shown.{Line}
use Rattle.archive_cache.specs.ListIndexes.{ListIndex, rendered_rows}
use Rattle.archive_cache.specs.Parts.{ViewPart, whole, month, author, part_weight, same_part}

-- The outline of a part of what the readers of these marks are shown of a list.
pub record CachedView : Type 0 where
  pub list : List ℕ
  pub reader : ReaderFacts
  pub part : ViewPart
  pub outline : ListIndex

-- What a policy weighs of a message of a list that was withheld, where it is not the reader's own.
pub record WithheldMessage : Type 0 where
  pub list : List ℕ
  pub key : List ℕ
  pub marks : MessageFacts

-- all that is kept, and how many bytes the views may be
pub record CacheState : Type 0 where
  pub most : ℕ
  pub views : List CachedView
  pub withheld : List WithheldMessage

-- nothing is kept, of at most so many bytes
abbrev pub empty_cache : (most : ℕ) → CacheState
empty_cache most = record { most = most; views = []; withheld = [] }

-- ---- looking for a view

abbrev pub same_address : Option (List ℕ) → Option (List ℕ) → Bool
same_address None None = true
same_address (Some a) (Some b) = bytes_eq a b
same_address None (Some b) = false
same_address (Some a) None = false

abbrev pub same_reader : ReaderFacts → ReaderFacts → Bool
same_reader a b = (rank_of_standing a.standing == rank_of_standing b.standing) && same_address a.address b.address

abbrev pub is_view_of : (list : List ℕ) → ReaderFacts → ViewPart → CachedView → Bool
is_view_of list reader part view = same_part view.part part && (bytes_eq view.list list && same_reader view.reader reader)

-- the outline at this place of what is kept
abbrev pub cached_index_at : CacheState → (place : ℕ) → Option ListIndex
cached_index_at kept place = option_map (λ v. v.outline) (slice_get kept.views place)

-- where the line of this key stands in the view of the whole list for such readers, if that view is kept
abbrev pub cached_line_place : CacheState → (list : List ℕ) → ReaderFacts → (key : List ℕ) → Option ℕ
cached_line_place kept list reader key = option_and_then (λ (outline : ListIndex). place_of_key key outline.lines)
    (option_and_then (cached_index_at kept) (position (is_view_of list reader whole) kept.views))

-- the message of this list and key
abbrev pub is_withheld_message : (list key : List ℕ) → WithheldMessage → Bool
is_withheld_message list key it = bytes_eq it.key key && bytes_eq it.list list

-- the marks that are kept of the message of this list and key
abbrev pub cached_message_facts : CacheState → (list key : List ℕ) → Option MessageFacts
cached_message_facts kept list key = option_map (λ (w : WithheldMessage). w.marks) (find (is_withheld_message list key) kept.withheld)

-- ---- how much it is

-- A line counts the bytes of its author key and subject, and 192 for all else that it takes, with the two numbers by which it and its
-- thread are found.
abbrev pub line_weight : Line → ℕ
line_weight line = 192 + length line.author + length line.subject

-- a row counts the bytes of its text, and 32 for all else
abbrev pub index_weight : ListIndex → ℕ
index_weight outline = sum_by line_weight outline.lines + 32 * length outline.rows + length (rendered_rows outline outline.rows)

-- A view counts the bytes of its list's name, its reader's address and its author key too, and 16,384, so that there are few of them.
abbrev pub view_weight : CachedView → ℕ
view_weight view = 16384 + length view.list + option_map_or length view.reader.address 0 + part_weight view.part + index_weight view.outline

abbrev pub views_weight : List CachedView → ℕ
views_weight views = sum_by view_weight views

-- the views weigh what they may, or it is one view alone; and 256 messages at most have their marks kept
abbrev pub IsCacheBounded : CacheState → Type 0
IsCacheBounded kept = ((views_weight kept.views ≤ kept.most) ⊎ (length kept.views ≡ 1)) × (length kept.withheld ≤ 256)

-- ---- in which order

-- whether it is of a whole list
abbrev pub is_whole_list_view : CachedView → Bool
is_whole_list_view view = same_part whole view.part

-- the place of the first that is, or the end
abbrev pub first_whole_list_place : List CachedView → ℕ
first_whole_list_place views = option_map_or (λ place. place) (position is_whole_list_view views) (length views)

-- Where a view of a part is put: a whole list behind all, a month or an author before the whole lists, so that these are let go last.
abbrev pub insertion_place : ViewPart → List CachedView → ℕ
insertion_place whole views = length views
insertion_place (month m) views = first_whole_list_place views
insertion_place (author key) views = first_whole_list_place views

-- the first are let go, or none
abbrev pub DropsOldest : (old new : List CachedView) → Type 0
DropsOldest old new = (n : ℕ) × (new ≡ drop n old)

-- One view more is kept, where it is put, and the oldest are let go for it; or it is not, for want of memory, and none comes in their
-- stead.
abbrev pub CachesView : {F : Type 0} (old new : List CachedView) → CachedView → Result ℕ F → Type 0
CachesView old new view result = (rest : List CachedView) × DropsOldest old rest
    × MatchResult result (λ place. (place ≡ insertion_place view.part rest) × (new ≡ insert rest place view)) (λ _. new ≡ rest)

-- The marks of one message more are kept behind the others, the oldest of which may be let go for it; or they are not, for want of memory.
abbrev pub CachesWithheldMessage : (old new : List WithheldMessage) → WithheldMessage → Type 0
CachesWithheldMessage old new it = (n : ℕ) × ((new ≡ drop n old ++ it ∷ []) ⊎ (new ≡ drop n old))
