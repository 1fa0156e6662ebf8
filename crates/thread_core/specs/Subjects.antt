-- The first message of each subject, in a table.
use Rattle.std.specs.Prelude.{◌≡◌, ℕ, not, List, [], ◌∷◌, map, flat_map, slice_get, is_none, bytes_eq, Option, Some, None, option_and_then}
use Rattle.std.specs.List.{list_any}
use Rattle.std.specs.Option.{option_map_or}
use Rattle.thread_core.specs.Merge.{base_subject_at, distinct_subjects}
use Rattle.thread_links.specs.declared.entry.Entry.{Entry}
use Rattle.thread_core.specs.declared.tree.Tree.{Tree}

-- each of some messages is what the table has for its subject
abbrev pub TableHasLeaders : List Entry → (List ℕ → Option ℕ) → List ℕ → Type 0
TableHasLeaders entries get [] = Unit {0}
TableHasLeaders entries get (place ∷ places) = (get (base_subject_at entries place) ≡ Some place) × TableHasLeaders entries get places

-- A message for each of some subjects that is not empty, in the order of the subjects, and a table of these messages.
pub record AreSubjectLeaders (entries : List Entry) (subjects : List (List ℕ)) (leaders : List ℕ) (get : List ℕ → Option ℕ) : Type 0 where
  pub bases_are_distinct : map (base_subject_at entries) leaders ≡ distinct_subjects subjects
  pub none_for_empty_base : get [] ≡ None
  pub found_iff_present : (base : List ℕ) → is_none (get base) ≡ not (list_any (bytes_eq base) (map (base_subject_at entries) leaders))
  pub leader_has_base : (base : List ℕ) (place : ℕ) → get base ≡ Some place → base_subject_at entries place ≡ base
  pub are_leaders : TableHasLeaders entries get leaders

-- what the table has for the subject of a message
abbrev pub leader_of_message : List Entry → (List ℕ → Option ℕ) → ℕ → Option ℕ
leader_of_message entries get place = option_and_then (λ (entry : Entry). get entry.base) (slice_get entries place)

-- the trees of some numbers
abbrev pub trees_at_numbers : List Tree → List ℕ → List Tree
trees_at_numbers trees numbers = flat_map (λ at. option_map_or (λ tree. tree ∷ []) (slice_get trees at) []) numbers
