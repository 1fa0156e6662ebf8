-- The numbers of containers, while ids are read.
use Rattle.std.specs.Prelude.{◌≡◌, ℕ, ◌+◌, if◌then◌else◌, List, length, map, filter, Option, Some, None}
use Rattle.std.specs.Option.{option_map_or}
use Rattle.std.specs.List.{list_any}
use Rattle.mail_core.specs.MsgIds.{MessageId}
use Rattle.thread_links.specs.Containers.{Container, real, dummy, is_dummy, owner, same_id, distinct_ids, index_of}
use Rattle.thread_links.specs.declared.entry.Entry.{Entry}

-- the place of a container's message
abbrev pub place_of_container : Container → Option ℕ
place_of_container (real place) = Some place
place_of_container (dummy id) = None

-- the ids of the dummies of so many references, in the order of first mention
abbrev pub dummy_ids_of_references : List Entry → List MessageId → List MessageId
dummy_ids_of_references entries refs = filter (λ id. is_dummy (owner entries id)) (distinct_ids refs)

-- the number of an id, if a message or so many references have it
abbrev pub number_among_references : List Entry → List MessageId → MessageId → Option ℕ
number_among_references entries refs id =
    option_map_or (λ place. Some place) (place_of_container (owner entries id))
    (if list_any (same_id id) (dummy_ids_of_references entries refs)
    then Some (length entries + index_of (dummy_ids_of_references entries refs) id) else None)

-- A count, and a number for each id: those of the containers of so many references.
pub record NumbersContainers (entries : List Entry) (refs : List MessageId) (count : ℕ) (number : MessageId → Option ℕ) : Type 0 where
  pub count_is_total : count ≡ length entries + length (dummy_ids_of_references entries refs)
  pub number_is : (id : MessageId) → number id ≡ number_among_references entries refs id

-- these ids have these numbers, one by one
abbrev pub AreNumbered : (MessageId → Option ℕ) → List MessageId → List ℕ → Type 0
AreNumbered number ids numbers = map number ids ≡ map (λ n. Some n) numbers
