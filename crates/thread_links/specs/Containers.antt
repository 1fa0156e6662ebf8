-- Containers (RFC 5256, section 3, THREAD=REFERENCES, step 1.A): one for each message, and one for each mentioned id
-- that no message has.
use Rattle.std.specs.Prelude.{ℕ, zero, suc, ◌+◌, Bool, true, false, not, if◌then◌else◌, List, [], ◌∷◌, ◌++◌, length, filter, flat_map, ◌&&◌, bytes_eq}
use Rattle.std.specs.Option.{option_map_or}
use Rattle.mail_core.specs.MsgIds.{MessageId}
use Rattle.thread_links.specs.declared.entry.Entry.{Entry}

-- The container of the message at a place of the mailbox, or the dummy of an id.
-- "If no message can be found with a given Message ID, create a dummy message with this ID. Use this dummy message
-- for all subsequent references to this ID."
pub data Container : Type 0 where
  real : (place : ℕ) → Container
  dummy : (id : MessageId) → Container

-- "Message ID comparisons are case-sensitive."
abbrev pub same_id : MessageId → MessageId → Bool
same_id a b = bytes_eq a.left b.left && bytes_eq a.right b.right

-- the message has this id
abbrev pub has_id : Entry → MessageId → Bool
has_id entry id = option_map_or (same_id id) entry.id false

-- The container of an id among the messages from a place on: that of the first message that has the id, else its dummy.
-- "If two or more messages have the same Message ID, then only use that Message ID in the first (lowest sequence
-- number) message, and assign a unique Message ID to each of the subsequent messages with a duplicate of that Message
-- ID."
-- A unique id is one that no reference names, so it has no other effect than this: no id leads to such a message, nor
-- to one without an id.
abbrev pub owner_from : ℕ → List Entry → MessageId → Container
owner_from place [] id = dummy id
owner_from place (entry ∷ entries) id = if has_id entry id then real place else owner_from (place + 1) entries id

-- the container that a reference to this id means (RFC 5256, section 3, step 1.A): the first message that has it, else its dummy
abbrev pub owner : List Entry → MessageId → Container
owner entries id = owner_from 0 entries id

-- the ids that references mention, in order
abbrev pub referenced_ids : List Entry → List MessageId
referenced_ids entries = flat_map (λ entry. entry.refs) entries

-- each id once, where it comes first
abbrev pub distinct_ids : List MessageId → List MessageId
distinct_ids [] = []
distinct_ids (id ∷ ids) = id ∷ filter (λ other. not (same_id id other)) (distinct_ids ids)

abbrev pub is_dummy : Container → Bool
is_dummy (real place) = false
is_dummy (dummy id) = true

-- the ids of the dummies, in the order of first mention
abbrev pub dummy_ids : List Entry → List MessageId
dummy_ids entries = filter (λ id. is_dummy (owner entries id)) (distinct_ids (referenced_ids entries))

-- where an id stands in a list, or the length of the list
abbrev pub index_of : List MessageId → MessageId → ℕ
index_of [] id = 0
index_of (other ∷ ids) id = if same_id id other then 0 else index_of ids id + 1

-- Containers are numbered: the messages by place, and then the dummies. No row depends on the order of the dummies.
abbrev pub container_number : List Entry → Container → ℕ
container_number entries (real place) = place
container_number entries (dummy id) = length entries + index_of (dummy_ids entries) id

-- how many containers there are
abbrev pub container_count : List Entry → ℕ
container_count entries = length entries + length (dummy_ids entries)

-- the number of the container of an id
abbrev pub container_number_of_id : List Entry → MessageId → ℕ
container_number_of_id entries id = container_number entries (owner entries id)

-- the numbers below a count, rising
abbrev pub numbers_below : ℕ → List ℕ
numbers_below zero = []
numbers_below (suc n) = numbers_below n ++ n ∷ []
