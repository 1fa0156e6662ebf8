-- What is asked of the archive.
use Rattle.std.specs.Prelude.{if◌then◌else◌, ℕ, ℤ, pos, int_le, List, [], ◌∷◌, map, filter, find, bytes_eq, Bool, true, false}
use Rattle.std.specs.Prelude.{not, ◌&&◌, Option, Some, None, is_some, option_map, IsSorted, IsPermutation}
use Rattle.std.specs.List.{list_any}
use Rattle.std.specs.Int.{int_max}
use Rattle.std.specs.Option.{option_map_or}
use Rattle.std.specs.Ordering.{int_eq, is_lt, nat_cmp}
use Rattle.std.specs.Cmp.Lexicographic.{slice_cmp}
use Rattle.archive_model.specs.Records.{Grant, Message, ListOption, Address, Archive}
use Rattle.archive_model.specs.Commands.{Refusal, no_list, no_person}

-- ---- lists and persons

-- the archive knows a list by this name, compared byte by byte
abbrev pub has_list : Archive → List ℕ → Bool
has_list archive name = list_any (λ known. bytes_eq known name) archive.lists

-- a name at its place among names that are in the order of their bytes
abbrev pub insert_in_byte_order : List ℕ → List (List ℕ) → List (List ℕ)
insert_in_byte_order name [] = name ∷ []
insert_in_byte_order name (other ∷ names) = if is_lt (slice_cmp nat_cmp other name) then other ∷ insert_in_byte_order name names else name ∷ other ∷ names

abbrev pub sort_by_bytes : List (List ℕ) → List (List ℕ)
sort_by_bytes [] = []
sort_by_bytes (name ∷ names) = insert_in_byte_order name (sort_by_bytes names)

-- the names of all lists, in the order of their bytes
abbrev pub list_names : Archive → List (List ℕ)
list_names archive = sort_by_bytes archive.lists

-- what they are, whatever puts them in order
pub record AreListNames (archive : Archive) (names : List (List ℕ)) : Type 0 where
  pub is_permutation : IsPermutation archive.lists names
  pub is_sorted : IsSorted (slice_cmp nat_cmp) names

abbrev pub has_person : Archive → List ℕ → Bool
has_person archive name = list_any (λ p. bytes_eq p.name name) archive.persons

abbrev pub has_token : Archive → List ℕ → Bool
has_token archive token = list_any (λ p. bytes_eq p.token token) archive.persons

-- the name of the person who has this token
abbrev pub person_of_token : Archive → List ℕ → Option (List ℕ)
person_of_token archive token = option_map (λ p. p.name) (find (λ p. bytes_eq p.token token) archive.persons)

-- ---- what is told of lists and persons

-- this option says how the threads of the list are made
abbrev pub is_option_of : List ℕ → ListOption → Bool
is_option_of list o = bytes_eq o.list list

-- whether the threads of a list are gathered by subject
abbrev pub merge_of : Archive → List ℕ → Bool
merge_of archive list = option_map_or (λ (o : ListOption). o.merge) (find (is_option_of list) archive.options) true

-- this is the address by which the person's own messages are known
abbrev pub is_address_of : List ℕ → Address → Bool
is_address_of person a = bytes_eq a.person person

abbrev pub has_address : Archive → List ℕ → Bool
has_address archive person = list_any (is_address_of person) archive.addresses

-- the address of a person, who may have none
abbrev pub address_of : Archive → List ℕ → Option (List ℕ)
address_of archive person = option_map (λ (a : Address). a.address) (find (is_address_of person) archive.addresses)

-- why a question on a person is not answered
abbrev pub person_refusal : Archive → List ℕ → Option Refusal
person_refusal archive person = if not (has_person archive person) then Some no_person else None

-- ---- grants

-- a grant of this person on this list
abbrev pub is_grant_of : List ℕ → List ℕ → Grant → Bool
is_grant_of person list g = bytes_eq g.person person && bytes_eq g.list list

-- the grant of this person, list and rank
abbrev pub is_grant_of_rank : List ℕ → List ℕ → ℤ → Grant → Bool
is_grant_of_rank person list rank g = bytes_eq g.person person && (bytes_eq g.list list && int_eq g.rank rank)

abbrev pub has_grant : Archive → List ℕ → List ℕ → ℤ → Bool
has_grant archive person list rank = list_any (is_grant_of_rank person list rank) archive.grants

-- a grant holds from its first day to its last, both within
abbrev pub grant_holds_on : ℤ → Grant → Bool
grant_holds_on day g = int_le g.from_day day && int_le day g.until_day

-- the highest of some ranks, 0 where there is none
abbrev pub max_rank : List ℤ → ℤ
max_rank [] = pos 0
max_rank (rank ∷ ranks) = int_max rank (max_rank ranks)

-- the standing of a person on a list and a day: the highest rank of the grants that hold on that day
abbrev pub standing_of : Archive → List ℕ → List ℕ → ℤ → ℤ
standing_of archive person list day =
    max_rank (map (λ g. g.rank) (filter (λ g. is_grant_of person list g && grant_holds_on day g) archive.grants))

-- why it is not answered: the person is looked for first
abbrev pub standing_refusal : Archive → List ℕ → List ℕ → Option Refusal
standing_refusal archive person list =
    if not (has_person archive person) then Some no_person
    else if not (has_list archive list) then Some no_list
    else None

-- ---- messages

-- why a question on a list is not answered
abbrev pub list_refusal : Archive → List ℕ → Option Refusal
list_refusal archive list = if not (has_list archive list) then Some no_list else None

-- the messages of a list, in mailbox order
abbrev pub messages_in : Archive → List ℕ → List Message
messages_in archive list = filter (λ m. bytes_eq m.list list) archive.messages

-- the message of this list and key
abbrev pub is_message_at_key : List ℕ → List ℕ → Message → Bool
is_message_at_key list key m = bytes_eq m.list list && bytes_eq m.key key

-- the message that the list holds under this key, be it withdrawn or under embargo
abbrev pub message_of : Archive → List ℕ → List ℕ → Option Message
message_of archive list key = find (is_message_at_key list key) archive.messages

abbrev pub has_message : Archive → List ℕ → List ℕ → Bool
has_message archive list key = is_some (message_of archive list key)

-- of a message that may not be there
abbrev pub is_withdrawn : Option Message → Bool
is_withdrawn None = false
is_withdrawn (Some m) = not (int_eq m.withdrawn (pos 0))

abbrev pub has_embargo : Option Message → Bool
has_embargo None = false
has_embargo (Some m) = is_some m.embargo
