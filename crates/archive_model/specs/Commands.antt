-- What the archive is told, and what it answers.
use Rattle.std.specs.Prelude.{ℕ, ℤ, List, Bool}
use Rattle.mbox_items.specs.Division.{Item}

-- The eleven commands. Persons, lists and messages are given by name, name and key; a rank is 1 to 3 as a grant's, a party
-- is 1 for the author and 2 for the board.
pub data Command : Type 0 where
  list_add : (name : List ℕ) → Command
  person_add : (name token : List ℕ) → Command
  grant : (person list : List ℕ) (rank from_day until_day : ℤ) → Command
  revoke : (person list : List ℕ) (rank : ℤ) → Command
  add : (list : List ℕ) (item : Item) → Command
  withdraw : (list key : List ℕ) (party : ℤ) → Command
  restore : (list key : List ℕ) → Command
  embargo : (list key : List ℕ) (until_day : ℤ) → Command
  lift : (list key : List ℕ) → Command
  merge_set : (list : List ℕ) (merge : Bool) → Command
  address_set : (person address : List ℕ) → Command

-- E1 to E13
pub data Refusal : Type 0 where
  bad_name : Refusal
  bad_text : Refusal
  list_exists : Refusal
  no_list : Refusal
  person_exists : Refusal
  no_person : Refusal
  token_taken : Refusal
  no_message : Refusal
  already_withdrawn : Refusal
  not_withdrawn : Refusal
  bad_days : Refusal
  list_full : Refusal
  too_large : Refusal

-- `was_there` says whether what was taken away was there; `taken_in` and `already_known` answer a message that is added.
pub data CommandReply : Type 0 where
  done : CommandReply
  was_there : Bool → CommandReply
  taken_in : CommandReply
  already_known : CommandReply
  refused : Refusal → CommandReply
