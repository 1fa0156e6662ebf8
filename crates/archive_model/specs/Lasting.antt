-- What stays as it was set: which commands set it anew.
use Rattle.std.specs.Prelude.{◌≡◌, ℕ, List, [], map, Bool, true, false, ◌&&◌, bytes_eq}
use Rattle.std.specs.List.{All}
use Rattle.archive_model.specs.Records.{Message, Archive}
use Rattle.archive_model.specs.Commands.{Command, restore, embargo, lift, merge_set, address_set}
use Rattle.archive_model.specs.Questions.{is_message_at_key}
use Rattle.archive_model.specs.Machine.{default_list_option}

-- ---- commands

-- no command among these is one of those
abbrev pub NoCommandSatisfies : (Command → Bool) → List Command → Type 0
NoCommandSatisfies is_one commands = All (λ command. is_one command ≡ false) commands

-- it chooses how the threads of this list are made
abbrev pub changes_merge : (list : List ℕ) → Command → Bool
changes_merge list (merge_set other merge) = bytes_eq other list
changes_merge list command = false

-- it gives this person an address
abbrev pub changes_address : (person : List ℕ) → Command → Bool
changes_address person (address_set other address) = bytes_eq other person
changes_address person command = false

-- it ends the withdrawal of the message of this list and key
abbrev pub ends_withdrawal : (list key : List ℕ) → Command → Bool
ends_withdrawal list key (restore other_list other_key) = bytes_eq other_list list && bytes_eq other_key key
ends_withdrawal list key command = false

-- it sets the embargo of the message of this list and key, or lifts it
abbrev pub changes_embargo : (list key : List ℕ) → Command → Bool
changes_embargo list key (embargo other_list other_key until_day) = bytes_eq other_list list && bytes_eq other_key key
changes_embargo list key (lift other_list other_key) = bytes_eq other_list list && bytes_eq other_key key
changes_embargo list key command = false

-- ---- messages

-- This holds of each message of this list and key; there is at most one in an archive whose names are apart.
abbrev pub HoldsForMessageAtKey : Archive → (list key : List ℕ) → (Message → Type 0) → Type 0
HoldsForMessageAtKey archive list key Says = All (λ m. is_message_at_key list key m ≡ true → Says m) archive.messages

-- ---- what files of older versions hold

-- programs of the first version did not know it, nor did those of the second
abbrev pub is_address_set : Command → Bool
is_address_set (address_set person address) = true
is_address_set command = false

-- programs of the first version did not know it
abbrev pub is_unknown_to_version_one : Command → Bool
is_unknown_to_version_one (merge_set list merge) = true
is_unknown_to_version_one (address_set person address) = true
is_unknown_to_version_one command = false

-- as a file of version 1 is read: each list gathers its threads by subject, and nobody has an address
pub record IsVersionOneArchive (archive : Archive) : Type 0 where
  pub options : archive.options ≡ map default_list_option archive.lists
  pub addresses : archive.addresses ≡ []

-- as a file of version 2 is read: nobody has an address
abbrev pub IsVersionTwoArchive : Archive → Type 0
IsVersionTwoArchive archive = archive.addresses ≡ []
