-- Archives that only commands have made.
use Rattle.std.specs.Prelude.{◌≡◌, ◌≢◌, ℕ, ℤ, List, map, true, ⊤}
use Rattle.std.specs.List.{All, AllPairs}
use Rattle.policy_core.specs.Names.{is_name}
use Rattle.mbox_items.specs.Division.{Item, is_empty_or_ends_in_lf}
use Rattle.mbox_items.specs.Written.{IsItem}
use Rattle.archive_model.specs.Records.{Grant, Message, ListOption, Address, Archive}
use Rattle.archive_model.specs.Commands.{Command, add}
use Rattle.archive_model.specs.BearerTokens.{is_token}
use Rattle.archive_model.specs.Addresses.{is_address}
use Rattle.archive_model.specs.Keys.{key_of}
use Rattle.archive_model.specs.Filing.{message_index_columns}

-- what is written of a message: its sender, its arrival and its text
abbrev pub item_of : Message → Item
item_of m = record { envelope = record { sender = m.sender; arrival = m.arrival }; text = m.text }

-- its sender, arrival and text make a complete item, and its key is that text's
pub record IsSoundMessage (m : Message) : Type 0 where
  pub ends_with_newline : is_empty_or_ends_in_lf m.text ≡ true
  pub item_is_writable : IsItem (item_of m)
  pub key_is_of_text : m.key ≡ key_of m.text

-- every message can be written to an mbox (RFC 4155) as it is, and its key is that of its text
abbrev pub HasSoundMessages : Archive → Type 0
HasSoundMessages archive = All IsSoundMessage archive.messages

-- what is filed of each message is what its text says
abbrev pub IsIndexedCorrectly : Archive → Type 0
IsIndexedCorrectly archive = archive.index_columns ≡ map message_index_columns archive.messages

-- what an `add` adds is a message that can be written
abbrev pub AddsWritableItem : Command → Type 0
AddsWritableItem (add list item) = IsItem item
AddsWritableItem command = ⊤

-- ---- names

-- no two have the same name, where `name` gives that of each
abbrev pub HaveDistinctNames : {X N : Type 0} → (X → N) → List X → Type 0
HaveDistinctNames name = AllPairs (λ x y. name x ≢ name y)

-- what names a grant, and a message
abbrev pub grant_identity : Grant → List ℕ × List ℕ × ℤ
grant_identity g = (g.person, g.list, g.rank)

abbrev pub message_identity : Message → List ℕ × List ℕ
message_identity m = (m.list, m.key)

-- No two lists have one name, no two persons one name or one token, no two grants one person, list and rank, no two
-- messages one list and key, and no two addresses one person.
pub record HasUniqueNames (archive : Archive) : Type 0 where
  pub lists : HaveDistinctNames (λ list. list) archive.lists
  pub persons : HaveDistinctNames (λ person. person.name) archive.persons
  pub tokens : HaveDistinctNames (λ person. person.token) archive.persons
  pub grants : HaveDistinctNames grant_identity archive.grants
  pub messages : HaveDistinctNames message_identity archive.messages
  pub addresses : HaveDistinctNames (λ (a : Address). a.person) archive.addresses

-- Each list has one option, and there is no other.
abbrev pub HasOneOptionPerList : Archive → Type 0
HasOneOptionPerList archive = map (λ (o : ListOption). o.list) archive.options ≡ archive.lists

-- lists and persons have names, persons have tokens, and addresses are such
pub record HasValidNamesAndTokens (archive : Archive) : Type 0 where
  pub lists : All (λ list. is_name list ≡ true) archive.lists
  pub persons : All (λ person. is_name person.name ≡ true) archive.persons
  pub tokens : All (λ person. is_token person.token ≡ true) archive.persons
  pub addresses : All (λ (a : Address). is_address a.address ≡ true) archive.addresses
