-- An archive in memory in the words of the layers above. It is always open, nothing below it fails, and a crash leaves nothing of it.
use Rattle.std.specs.Prelude.{◌≡◌, ◌-◌, ⊤, ℕ, List, Option, Some, true, drop, length, map, slice_get}
use Rattle.archive_model.specs.Records.{Archive, Message}
use Rattle.archive_model.specs.Sound.{HasSoundMessages, HasUniqueNames, IsIndexedCorrectly}
use Rattle.archive_port.specs.declared.state.ArchiveState.{Ghosts}
use Rattle.archive_memory.specs.Entries.{address_in, columns_in, grant_in, list_name, list_option, message_in, person_in}
use Rattle.archive_memory.specs.declared.archive.MemoryArchive.{MemoryArchive}
use Rattle.archive_memory.specs.declared.selecting.DatedPlace.{DatedPlace}
use Rattle.archive_memory.specs.declared.selecting.MessageWalk.{MessageWalk}

-- the archive that it remembers
abbrev pub archive_in_memory : MemoryArchive → Archive
archive_in_memory memory = record {
  lists = map list_name memory.lists.items;
  persons = map person_in memory.persons.items;
  grants = map grant_in memory.grants.items;
  messages = map message_in memory.messages.items;
  index_columns = map columns_in memory.messages.items;
  options = map list_option memory.lists.items;
  addresses = map address_in memory.addresses.items;
}

-- how often memory was refused
abbrev pub refusal_count : MemoryArchive → ℕ
refusal_count memory = memory.refusals

-- What `new` makes and each command keeps: names are apart, each message can be written and has the key of its text, and what is filed of
-- it is what its text says.
pub record IsSoundArchive (archive : Archive) : Type 0 where
  pub names : HasUniqueNames archive
  pub messages : HasSoundMessages archive
  pub columns : IsIndexedCorrectly archive

-- the message at a place that a walk holds
abbrev pub message_at_place : Archive → DatedPlace → Option Message
message_at_place archive dated = slice_get archive.messages dated.place

-- the places that a walk has not given yet
abbrev pub remaining_places : MessageWalk → List DatedPlace
remaining_places walk = drop walk.at walk.places.items

abbrev pub remaining_place_count : MessageWalk → ℕ
remaining_place_count walk = length walk.places.items - walk.at

abbrev pub memory_state : Ghosts MemoryArchive MessageWalk
memory_state = record {
  archive = λ memory. archive_in_memory memory;
  is_at_rest = λ memory. IsSoundArchive (archive_in_memory memory);
  is_open = λ memory. true;
  has_clean_disk = λ memory. ⊤;
  has_no_step_limit = λ memory. ⊤;
  faults = λ memory. 0;
  refusals = λ memory. refusal_count memory;
  Left = ⊤;
  may_leave = λ memory left. ⊥;
  is_stored = λ archive left. ⊥;
  refuses = λ memory command. ⊥;
  refuses_after = λ memory list items item. ⊥;
  gives = λ memory walk list remaining. map (message_at_place (archive_in_memory memory)) (remaining_places walk) ≡ map Some remaining;
  remaining_count = λ walk. remaining_place_count walk;
}
