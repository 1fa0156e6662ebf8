-- What the entries of an archive in memory stand for.
use Rattle.std.specs.Prelude.{ℕ, pos, List, [], string_bytes}
use Rattle.policy_core.specs.Numbers.{grant_kind_rank}
use Rattle.archive_model.specs.Records.{Address, Archive, Grant, IndexColumns as Filed, ListOption, Message, Person}
use Rattle.archive_model.specs.Filing.{IndexedMessage}
use Rattle.archive_model.specs.Messages.{archived_message}
use Rattle.archive_memory.specs.declared.columns.IndexColumns.{IndexColumns}
use Rattle.archive_memory.specs.declared.entries.AddressEntry.{AddressEntry}
use Rattle.archive_memory.specs.declared.entries.GrantEntry.{GrantEntry}
use Rattle.archive_memory.specs.declared.entries.ListEntry.{ListEntry}
use Rattle.archive_memory.specs.declared.entries.MessageEntry.{MessageEntry}
use Rattle.archive_memory.specs.declared.entries.PersonEntry.{PersonEntry}

abbrev pub list_name : ListEntry → List ℕ
list_name entry = string_bytes entry.name

abbrev pub list_option : ListEntry → ListOption
list_option entry = record { list = string_bytes entry.name; merge = entry.merge }

abbrev pub person_in : PersonEntry → Person
person_in entry = record { name = string_bytes entry.name; token = string_bytes entry.token }

abbrev pub address_in : AddressEntry → Address
address_in entry = record { person = string_bytes entry.person; address = string_bytes entry.address }

abbrev pub grant_in : GrantEntry → Grant
grant_in entry = record {
  person = string_bytes entry.person;
  list = string_bytes entry.list;
  rank = grant_kind_rank entry.kind;
  from_day = entry.from;
  until_day = entry.until;
}

abbrev pub message_in : MessageEntry → Message
message_in entry = archived_message (string_bytes entry.list) entry.message

-- what is filed of a message
abbrev pub model_index_columns : IndexColumns → Filed
model_index_columns columns = record { sent = columns.sent; month = pos columns.month; author = columns.author.items }

abbrev pub columns_in : MessageEntry → Filed
columns_in entry = model_index_columns entry.columns

abbrev pub indexed_in : MessageEntry → IndexedMessage
indexed_in entry = (message_in entry, columns_in entry)

-- an archive of nothing
abbrev pub empty_archive : Archive
empty_archive = record { lists = []; persons = []; grants = []; messages = []; index_columns = []; options = []; addresses = [] }
