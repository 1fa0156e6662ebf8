-- What a row says of a message: what is written of it, what is filed of it, and whether it is sound.
use Rattle.std.specs.Prelude.{◌≡◌, Option, MatchOption}
use Rattle.mbox_items.specs.Division.{Item}
use Rattle.archive_model.specs.Records.{IndexColumns}
use Rattle.archive_model.specs.Filing.{IndexedMessage}
use Rattle.archive_model.specs.Damage.{IsSoundlyIndexed}
use Rattle.archive_tables.specs.declared.filed.IndexedRow.{IndexedRow}
use Rattle.archive_database.specs.declared.checking.DamagedMessage.{DamagedMessage}

abbrev pub row_item : IndexedRow → Item
row_item row = record { envelope = record { sender = row.sender.now; arrival = row.arrival }; text = row.text.now }

abbrev pub row_index_columns : IndexedRow → IndexColumns
row_index_columns row = record { sent = row.sent; month = row.month; author = row.author.now }

-- nothing of a message that is sound, and of another its list and its key
abbrev pub ReportsIfDamaged : IndexedMessage → Option DamagedMessage → Type 0
ReportsIfDamaged f found = MatchOption found (IsSoundlyIndexed f) (λ d. (¬ IsSoundlyIndexed f) × (d.list.items ≡ f.0.list) × (d.key.items ≡ f.0.key))
