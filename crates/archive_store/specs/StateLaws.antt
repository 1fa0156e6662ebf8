-- What a store that holds an archive keeps of it: laws of `ArchiveStore`.
use Rattle.std.proofs.Common.{◌≡◌, ◌∙◌, ap, List, [], ◌∷◌}
use Rattle.sqlite.specs.Tree.{Trees}
use Rattle.sqlite.specs.Effect.{Database}
use Rattle.sqlite.specs.State.{State}
use Rattle.archive_model.specs.Records.{Archive, Message}
use Rattle.archive_tables.specs.Crashes.{IsArchiveStored}
use Rattle.archive_tables.specs.Tables.{HaveDistinctKeys as DistinctBy, IsArchiveAtRest, archive_in_trees, archive_of, same_message_key}
use Rattle.archive_port.specs.Messages.{HaveDistinctKeys}

pub distinct : (messages : List Message) → DistinctBy same_message_key messages → HaveDistinctKeys messages
distinct [] it = tt
distinct (m ∷ rest) it = (it.0, distinct rest it.1)

-- what a crash leaves of an open connection is what is committed
pub stays_stored : (s : State) → IsArchiveAtRest s → (db : Trees) → db ≡ s.committed.trees → (archive : Archive) → IsArchiveStored archive db → IsArchiveStored (archive_of s) db
stays_stored s held db is archive stored = record {
  lists = stored.lists;
  tables = stored.tables;
  archive_is = ap archive_in_trees (is ∙ ap (λ (d : Database). d.trees) held.committed_is);
}
