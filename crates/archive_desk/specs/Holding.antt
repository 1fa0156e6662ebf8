-- Calls to a store whose tables are an archive's, whatever is filed of a message.
use Rattle.std.specs.Prelude.{Option, Result}
use Rattle.archive_port.specs.declared.state.ArchiveState.{Ghosts}
use Rattle.archive_model.specs.Records.{Archive}
use Rattle.archive_port.specs.Told.{RelatesArchivesUnder, RelatesArchivesUnderIfOpen, CallsStoreUnder, AnswersFromStoreUnder, HoldsTables}

module _ {S W : Type 0} (g : Ghosts S W) (old new : S) where
  -- The store lasts, and where its tables were an archive's they are, and this holds of the archives that it remembered and remembers.
  abbrev pub RelatesTableArchives : (Archive → Archive → Type 0) → Type 0
  RelatesTableArchives R = RelatesArchivesUnder g (HoldsTables g) old new R

  -- the same, if the connection is still open
  abbrev pub RelatesTableArchivesIfOpen : (Archive → Archive → Type 0) → Type 0
  RelatesTableArchivesIfOpen R = RelatesArchivesUnderIfOpen g (HoldsTables g) old new R

  -- a call: what its answers, its refusals and its faults say of the two archives
  abbrev pub CallsStoreWithTables : {A F R : Type 0} → (F → Option R) → Result A F → (Archive → Archive → A → Type 0) → (Archive → Archive → R → Type 0)
      → (Archive → Archive → F → Type 0) → Type 0
  CallsStoreWithTables reason result Says Refuses Stops = CallsStoreUnder g (HoldsTables g) old new reason result Says Refuses Stops

  -- a question, which leaves the archive
  abbrev pub AnswersFromStoreTables : {A F R : Type 0} → (F → Option R) → Result A F → (Archive → Option R) → (Archive → A → Type 0) → Type 0
  AnswersFromStoreTables reason result refuses Says = AnswersFromStoreUnder g (HoldsTables g) old new reason result refuses Says
