-- What a stop of the machine leaves of a store: of a command, or of a database that is taken over, the archive before or after it; of
-- many commands or messages, what so many of them made.
-- What speaks of each moment within a call names nothing of the state behind it but what a stop leaves of it, and nothing of what it
-- answers: `CrashSteps`, `CrashAdopts`, `CrashAddsOneMessage`, `CrashBatch`, and of `CrashOutcome` the field `during_call`.
use Rattle.std.specs.Prelude.{◌≡◌, ◌⊎◌, ℕ, ◌+◌, ◌≤◌, List, length, take, Option, Some, None, Result, IfErr, Vec, MatchOption}
use Rattle.std.specs.declared.alloc.Global.{Global}
use Rattle.mbox_items.specs.Division.{Item}
use Rattle.sqlite.specs.Effect.{Database}
use Rattle.sqlite.specs.Store.{Ghosts}
use Rattle.sqlite.specs.Held.{Held, state}
use Rattle.sqlite.specs.State.{HasCleanDisk}
use Rattle.archive_model.specs.Records.{Archive}
use Rattle.archive_model.specs.Commands.{Command, CommandReply}
use Rattle.archive_model.specs.Machine.{StepOutcome, add_within_limit, message_limit}
use Rattle.archive_model.specs.Runs.{run, taken}
use Rattle.archive_tables.specs.Schema.{empty_schema}
use Rattle.archive_tables.specs.Tables.{IsOpenArchive, IsOpenArchiveInFormat, IsArchiveAtRest, IsKnownVersion, format_of_version, archive_of_version, archive_of}
use Rattle.archive_tables.specs.Making.{empty_archive}
use Rattle.archive_tables.specs.Crashes.{IsArchiveStored, IsCrashSafe, CrashLeavesArchiveWhere, CrashAddsNothing, CrashAddsOnly}
use Rattle.archive_store.specs.Batches.{ListHasMessageCount, HoldsAddedItems}
use Rattle.archive_port.specs.Adding.{IsListFullAt}
use Rattle.archive_port.specs.declared.reports.AddReport.{AddReport}
use Rattle.archive_port.specs.declared.reports.AddError.{AddError}
use Rattle.archive_store.specs.declared.running.Outcome.{Outcome as Answered}
use Rattle.archive_store.specs.declared.running.CommandRunError.{CommandRunError}
use Rattle.archive_port.specs.Adding.{HasAddedAtLeast}

-- A batch of messages from one place to another is taken in up to here: to its end, or to where the list is full.
pub record IsWholeBatch (a : Archive) (list : List ℕ) (items : List Item) (from to at : ℕ) : Type 0 where
  pub at_least_from : from ≤ at
  pub at_most_to : at ≤ to
  pub reaches_end_or_limit : (at ≡ to) ⊎ IsListFullAt a list items at

-- so many first commands were carried out: at least and at most this many
abbrev pub HasRunCommands : List Command → (least most : ℕ) → Archive → Archive → Type 0
HasRunCommands commands least most a b = (n : ℕ) × (least ≤ n) × (n ≤ most) × (b ≡ (run a (take n commands)).archive)

module _ {S : Type 0} (g : Ghosts S) (old new : Held S) where
  -- ---- any call

  -- Where before a call a stop left what was remembered, and nothing else, an open after it finds an archive that is this of the one before.
  abbrev pub CrashLeavesRelatedArchive : (Archive → Archive → Type 0) → Type 0
  CrashLeavesRelatedArchive Is = HasCleanDisk (state g new) → IsArchiveAtRest (state g old) → IsCrashSafe (state g old) → CrashLeavesArchiveWhere (state g new) (Is (archive_of (state g old)))

  -- What a stop leaves within a call, whatever it answers; and what it leaves once the call has stopped for a fault and returned.
  pub record CrashOutcome (Within : Archive → Archive → Type 0) {A F : Type 0} (result : Result A F) (Stops : F → Archive → Archive → Type 0) : Type 0 where
    pub during_call : CrashLeavesRelatedArchive Within
    pub after_error : IfErr result (λ fault. CrashLeavesRelatedArchive (Stops fault))

  -- ---- a command

  -- What a stop leaves after a command it left before, or it is the archive that the machine makes.
  abbrev pub CrashSteps : (Archive → StepOutcome) → Type 0
  CrashSteps step = IsArchiveAtRest (state g old) → CrashAddsOnly g old new (IsArchiveStored (step (archive_of (state g old))).0)

  -- A command that has returned, and a stop behind it. Where it was answered, an open finds what the machine makes of the archive, and
  -- nothing else; where memory or the database was at fault, the archive before it or that.
  abbrev pub CrashAfterCommand : (Archive → StepOutcome) → Option CommandReply → Type 0
  CrashAfterCommand step reply = HasCleanDisk (state g new) → IsArchiveAtRest (state g old) → IsCrashSafe (state g old) →
      let before = archive_of (state g old) in
      let after = (step before).0 in
      MatchOption reply (CrashLeavesArchiveWhere (state g new) (λ a. (a ≡ before) ⊎ (a ≡ after))) (λ _. (archive_of (state g new) ≡ after) × IsCrashSafe (state g new))

  -- Commands one after the other: so many first ones; once the run has stopped, the first `done`, or those and the next.
  abbrev pub CrashRuns : List Command → Result (Vec Answered Global) CommandRunError → Type 0
  CrashRuns commands result = CrashOutcome (HasRunCommands commands 0 (length commands)) result (λ stop. HasRunCommands commands stop.done (stop.done + 1))

  -- ---- a database that is taken over

  -- Of an empty one a stop may leave the empty archive, and of an archive's, of whatever version, the same archive in tables of the
  -- newest; and else what it left before: the database as it was.
  pub record CrashAdopts : Type 0 where
    pub makes_if_empty : (state g old).now.schema ≡ empty_schema → CrashAddsOnly g old new (IsArchiveStored empty_archive)
    pub migrates_older : (number : ℕ) → IsKnownVersion number → IsOpenArchiveInFormat (format_of_version number) None (state g old)
        → CrashAddsOnly g old new (IsArchiveStored (archive_of_version number (state g old).now.trees))

  -- ---- messages, many in one transaction

  -- A message added to a list that holds so many: within a transaction a stop leaves nothing new of it.
  abbrev pub CrashAddsOneMessage : List ℕ → Item → ℕ → Type 0
  CrashAddsOneMessage list item count = (behind : Option Database) → IsOpenArchive behind (state g old) → ListHasMessageCount (archive_of (state g old)) list count
      → CrashAddsOnly g old new (λ db. (behind ≡ None) × IsArchiveStored (add_within_limit message_limit (archive_of (state g old)) list item).0 db)

  -- Messages added within a transaction, where the first `from` are taken: a stop leaves nothing new.
  abbrev pub CrashLosesOpenBatch : List ℕ → List Item → ℕ → ℕ → AddReport → Type 0
  CrashLosesOpenBatch list items from count told = (db : Database) (a : Archive) → HoldsAddedItems (Some db) (state g old) a list (take from items) count told → CrashAddsNothing g old new

  -- A transaction of its own: none of the batch, or the whole of it.
  abbrev pub CrashBatch : List ℕ → List Item → ℕ → ℕ → ℕ → AddReport → Type 0
  CrashBatch list items from to count told = (a : Archive) → HoldsAddedItems None (state g old) a list (take from items) count told
      → CrashAddsOnly g old new (λ db. (at : ℕ) × IsWholeBatch a list items from to at × IsArchiveStored (taken a list (take at items)).archive db)

  -- Many batches: so many first messages; once the call has stopped, at least those that it told.
  abbrev pub CrashAddsAllBatches : List ℕ → List Item → Result AddReport AddError → Type 0
  CrashAddsAllBatches list items result = CrashOutcome (HasAddedAtLeast list items 0) result (λ stop. HasAddedAtLeast list items stop.done)
