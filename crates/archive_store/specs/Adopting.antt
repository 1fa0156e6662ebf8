-- What it says of a connection that it was taken over as a store, and what that it was not.
use Rattle.std.specs.Prelude.{◌≡◌, ◌⊎◌, ◌<◌, ℕ, pos, None}
use Rattle.sqlite_disk.specs.Disk.{MoreFaults}
use Rattle.sqlite.specs.Store.{Ghosts}
use Rattle.sqlite.specs.Held.{Held, state}
use Rattle.sqlite.specs.State.{HasCleanDisk}
use Rattle.archive_tables.specs.Schema.{empty_schema}
use Rattle.archive_tables.specs.Tables.{IsOpenArchiveInFormat, IsArchiveAtRest, IsKnownVersion, HasArchiveSchema, HasSchemaOfFormat, HasVersionRow, format_of_version, archive_of_version, archive_of}
use Rattle.archive_tables.specs.Calls.{FaultKeepsRows, KeepsConnectionUnlessDiskFails}
use Rattle.archive_tables.specs.Making.{IsCommittedUnchanged, IsIdle, IsRolledBackIfOpen, empty_archive}
use Rattle.archive_database.specs.Adopting.{MayBeAdopted, IsEmptyOrArchiveSchema, IsAdoptionRefused}
use Rattle.archive_store.specs.Crashes.{CrashAdopts}
use Rattle.archive_store.specs.Held.{store_connection}
use Rattle.archive_port.specs.Replies.{refusal_of_fault}
use Rattle.archive_store.specs.Told.{HasNoStepLimit, LastsExceptStepLimit}
use Rattle.archive_store.specs.declared.store.Store.{Store}
use Rattle.archive_store.specs.declared.adopting.AdoptStop.{AdoptStop}
use Rattle.archive_port.specs.declared.faults.StoreFault.TheVariants as faults

module _ {S : Type 0} (g : Ghosts S) (connection : Held S) where
  -- A store that this connection became. An empty database became the empty archive, an archive's is as it was, and one of an older
  -- version remembers what it did. It had no table, index or view, or as many of each as an archive of some version has, and its version
  -- is that of its row; one of the newest schema was left as it was. No limit is set. What a stop of the machine leaves is in `crash`.
  pub record IsAdopted (store : Store S) : Type 0 where
    pub makes_if_empty : HasCleanDisk (state g (store_connection store)) → (state g connection).now.schema ≡ empty_schema
        → IsArchiveAtRest (state g (store_connection store)) × (archive_of (state g (store_connection store)) ≡ empty_archive)
    pub archive_at_rest_is_same : HasCleanDisk (state g (store_connection store)) → IsArchiveAtRest (state g connection)
        → IsArchiveAtRest (state g (store_connection store)) × (archive_of (state g (store_connection store)) ≡ archive_of (state g connection))
    pub migrates_older : HasCleanDisk (state g (store_connection store)) → (number : ℕ) → IsKnownVersion number → IsOpenArchiveInFormat (format_of_version number) None (state g connection)
        → IsArchiveAtRest (state g (store_connection store)) × (archive_of (state g (store_connection store)) ≡ archive_of_version number (state g connection).now.trees)
    pub may_be_adopted : MayBeAdopted (state g connection).now.schema
    pub version : HasCleanDisk (state g (store_connection store)) → (number : ℕ) → IsKnownVersion number → HasSchemaOfFormat (format_of_version number) (state g connection)
        → HasVersionRow (pos number) (state g connection).now.trees
    pub keeps_rows : HasCleanDisk (state g (store_connection store)) → HasArchiveSchema (state g connection)
        → IsRolledBackIfOpen (state g (store_connection store)) (state g connection).now
    pub disk_was_clean : HasCleanDisk (state g (store_connection store)) → HasCleanDisk (state g connection)
    pub crash : CrashAdopts g connection (store_connection store)
    pub remains_open : LastsExceptStepLimit g connection (store_connection store)
    pub has_no_step_limit : HasNoStepLimit g store

  -- A connection that was not taken over, and why. An empty database and an archive's are as they were, outside a transaction, if the
  -- connection is still open, and any other is untouched, for E15. E15 of an empty one means that the disk failed; of one of the tables of
  -- a version it means that, or is a fact of what the file holds; nothing but E14, which is counted, and E15 comes.
  pub record IsNotAdopted (stop : AdoptStop S) : Type 0 where
    pub keeps_rows : HasCleanDisk (state g stop.connection) → IsArchiveAtRest (state g connection) → FaultKeepsRows (state g connection) (state g stop.connection)
    pub new_tables_are_undone : HasCleanDisk (state g stop.connection) → (state g connection).now.schema ≡ empty_schema
        → IsCommittedUnchanged (state g stop.connection) (state g connection).committed
    pub rows_restored : HasCleanDisk (state g stop.connection) → IsIdle (state g connection) → IsEmptyOrArchiveSchema (state g connection).now.schema
        → IsRolledBackIfOpen (state g stop.connection) (state g connection).now
    pub foreign_is_untouched : ¬ MayBeAdopted (state g connection).now.schema → stop.connection ≡ connection
    pub foreign_fault_is_store : ¬ MayBeAdopted (state g connection).now.schema → stop.fault ≡ faults.Store
    pub fault_has_cause : HasCleanDisk (state g stop.connection) → IsIdle (state g connection) → IsEmptyOrArchiveSchema (state g connection).now.schema → (state g connection).step_limit ≡ None
        → stop.fault ≡ faults.Store → MoreFaults (state g connection).faults (state g stop.connection).faults ⊎ IsAdoptionRefused (state g connection).now
    pub fault_is_no_refusal : refusal_of_fault stop.fault ≡ None
    pub refusal_is_counted : stop.fault ≡ faults.Memory → 0 < stop.wants
    pub crash : CrashAdopts g connection stop.connection
    pub disk_was_clean : HasCleanDisk (state g stop.connection) → HasCleanDisk (state g connection)
    pub remains_open : KeepsConnectionUnlessDiskFails (state g connection) (state g stop.connection)
