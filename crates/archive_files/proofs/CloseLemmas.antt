-- What a close leaves of a database's files.
use Rattle.std.proofs.Common.{◌≡◌, subst, sym, Ok, Err}
use Rattle.std.specs.Prelude.{IfErr, IfOk, MatchResult}
use Rattle.sqlite_disk.specs.declared.Disk.{Ghosts}
use Rattle.sqlite_disk.specs.declared.Files.{Files}
use Rattle.sqlite_wal.proofs.LogLemmas.{SeenMayStay}
use Rattle.sqlite_wal.specs.Reads.{AreClean}
use Rattle.sqlite_store.specs.FileStore.{view}
use Rattle.sqlite_store.specs.Laws.{settled_at}
use Rattle.sqlite_store.specs.declared.store.FileStore.{FileStore}
use Rattle.sqlite_trees.specs.View.{IsClean}
use Rattle.sqlite.specs.Closing.{IsCopied}
use Rattle.sqlite.specs.declared.error.Error.{Error}
use Rattle.sqlite.specs.Files.{file_state, over_files, FailsToClose, IsClosed}
use Rattle.sqlite.specs.Held.{Held}
use Rattle.sqlite.specs.State.{IsLive}
use Rattle.archive_tables.specs.Tables.{archive_of, IsArchiveAtRest}
use Rattle.archive_store.proofs.CrashLemmas.{live_is_safe}
use Rattle.archive_store.specs.Held.{store_connection}
use Rattle.archive_store.specs.declared.store.Store.{Store}
use Rattle.archive_files.specs.Closing.{CloseResult, CrashLeavesArchive, FailedToClose, FilesHoldCommitted}

left_by : {D : Type 0} {g : Ghosts D} (store : Store (FileStore D g)) (files : Files D) (connection : Held (FileStore D g)) → connection ≡ store_connection store
    → IsLive (file_state connection) → (AreClean g files.log files.db → IsCopied connection files) → FilesHoldCommitted store files
left_by {D} {g} store files connection is live copied =
    let P : Held (FileStore D g) → Type 0 = λ c. IsLive (file_state c) → (AreClean g files.log files.db → IsCopied c files) → FilesHoldCommitted store files in
    subst P (sym is) (λ l made clean up. ((made clean).seen.both, (l up).0.lists, λ image may. ((made clean).left image may).both)) live copied

-- what a crash leaves of a store that held tables is what was committed, which is the archive that the store remembered
still_leaves : {D : Type 0} {g : Ghosts D} → SeenMayStay g → (last : FileStore D g) (connection : Held (FileStore D g)) → IsLive (file_state connection)
    → IsClosed connection last → IsArchiveAtRest (file_state connection) → CrashLeavesArchive last (archive_of (file_state connection))
still_leaves may_stay last connection live closed kept = λ clean db left.
    live_is_safe over_files connection (λ found up may. settled_at connection.store may_stay found up may) kept live db (closed.quiet.outcomes db left)

failed_by : {D : Type 0} {g : Ghosts D} → SeenMayStay g → (store : Store (FileStore D g)) (failed : Error × FileStore D g) (connection : Held (FileStore D g))
    → connection ≡ store_connection store → IsLive (file_state connection) → IsClosed connection failed.1 × (IsClean (view failed.1) → FailsToClose connection failed.1 failed.0)
    → FailedToClose store failed
failed_by {D} {g} may_stay store failed connection is live closed =
    let P : Held (FileStore D g) → Type 0 = λ c. IsLive (file_state c) × IsClosed c failed.1 × (IsClean (view failed.1) → FailsToClose c failed.1 failed.0) in
    let it = subst P is (live, closed.0, closed.1) in
    record { is_closed = it.1; error_has_cause = it.2; leaves_archive = still_leaves may_stay failed.1 (store_connection store) it.0 it.1 }

pub close_result : {D : Type 0} {g : Ghosts D} → SeenMayStay g → (store : Store (FileStore D g)) (closed : CloseResult g) (connection : Held (FileStore D g))
    → connection ≡ store_connection store → IsLive (file_state connection) → IfOk closed (λ files. AreClean g files.log files.db → IsCopied connection files)
    → IfErr closed (λ failed. IsClosed connection failed.1 × (IsClean (view failed.1) → FailsToClose connection failed.1 failed.0))
    → MatchResult closed (λ files. FilesHoldCommitted store files) (λ failed. FailedToClose store failed)
close_result may_stay store (Ok files) connection is live copied error = left_by store files connection is live copied
close_result may_stay store (Err failed) connection is live copied error = failed_by may_stay store failed connection is live error
