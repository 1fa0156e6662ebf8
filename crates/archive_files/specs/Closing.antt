-- What the files of a database hold behind a close.
use Rattle.std.proofs.Common.{◌≡◌, ap, refl, subst, arith, Result, Ok, Err}
use Rattle.std.specs.Prelude.{MatchResult}
use Rattle.sqlite_disk.specs.declared.Disk.{Ghosts}
use Rattle.sqlite_disk.specs.declared.Files.{Files}
use Rattle.sqlite_wal.specs.Files.{outcomes}
use Rattle.sqlite_wal.specs.Reads.{AreClean}
use Rattle.sqlite_wal.specs.Recovery.{Image}
use Rattle.sqlite_trees.specs.Tree.{Trees}
use Rattle.sqlite_trees.specs.Objects.{catalog_tree}
use Rattle.sqlite_catalog.specs.Listing.{Lists}
use Rattle.sqlite_store.specs.declared.store.FileStore.{FileStore}
use Rattle.sqlite_store.specs.FileStore.{recovers, view}
use Rattle.sqlite_trees.specs.View.{IsClean}
use Rattle.sqlite.specs.Closing.{IsCopied}
use Rattle.sqlite.specs.Effect.{Database}
use Rattle.sqlite.specs.declared.error.Error.{Error}
use Rattle.sqlite.specs.Files.{over_files, file_state, image_of, FailsToClose, HoldsDatabase, IsClosed}
use Rattle.sqlite.specs.Held.{Held}
use Rattle.archive_model.specs.Records.{Archive}
use Rattle.archive_tables.specs.Crashes.{IsArchiveStored}
use Rattle.archive_tables.specs.Tables.{newest_version}
use Rattle.archive_store.specs.Held.{store_connection}
use Rattle.archive_store.specs.Told.{HoldsTables, IsOpen, archive_in}
use Rattle.archive_store.specs.declared.store.Store.{Store}
use Rattle.archive_files.specs.Opening.{ImageHoldsArchive}

-- what a close gives: the files; or why it failed, and the store as the close left it
abbrev pub CloseResult : {D : Type 0} → Ghosts D → Type 0
CloseResult {D} g = Result (Files D) (Error × FileStore D g)

-- If the disk has returned what was written to it, each database that a crash may leave of this store is this archive's.
abbrev pub CrashLeavesArchive : {D : Type 0} {g : Ghosts D} → FileStore D g → Archive → Type 0
CrashLeavesArchive last archive = IsClean (view last) → (db : Trees) → recovers last db → IsArchiveStored archive db

-- If the disk has returned what was written to it, the rows of the files that a close handed back stand for this archive, as they read and
-- whatever a crash leaves of them. If the close failed, a crash leaves this archive of the store.
abbrev pub CloseResultHoldsArchive : {D : Type 0} (g : Ghosts D) → CloseResult g → Archive → Type 0
CloseResultHoldsArchive g (Ok files) archive = AreClean g files.log files.db → (image : Image) → outcomes g files.log files.db image → ImageHoldsArchive image archive
CloseResultHoldsArchive g (Err failed) archive = CrashLeavesArchive failed.1 archive

module _ {D : Type 0} {g : Ghosts D} where
  -- What a close of a connection gives: the files, which hold its last commit; or the store that is left, of which a crash may leave no more
  -- than before the close.
  abbrev pub IsConnectionCloseResult : Held (FileStore D g) → CloseResult g → Type 0
  IsConnectionCloseResult connection closed = MatchResult closed (λ files. AreClean g files.log files.db → IsCopied connection files) (λ failed. IsClosed connection failed.1)

  -- The files of a store that was open hold what was committed, as they read and whatever a crash leaves of them, with a catalog that lists
  -- its schema.
  abbrev pub FilesHoldCommitted : Store (FileStore D g) → Files D → Type 0
  FilesHoldCommitted store files = AreClean g files.log files.db → IsOpen over_files store
      → ∥ HoldsDatabase (image_of g files) (file_state (store_connection store)).committed.trees ∥₁
      × Lists ((file_state (store_connection store)).now.trees catalog_tree) (file_state (store_connection store)).now.schema
      × ((image : Image) → outcomes g files.log files.db image → ∥ HoldsDatabase image (file_state (store_connection store)).committed.trees ∥₁)

  -- The close failed with an error that has its cause. A crash may leave no more of the store than before the close: if the store held an
  -- archive, that archive.
  pub record FailedToClose (store : Store (FileStore D g)) (failed : Error × FileStore D g) : Type 0 where
    pub is_closed : IsClosed (store_connection store) failed.1
    pub error_has_cause : IsClean (view failed.1) → FailsToClose (store_connection store) failed.1 failed.0
    pub leaves_archive : HoldsTables over_files store → CrashLeavesArchive failed.1 (archive_in over_files store)

  -- The files hold what was committed, or the close failed.
  abbrev pub IsCloseResultOf : CloseResult g → Store (FileStore D g) → Type 0
  IsCloseResultOf closed store = MatchResult closed (λ files. FilesHoldCommitted store files) (λ failed. FailedToClose store failed)

-- ---- what a close leaves

module _ {D : Type 0} {g : Ghosts D} (store : Store (FileStore D g)) where
  -- what was committed is what the store remembers
  rows : (image : Image) → HoldsTables over_files store → Lists ((file_state (store_connection store)).now.trees catalog_tree) (file_state (store_connection store)).now.schema
      → ∥ HoldsDatabase image (file_state (store_connection store)).committed.trees ∥₁ → ImageHoldsArchive image (archive_in over_files store)
  rows image kept lists held =
      let same : (file_state (store_connection store)).committed.trees ≡ (file_state (store_connection store)).now.trees = ap (λ (db : Database). db.trees) kept.committed_is in record {
        number = newest_version;
        is_known_version = record { at_least_one = omega (arith); at_most_newest = omega (arith) };
        trees = (file_state (store_connection store)).now.trees;
        database = subst (λ t. ∥ HoldsDatabase image t ∥₁) same held;
        schema = subst (Lists ((file_state (store_connection store)).now.trees catalog_tree)) kept.schema lists;
        are_tables_of_version = kept.tables;
        rows_stand_for_archive = refl;
      }

  pub close_result_holds_archive : (closed : CloseResult g) → IsCloseResultOf closed store → HoldsTables over_files store → CloseResultHoldsArchive g closed (archive_in over_files store)
  close_result_holds_archive (Ok files) closed kept = λ clean image may.
      let it = closed clean kept.is_open in
      rows image kept it.1 (it.2 image may)
  close_result_holds_archive (Err failed) closed kept = closed.leaves_archive kept
