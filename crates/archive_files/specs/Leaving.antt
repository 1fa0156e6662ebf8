-- What is left of the files of a database that was not opened, or was closed, and which archive these hold. Which of these files can be
-- opened again.
use Rattle.std.proofs.Common.{◌≡◌, inl, inr, subst, sym, arith, ℕ, Bool, false, List, Option, Some, None, Ok, Err}
use Rattle.std.specs.Prelude.{◌⊎◌, ◌&&◌, ⊤}
use Rattle.std.proofs.Math.Logic.{∥∥₁_elim, ∥∥₁_map}
use Rattle.sqlite_disk.specs.declared.Disk.{Ghosts}
use Rattle.sqlite_disk.specs.declared.Files.{Files}
use Rattle.sqlite_wal.specs.Files.{outcomes}
use Rattle.sqlite_wal.specs.Reads.{AreClean}
use Rattle.sqlite_wal.specs.Recovery.{Image}
use Rattle.sqlite_wal.proofs.LogLemmas.{SeenMayStay}
use Rattle.sqlite_trees.specs.Objects.{catalog_tree}
use Rattle.sqlite_trees.specs.Props.{Trees-set}
use Rattle.sqlite_trees.specs.Tree.{Trees}
use Rattle.sqlite_trees.specs.View.{IsClean}
use Rattle.sqlite_catalog.specs.Listing.{Lists}
use Rattle.sqlite_store.specs.FileStore.{recovers, view}
use Rattle.sqlite_store.specs.Laws.{settled_at, stays_at}
use Rattle.sqlite_store.specs.Unopened.{state_of}
use Rattle.sqlite_store.specs.declared.store.FileStore.{FileStore}
use Rattle.sqlite_store.specs.declared.store.open.Unopened.{Unopened}
use Rattle.sqlite.proofs.ListingLemmas.{empty_is_sound}
use Rattle.sqlite.specs.Files.{over_files, file_state, image_of, AreFoundIn, HoldsDatabase, IsCleanLeft, IsOpened, LeavesFiles}
use Rattle.sqlite.specs.Held.{Held}
use Rattle.sqlite.specs.Start.{FindsIn}
use Rattle.sqlite.specs.State.{HasCleanDisk}
use Rattle.sqlite.specs.declared.file.Leftover.{Leftover}
use Rattle.sqlite.specs.declared.file.Leftover.TheVariants as rest
use Rattle.archive_model.specs.Records.{Archive}
use Rattle.archive_tables.specs.Crashes.{IsArchiveStored, IsArchiveStoredInFormat}
use Rattle.archive_tables.specs.Making.{empty_archive}
use Rattle.archive_tables.specs.Schema.{empty_schema}
use Rattle.archive_tables.specs.Tables.{IsKnownVersion, format_of_version, newest_version}
use Rattle.archive_store.specs.Adopting.{IsNotAdopted}
use Rattle.archive_store.specs.declared.adopting.AdoptStop.{AdoptStop}
use Rattle.archive_store.specs.declared.store.Store.{Store}
use Rattle.archive_files.specs.Closing.{CloseResult, CloseResultHoldsArchive, IsCloseResultOf, IsConnectionCloseResult}
use Rattle.archive_files.specs.Opening.{FileHoldsArchive, finds_no_table, finds_tables}
use Rattle.archive_files.specs.Sparing.{TakesSums, database_is_spared, nothing_is_spared}
use Rattle.archive_files.specs.Unmade.{finds_no_row}
use Rattle.archive_files.specs.declared.databases.FilesLeft.{FilesLeft}
use Rattle.archive_files.specs.declared.databases.FilesLeft.TheVariants.{NotOpened, Unread, Reread, NotAdopted, Closed}

-- Tables of some version, 1 to 3, whose rows stand for this archive; or no table was made yet, and this is the empty archive.
abbrev pub TreesHoldArchive : Trees → Archive → Type 0
TreesHoldArchive db archive = ((number : ℕ) × IsKnownVersion number × IsArchiveStoredInFormat (format_of_version number) archive db)
    ⊎ (Lists (db catalog_tree) empty_schema × (archive ≡ empty_archive))

-- a database that was opened by this name, if the name is known, may be the one of that name
abbrev pub MayBeNamed : (known : Option (List ℕ)) → (name : List ℕ) → Type 0
MayBeNamed None name = ⊤
MayBeNamed (Some known) name = known ≡ name

-- each content of two files that a crash may leave holds this archive
abbrev pub AllImagesHoldArchive : (may_leave : Image → Type 0) → Archive → Type 0
AllImagesHoldArchive may_leave archive = (image : Image) → may_leave image → FileHoldsArchive image archive

-- Files hold this archive, as they read and whatever a crash leaves of them, if the disk has returned what was written to it.
abbrev pub FilesHoldArchive : {D : Type 0} → Ghosts D → Files D → Archive → Type 0
FilesHoldArchive g files archive = AreClean g files.log files.db → AllImagesHoldArchive (outcomes g files.log files.db) archive

module _ {D : Type 0} {g : Ghosts D} where
  -- each database that a crash may leave of a store holds this archive
  abbrev pub AllTreesHoldArchive : FileStore D g → Archive → Type 0
  AllTreesHoldArchive last archive = (db : Trees) → recovers last db → TreesHoldArchive db archive

  -- Files, which held this content, of which no connection came. Nothing is said if their first page says that pages end in sums, and the
  -- opening did not take them so: no clause of the toolchain rules that out.
  abbrev pub LeftoverHoldsArchive : (first : Image) → Leftover D g → Archive → Type 0
  LeftoverHoldsArchive first (rest.Files files) archive = AllImagesHoldArchive (outcomes g files.log files.db) archive
  LeftoverHoldsArchive first (rest.Unopened files) archive =
      TakesSums first (state_of files).page_size → (image : Image) → (state_of files).may_leave image → ∥ FileHoldsArchive image archive ∥₁
  LeftoverHoldsArchive first (rest.Store last) archive = AllTreesHoldArchive last archive

  -- Files held this archive when they were opened again, no connection came of them, and this is left of them.
  pub record IsLeftOfFilesThatHeld (leftover : Leftover D g) (archive : Archive) : Type 0 where
    pub files : Files D
    pub held : FilesHoldArchive g files archive
    pub leaves_files : IsCleanLeft leftover → LeavesFiles files leftover

  -- The same of what the close of a connection gave that no store took over.
  abbrev pub RefusedFilesHoldArchive : CloseResult g → Archive → Type 0
  RefusedFilesHoldArchive (Ok files) archive = FilesHoldArchive g files archive
  RefusedFilesHoldArchive (Err failed) archive = IsClean (view failed.1) → AllTreesHoldArchive failed.1 archive

  -- Files, which held this content before the database was opened, hold this archive: those that were not opened, because a system that
  -- does not open files writes nothing to them, as no clause says; those of a store that was closed; and, if the disk has returned what was
  -- written to it, what a crash leaves of those that no connection came of, and of those whose connection no store took over. Of files of which
  -- another opening gave no connection it is said what they held before it, and what it leaves of them: no clause of the toolchain says that a
  -- disk which has returned what was written to it after that opening had done so before.
  abbrev pub LeftFilesHoldArchive : (first : Image) → FilesLeft D g → Archive → Type 0
  LeftFilesHoldArchive first NotOpened archive = FileHoldsArchive first archive
  LeftFilesHoldArchive first (Unread leftover) archive = IsCleanLeft leftover → LeftoverHoldsArchive first leftover archive
  LeftFilesHoldArchive first (Reread leftover) archive = IsLeftOfFilesThatHeld leftover archive
  LeftFilesHoldArchive first (NotAdopted closed) archive = RefusedFilesHoldArchive closed archive
  LeftFilesHoldArchive first (Closed closed) archive = CloseResultHoldsArchive g closed archive

  -- A device holds what its files hold, of which `start` stands for what they held before they were opened. Once they were opened, it holds
  -- that under the name by which they were, if it knows the name. While its database is open, it holds no archive.
  abbrev pub DatabaseHoldsArchive : {A : Type 0} → (first : Image) → (start : Option A) → (known : Option (List ℕ)) → Option (FilesLeft D g) → (name : List ℕ) → Archive → Type 0
  DatabaseHoldsArchive first (Some start) known left name archive = FileHoldsArchive first archive
  DatabaseHoldsArchive first None known (Some left) name archive = MayBeNamed known name × LeftFilesHoldArchive first left archive
  DatabaseHoldsArchive first None known None name archive = ⊥

  -- A close left what comes of the close of this store.
  abbrev pub IsLeftByClose : Option (FilesLeft D g) → Store (FileStore D g) → Type 0
  IsLeftByClose (Some (Closed closed)) store = IsCloseResultOf closed store
  IsLeftByClose left store = ⊥

  -- These files were left by a close, or by an opening whose connection no store took over, so no connection has them.
  abbrev pub AreFilesLeft : Option (FilesLeft D g) → Files D → Type 0
  AreFilesLeft (Some (NotAdopted (Ok left))) files = left ≡ files
  AreFilesLeft (Some (Closed (Ok left))) files = left ≡ files
  AreFilesLeft left files = ⊥

  -- Such files were left, and no sync of either has failed.
  abbrev pub may_reopen : Option (FilesLeft D g) → Bool
  may_reopen (Some (NotAdopted (Ok left))) = g.is_usable left.log && g.is_usable left.db
  may_reopen (Some (Closed (Ok left))) = g.is_usable left.log && g.is_usable left.db
  may_reopen left = false

-- ---- databases and files that hold an archive

module _ (archive : Archive) where
  trees_hold : (first : Image) (db : Trees) → AreFoundIn first db → ((t : Trees) → HoldsDatabase first t → db ≡ t) → FileHoldsArchive first archive → TreesHoldArchive db archive
  trees_hold first db reads holds (inl tables) = inl (
    tables.number,
    tables.is_known_version,
    subst (IsArchiveStoredInFormat (format_of_version tables.number) archive) (sym (∥∥₁_elim tables.database (Trees-set _ _) (holds tables.trees)))
        (record { lists = tables.schema; tables = tables.are_tables_of_version; archive_is = tables.rows_stand_for_archive }),
  )
  trees_hold first db reads holds (inr (inl nothing, empty)) = inr ((empty_is_sound db (finds_no_row first db nothing reads)).lists, empty)
  trees_hold first db reads holds (inr (inr (trees, database, lists), empty)) =
      inr (subst (λ (t : Trees). Lists (t catalog_tree) empty_schema) (sym (∥∥₁_elim database (Trees-set _ _) (holds trees))) lists, empty)

  image_holds : (image : Image) (db : Trees) → ∥ HoldsDatabase image db ∥₁ → TreesHoldArchive db archive → FileHoldsArchive image archive
  image_holds image db database (inl (number, known, stored)) = inl (record {
    number = number;
    is_known_version = known;
    trees = db;
    database = database;
    schema = stored.lists;
    are_tables_of_version = stored.tables;
    rows_stand_for_archive = stored.archive_is;
  })
  image_holds image db database (inr (lists, empty)) = inr (inr (db, database, lists), empty)

  stored_holds : (db : Trees) (stored : Archive) → stored ≡ archive → IsArchiveStored stored db → TreesHoldArchive db archive
  stored_holds db stored is it =
      inl (newest_version, record { at_least_one = omega (arith); at_most_newest = omega (arith) }, subst (λ a. IsArchiveStored a db) is it)

-- ---- what a failed opening leaves

module _ {D : Type 0} {g : Ghosts D} (archive : Archive) where
  module _ (files : Files D) (fresh : (image : Image) → outcomes g files.log files.db image → image ≡ image_of g files) where
    unopened_holds : (now : Unopened D g) → LeavesFiles files (rest.Unopened now) → TakesSums (image_of g files) (state_of now).page_size → FileHoldsArchive (image_of g files) archive
        → (image : Image) → (state_of now).may_leave image → ∥ FileHoldsArchive image archive ∥₁
    unopened_holds now leaves takes (inl tables) = λ image may.
        ∣ inl (record {
          number = tables.number;
          is_known_version = tables.is_known_version;
          trees = tables.trees;
          database = ∥∥₁_map tables.database (database_is_spared files now leaves fresh image may takes tables.trees);
          schema = tables.schema;
          are_tables_of_version = tables.are_tables_of_version;
          rows_stand_for_archive = tables.rows_stand_for_archive;
        }) ∣₁
    unopened_holds now leaves takes (inr (inl nothing, empty)) = λ image may. elim (nothing_is_spared files now leaves fresh image may nothing) [
      | inl none ↦ ∣ inr (inl none, empty) ∣₁
      | inr made ↦ ∥∥₁_map made (λ it. inr (inr (it.0, ∣ it.1 ∣₁, (empty_is_sound it.0 it.2.1).lists), empty))
    ]
    unopened_holds now leaves takes (inr (inr (trees, database, lists), empty)) = λ image may.
        ∣ inr (inr (trees, ∥∥₁_map database (database_is_spared files now leaves fresh image may takes trees), lists), empty) ∣₁

    pub leftover_holds : (leftover : Leftover D g) → LeavesFiles files leftover → FileHoldsArchive (image_of g files) archive → LeftoverHoldsArchive (image_of g files) leftover archive
    leftover_holds (rest.Files now) leaves held = λ image may. subst (λ i. FileHoldsArchive i archive) (sym (fresh image (leaves image may))) held
    leftover_holds (rest.Unopened now) leaves held = λ takes. unopened_holds now leaves takes held
    leftover_holds (rest.Store now) leaves held = λ db may. trees_hold archive (image_of g files) db (leaves db may).0 (leaves db may).1 held

  module _ (stays : SeenMayStay g) (first : Image) (connection : Held (FileStore D g)) (opens : HasCleanDisk (file_state connection) → IsOpened connection)
      (finds : HasCleanDisk (file_state connection) → FindsIn first (file_state connection)) (stop : AdoptStop (FileStore D g)) (refused : IsNotAdopted over_files connection stop) where
    -- what a crash leaves of the connection as it was opened
    opened_leaves : HasCleanDisk (file_state connection) → FileHoldsArchive first archive → (db : Trees) → (file_state connection).may_leave db → TreesHoldArchive db archive
    opened_leaves clean held db may =
        subst (λ t. TreesHoldArchive t archive) (sym (settled_at connection.store stays db (opens clean).0.is_open may))
        (trees_hold archive first (file_state connection).committed.trees (finds clean).reads (finds clean).holds held)

    refused_leaves : HasCleanDisk (file_state stop.connection) → FileHoldsArchive first archive → (db : Trees) → (file_state stop.connection).may_leave db → TreesHoldArchive db archive
    refused_leaves clean (inl tables) db may =
        let was = refused.disk_was_clean clean in
        let found = finds_tables first connection (opens was) (finds was) archive tables in
        elim (refused.crash.migrates_older tables.number tables.is_known_version found.0 clean db may) [
          | inl before ↦ opened_leaves was (inl tables) db before
          | inr made ↦ stored_holds archive db _ found.1 made
        ]
    refused_leaves clean (inr new) db may =
        let was = refused.disk_was_clean clean in
        elim (refused.crash.makes_if_empty (finds_no_table first connection (opens was) (finds was) new.0) clean db may) [
          | inl before ↦ opened_leaves was (inr new) db before
          | inr made ↦ stored_holds archive db empty_archive (sym new.1) made
        ]

    pub refused_files_hold : (closed : CloseResult g) → IsConnectionCloseResult stop.connection closed → (HasCleanDisk (file_state connection) → FileHoldsArchive first archive)
        → RefusedFilesHoldArchive closed archive
    refused_files_hold (Ok files) copied held = λ clean image may.
        let it = copied clean in
        let committed = (file_state stop.connection).committed.trees in
        image_holds archive image committed (it.left image may).both
        (refused_leaves it.was_clean (held (refused.disk_was_clean it.was_clean)) committed (stays_at stop.connection.store stays it.was_open))
    refused_files_hold (Err failed) closed held = λ clean db may.
        let now : HasCleanDisk (file_state stop.connection) = omega (arith, closed.quiet.clean, clean) in
        refused_leaves now (held (refused.disk_was_clean now)) db (closed.quiet.outcomes db may)

  -- ---- files that were left

  pub left_files_hold : (first : Image) (left : FilesLeft D g) (files : Files D) → AreFilesLeft (Some left) files → LeftFilesHoldArchive first left archive
      → FilesHoldArchive g files archive
  left_files_hold first NotOpened files is held = absurd is
  left_files_hold first (Unread leftover) files is held = absurd is
  left_files_hold first (Reread leftover) files is held = absurd is
  left_files_hold first (NotAdopted (Ok left)) files is held = subst (λ f. FilesHoldArchive g f archive) is held
  left_files_hold first (NotAdopted (Err failed)) files is held = absurd is
  left_files_hold first (Closed (Ok left)) files is held = subst (λ f. FilesHoldArchive g f archive) is (λ clean image may. inl (held clean image may))
  left_files_hold first (Closed (Err failed)) files is held = absurd is

-- what files hold as they read
pub seen_files_hold : {D : Type 0} (g : Ghosts D) → SeenMayStay g → (files : Files D) (archive : Archive) → FilesHoldArchive g files archive → AreClean g files.log files.db
    → FileHoldsArchive (image_of g files) archive
seen_files_hold g stays files archive held clean = held clean (image_of g files) (stays files.log, stays files.db)
