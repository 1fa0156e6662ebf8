-- A store that was opened from files, by what the files held.
use Rattle.std.proofs.Common.{◌≡◌, ◌∙◌, ap, inl, inr, subst, sym, ℕ, None}
use Rattle.std.specs.Prelude.{◌⊎◌}
use Rattle.std.proofs.Math.Logic.{∥∥₁_elim}
use Rattle.sqlite_disk.specs.declared.Disk.{Ghosts}
use Rattle.sqlite_disk.specs.declared.Files.{Files}
use Rattle.sqlite_wal.specs.Recovery.{Image}
use Rattle.sqlite_trees.specs.Props.{Trees-set}
use Rattle.sqlite_trees.specs.Tree.{Trees}
use Rattle.sqlite_trees.specs.Objects.{catalog_tree}
use Rattle.sqlite_catalog.specs.Listing.{Lists}
use Rattle.sqlite_catalog.proofs.ReadLemmas.{lists_once}
use Rattle.sqlite_store.specs.declared.store.FileStore.{FileStore}
use Rattle.sqlite.proofs.ListingLemmas.{empty_is_sound}
use Rattle.sqlite.specs.Effect.{Database}
use Rattle.sqlite.specs.Files.{over_files, file_state, image_of, Finds, HoldsDatabase, IsNothing, IsOpened}
use Rattle.sqlite.specs.Held.{Held}
use Rattle.sqlite.specs.Schema.{Schema}
use Rattle.sqlite.specs.Start.{FindsIn}
use Rattle.sqlite.specs.State.{HasCleanDisk}
use Rattle.archive_model.specs.Records.{Archive}
use Rattle.archive_tables.specs.Schema.{empty_schema, schema_of_version}
use Rattle.archive_tables.specs.Tables.{IsOpenArchiveInFormat, IsKnownVersion, AreTablesOfVersion, archive_of_version, format_of_version}
use Rattle.archive_tables.specs.Making.{empty_archive}
use Rattle.archive_store.specs.Adopting.{IsAdopted}
use Rattle.archive_store.specs.State.{state_of}
use Rattle.archive_store.specs.declared.store.Store.{Store}
use Rattle.archive_port.specs.Remembering.{StoreHoldsArchive}
use Rattle.archive_files.specs.Unmade.{finds_no_row}

-- The log and the database file hold tables of some version, 1 to 3, whose rows stand for this archive, whatever is filed of a message.
pub record ImageHoldsArchive (image : Image) (archive : Archive) : Type 0 where
  pub number : ℕ
  pub is_known_version : IsKnownVersion number
  pub trees : Trees
  pub database : ∥ HoldsDatabase image trees ∥₁
  pub schema : Lists (trees catalog_tree) (schema_of_version number)
  pub are_tables_of_version : AreTablesOfVersion number trees
  pub rows_stand_for_archive : archive_of_version number trees ≡ archive

-- No table was made yet: the database file is absent, empty or left half made by an open, or its catalog is empty.
abbrev pub IsNewFile : Image → Type 0
IsNewFile image = IsNothing image ⊎ ((trees : Trees) × ∥ HoldsDatabase image trees ∥₁ × Lists (trees catalog_tree) empty_schema)

-- The files hold tables that stand for this archive; or they are new, and this is the empty archive.
abbrev pub FileHoldsArchive : Image → Archive → Type 0
FileHoldsArchive image archive = ImageHoldsArchive image archive ⊎ (IsNewFile image × (archive ≡ empty_archive))

module _ {D : Type 0} {g : Ghosts D} (image : Image) (store : Store (FileStore D g)) where
  -- A connection found what the files held, and the store took it over.
  pub record IsOpenedFromImage : Type 0 where
    pub connection : Held (FileStore D g)
    pub finds_image : HasCleanDisk (file_state connection) → FindsIn image (file_state connection)
    pub is_opened : HasCleanDisk (file_state connection) → IsOpened connection
    pub is_adopted : IsAdopted over_files connection store

-- A connection found what these files held, and the store took it over. It is said that the disk had returned what was written to it when
-- they were opened, too.
pub record IsOpenedFromFiles {D : Type 0} {g : Ghosts D} (files : Files D) (store : Store (FileStore D g)) : Type 0 where
  pub connection : Held (FileStore D g)
  pub finds_files : HasCleanDisk (file_state connection) → Finds files connection
  pub is_opened : HasCleanDisk (file_state connection) → IsOpened connection
  pub is_adopted : IsAdopted over_files connection store

-- ---- the laws of a system's device

-- what was found in files was found in what they held
pub opened_from_image : {D : Type 0} {g : Ghosts D} (files : Files D) (store : Store (FileStore D g)) → IsOpenedFromFiles files store → IsOpenedFromImage (image_of g files) store
opened_from_image files store was = record {
  connection = was.connection;
  finds_image = λ clean. record { holds = (was.finds_files clean).holds; reads = (was.finds_files clean).reads };
  is_opened = was.is_opened;
  is_adopted = was.is_adopted;
}

module _ {D : Type 0} {g : Ghosts D} (image : Image) (connection : Held (FileStore D g)) (opens : IsOpened connection) where
  -- a catalog lists one schema only
  has_schema : (trees : Trees) (schema : Schema) → (file_state connection).now.trees ≡ trees → Lists (trees catalog_tree) schema → (file_state connection).now.schema ≡ schema
  has_schema trees schema same lists =
      lists_once _ _ _ (subst (λ (db : Trees). Lists (db catalog_tree) (file_state connection).now.schema) same (opens.1 opens.0.is_open).0.lists) lists

  found_trees : FindsIn image (file_state connection) → (trees : Trees) → ∥ HoldsDatabase image trees ∥₁ → (file_state connection).now.trees ≡ trees
  found_trees found trees held = ap (λ (db : Database). db.trees) opens.0.clean ∙ ∥∥₁_elim held (Trees-set _ _) (found.holds trees)

  pub finds_no_table : FindsIn image (file_state connection) → IsNewFile image → (file_state connection).now.schema ≡ empty_schema
  finds_no_table found (inl nothing) =
      let none = finds_no_row image (file_state connection).committed.trees nothing found.reads in
      has_schema (file_state connection).committed.trees empty_schema (ap (λ (db : Database). db.trees) opens.0.clean) (empty_is_sound (file_state connection).committed.trees none).lists
  finds_no_table found (inr empty) = has_schema empty.0 empty_schema (found_trees found empty.0 empty.1) empty.2

  pub finds_tables : FindsIn image (file_state connection) → (archive : Archive) → (held : ImageHoldsArchive image archive)
      → IsOpenArchiveInFormat (format_of_version held.number) None (file_state connection) × (archive_of_version held.number (file_state connection).now.trees ≡ archive)
  finds_tables found archive held =
      let trees = found_trees found held.trees held.database in (
        record {
          is_open = opens.0.is_open;
          autocommit = opens.0.autocommit;
          committed_is = sym opens.0.clean;
          schema = has_schema held.trees (schema_of_version held.number) trees held.schema;
          tables = subst (AreTablesOfVersion held.number) (sym trees) held.are_tables_of_version;
          rollback_leaves_archive = tt;
        },
        ap (archive_of_version held.number) trees ∙ held.rows_stand_for_archive,
      )

module _ {D : Type 0} {g : Ghosts D} (image : Image) where
  -- the store remembers what the files held: of new files, the empty archive
  pub opened_store_holds_archive : (store : Store (FileStore D g)) (archive : Archive) → IsOpenedFromImage image store → FileHoldsArchive image archive → StoreHoldsArchive (state_of over_files)
      store archive
  opened_store_holds_archive store archive was (inl held) returned =
      let clean = was.is_adopted.disk_was_clean returned in
      let found = finds_tables image was.connection (was.is_opened clean) (was.finds_image clean) archive held in
      let brought = was.is_adopted.migrates_older returned held.number held.is_known_version found.0 in
      (brought.0, brought.1 ∙ found.1)
  opened_store_holds_archive store archive was (inr new) returned =
      let clean = was.is_adopted.disk_was_clean returned in
      let made = was.is_adopted.makes_if_empty returned (finds_no_table image was.connection (was.is_opened clean) (was.finds_image clean) new.0) in
      (made.0, made.1 ∙ sym new.1)
