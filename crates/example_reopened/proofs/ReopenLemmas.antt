-- Calls over files, one after the other, from what each of them says.
use Rattle.std.proofs.Common.{◌≡◌, ℕ, refl, sym, ap, ◌∙◌, subst, arith, Option, Some, None, Result, Ok, Err}
use Rattle.std.specs.Prelude.{MatchOption}
use Rattle.sqlite_disk.specs.declared.Disk.{Ghosts as DiskGhosts}
use Rattle.sqlite_disk.specs.declared.Files.{Files}
use Rattle.sqlite_wal.specs.Reads.{AreClean}
use Rattle.sqlite_trees.specs.Tree.{Trees}
use Rattle.sqlite_trees.specs.Objects.{catalog_tree}
use Rattle.sqlite_catalog.specs.Listing.{Lists}
use Rattle.sqlite_catalog.proofs.ReadLemmas.{lists_once}
use Rattle.sqlite_store.specs.declared.store.FileStore.{FileStore}
use Rattle.sqlite.specs.Effect.{Database}
use Rattle.archive_port.specs.declared.state.ArchiveState.{Ghosts}
use Rattle.sqlite.specs.Held.{Held}
use Rattle.sqlite.specs.State.{HasCleanDisk, IsLive}
use Rattle.sqlite.specs.Files.{over_files, file_state, Finds, IsOpened}
use Rattle.sqlite.specs.Closing.{IsCopied}
use Rattle.sqlite.proofs.Callers.{finds_again}
use Rattle.archive_model.specs.Records.{Archive}
use Rattle.archive_tables.specs.Tables.{IsKnownVersion, IsOpenArchiveInFormat, IsArchiveAtRest, AreTablesOfVersion, format_of_version, newest_version, archive_of_version, archive_of}
use Rattle.archive_store.specs.Held.{store_connection}
use Rattle.archive_store.specs.State.{state_of}
use Rattle.archive_store.specs.Told.{HoldsArchive}
use Rattle.archive_port.specs.Told.{HoldsTables, StoreHasCleanDisk, IsReady, archive_in, RelatesReadyArchives, RelatesReadyArchivesIfOpen, AnswersFromReadyStore}
use Rattle.archive_store.specs.declared.store.Store.{Store}
use Rattle.archive_port.proofs.Joins.{ready_with}
use Rattle.archive_desk.specs.Holding.{RelatesTableArchivesIfOpen}
use Rattle.archive_desk.proofs.CallLemmas.{calls_after}
use Rattle.example_reopened.specs.Reopening.{FilesHoldClosedRows, StoreAdoptsFiles, RelatesFilesToStore, RelatesFilesToOpenStore}
use Rattle.example_reopened.specs.Reopening.{WasReopened, RelatesAcrossReopen, RelatesAcrossReopenIfOpen, RemembersSameArchive, AnswersAfterReopen}

-- the law of `archive_store`: a file that is closed and opened again holds the same archive
abbrev AreAlike : {D : Type 0} → DiskGhosts D → Type 0
AreAlike {D} g = (closed opened : Held (FileStore D g)) (files : Files D) (archive : Archive) → HoldsArchive over_files closed archive → IsLive (file_state closed)
    → (AreClean g files.log files.db → IsCopied closed files) → Finds files opened → IsOpened opened → HoldsArchive over_files opened archive

newest_known : IsKnownVersion newest_version
newest_known = record { at_least_one = omega (arith); at_most_newest = omega (arith) }

module _ {D : Type 0} {g : DiskGhosts D} where
  -- ---- closed, and opened again

  -- whatever the version, the tables are those that were there
  tables_again : (number : ℕ) (closed opened : Held (FileStore D g)) (files : Files D) → IsOpenArchiveInFormat (format_of_version number) None (file_state closed) → IsLive (file_state closed)
      → (AreClean g files.log files.db → IsCopied closed files) → Finds files opened → IsOpened opened
      → IsOpenArchiveInFormat (format_of_version number) None (file_state opened) × ((file_state opened).now.trees ≡ (file_state closed).now.trees)
  tables_again number closed opened files held live copied found opens =
      let trees : (file_state opened).now.trees ≡ (file_state closed).now.trees =
      ap (λ (db : Database). db.trees) opens.0.clean ∙ finds_again closed opened files copied found ∙ ap (λ (db : Database). db.trees) held.committed_is in
      let before = (live held.is_open).0.lists in
      let after = (opens.1 opens.0.is_open).0.lists in
      let schema = lists_once _ _ _ (subst (λ (db : Trees). Lists (db catalog_tree) (file_state opened).now.schema) trees after) before in (
        record {
          is_open = opens.0.is_open;
          autocommit = opens.0.autocommit;
          committed_is = sym opens.0.clean;
          schema = schema ∙ held.schema;
          tables = subst (AreTablesOfVersion number) (sym trees) held.tables;
          rollback_leaves_archive = tt;
        },
        trees,
      )

  -- ---- opened and taken over

  pub takes_over : (files : Files D) (store : Store (FileStore D g)) (opened : Held (FileStore D g)) → (HasCleanDisk (file_state opened) → Finds files opened)
      → (HasCleanDisk (file_state opened) → IsOpened opened) → (StoreHasCleanDisk (state_of over_files) store → HasCleanDisk (file_state opened))
      → (StoreHasCleanDisk (state_of over_files) store → (number : ℕ) → IsKnownVersion number → IsOpenArchiveInFormat (format_of_version number) None (file_state opened)
      → IsArchiveAtRest (file_state (store_connection store)) × (archive_of (file_state (store_connection store)) ≡ archive_of_version number (file_state opened).now.trees))
      → StoreAdoptsFiles files store
  takes_over files store opened found opens clean brought returned = (opened, found (clean returned), opens (clean returned), brought returned)

  -- so it remembers what the rows of the files stood for
  pub rows_to : (files : Files D) (store : Store (FileStore D g)) → StoreAdoptsFiles files store → StoreHasCleanDisk (state_of over_files) store
      → (archive : Archive) → FilesHoldClosedRows g files archive → HoldsTables (state_of over_files) store × (archive_in (state_of over_files) store ≡ archive)
  rows_to files store takes returned archive held =
      let (opened, found, opens, brought) = takes returned in
      let again = tables_again held.number held.closed_connection opened files held.tables held.is_live held.is_copied found opens in
      let it = brought held.number held.is_known_version again.0 in
      (it.0, it.1 ∙ ap (archive_of_version held.number) again.1 ∙ held.rows_stand_for_archive)

  -- so it remembers what the files held
  pub leads_to : (files : Files D) (store : Store (FileStore D g)) → StoreAdoptsFiles files store → RelatesFilesToStore files store (λ a b. b ≡ a)
  leads_to files store takes returned archive held =
      let it = rows_to files store takes returned archive held.rows in
      (ready_with (state_of over_files) store archive it.0 it.1 held.is_indexed_correctly, it.1)

  module _ (files : Files D) (mid new : Store (FileStore D g)) where
    -- after a call
    pub leads_on : (R : Archive → Archive → Type 0) → RelatesFilesToStore files mid (λ a b. b ≡ a) → RelatesReadyArchives (state_of over_files) mid new R → RelatesFilesToStore files new R
    leads_on R before goes returned archive held =
        let here = before (goes.0.disk_was_clean returned) archive held in
        let there = goes.1 returned here.0 in
        (there.0, subst (λ a. R a (archive_in (state_of over_files) new)) here.1 there.1)

    pub leads_on_if_open : (R : Archive → Archive → Type 0) → RelatesFilesToStore files mid (λ a b. b ≡ a) → RelatesReadyArchivesIfOpen (state_of over_files) mid new R → RelatesFilesToOpenStore
        files new R
    leads_on_if_open R before goes returned archive held up =
        let here = before (goes.0.disk_was_clean returned) archive held in
        let there = goes.1 returned here.0 up in
        (there.0, subst (λ a. R a (archive_in (state_of over_files) new)) here.1 there.1)

    -- and after a close
    pub leads_again : (R : Archive → Archive → Type 0) → RelatesFilesToStore files mid R → RemembersSameArchive mid new → RelatesFilesToStore files new R
    leads_again R before same returned archive held =
        let here = before (same.0 returned) archive held in
        let there = same.1 returned here.0 in
        (there.0, subst (λ b. R archive b) (sym there.1) here.1)

    -- and after a request
    pub leads_still : (R : Archive → Archive → Type 0) → RelatesFilesToStore files mid R → RelatesTableArchivesIfOpen (state_of over_files) mid new (λ a b. b ≡ a) → RelatesFilesToOpenStore files new R
    leads_still R before goes returned archive held up =
        let here = before (goes.0.disk_was_clean returned) archive held in
        let there = goes.1 returned here.0.is_archive_at_rest up in
        (ready_with (state_of over_files) new (archive_in (state_of over_files) mid) there.0 there.1 here.0.is_indexed_correctly, subst (λ b. R archive b) (sym there.1) here.1)

-- ---- closed and opened again

module _ {D : Type 0} {g : DiskGhosts D} (store again : Store (FileStore D g)) where
  pub was_reopened : (files : Files D) → IsLive (file_state (store_connection store)) → (AreClean g files.log files.db → IsCopied (store_connection store) files)
      → StoreAdoptsFiles files again → WasReopened store again
  was_reopened files live copied takes returned =
      let (opened, found, opens, brought) = takes returned in (
        opened,
        files,
        record {
          is_live = live;
          is_copied = copied;
          finds_files = found;
          is_opened = opens;
          keeps_archive = λ archive holds now. let it = brought newest_version newest_known holds.0 in (it.0, it.1 ∙ holds.1);
        },
      )

  -- so it remembers the same archive
  pub remembers : AreAlike g → WasReopened store again → RemembersSameArchive store again
  remembers law was = (
    λ returned. let it = (was returned).2 in (it.is_copied it.finds_files.honest).was_clean,
    λ returned ready.
        let it = (was returned).2 in
        let holds = law (store_connection store) (was returned).0 (was returned).1 (archive_in (state_of over_files) store) (ready.is_archive_at_rest, refl, ready.is_indexed_correctly)
        it.is_live it.is_copied it.finds_files it.is_opened in
        let is = it.keeps_archive (archive_in (state_of over_files) store) holds returned in
        (ready_with (state_of over_files) again (archive_in (state_of over_files) store) is.0 is.1 ready.is_indexed_correctly, is.1),
  )

-- ---- asked

module _ {D : Type 0} {g : DiskGhosts D} (old mid new : Store (FileStore D g)) (same : RemembersSameArchive old mid) where
  goes_again : (R : Archive → Archive → Type 0) → RelatesReadyArchives (state_of over_files) mid new R → RelatesAcrossReopen old new R
  goes_again R goes = (
    λ returned. same.0 (goes.0.disk_was_clean returned),
    λ returned ready.
        let here = same.1 (goes.0.disk_was_clean returned) ready in
        let there = goes.1 returned here.0 in
        (there.0, subst (λ a. R a (archive_in (state_of over_files) new)) here.1 there.1),
  )

  goes_again_if_open : (R : Archive → Archive → Type 0) → RelatesReadyArchivesIfOpen (state_of over_files) mid new R → RelatesAcrossReopenIfOpen old new R
  goes_again_if_open R goes = (
    λ returned. same.0 (goes.0.disk_was_clean returned),
    λ returned ready up.
        let here = same.1 (goes.0.disk_was_clean returned) ready in
        let there = goes.1 returned here.0 up in
        (there.0, subst (λ a. R a (archive_in (state_of over_files) new)) here.1 there.1),
  )

  -- a question to a store that was closed and opened again
  pub asks_again : {A F R : Type 0} (reason : F → Option R) (refuses : Archive → Option R) (Says : Archive → A → Type 0) (result : Result A F)
      → AnswersFromReadyStore (state_of over_files) mid new reason result refuses Says → AnswersAfterReopen old new reason result refuses Says
  asks_again reason refuses Says (Ok answer) goes = goes_again (λ a b. (b ≡ a) × (refuses a ≡ None) × Says a answer) goes
  asks_again {R = R} reason refuses Says (Err fault) goes = by_reason (reason fault) goes
    where
      by_reason : (r : Option R)
          → MatchOption r (RelatesReadyArchivesIfOpen (state_of over_files) mid new (λ a b. b ≡ a)) (λ why. RelatesReadyArchives (state_of over_files) mid new
          (λ a b. (b ≡ a) × (refuses a ≡ Some why)))
          → MatchOption r (RelatesAcrossReopenIfOpen old new (λ a b. b ≡ a)) (λ why. RelatesAcrossReopen old new (λ a b. (b ≡ a) × (refuses a ≡ Some why)))
      by_reason None goes = goes_again_if_open (λ a b. b ≡ a) goes
      by_reason (Some why) goes = goes_again (λ a b. (b ≡ a) × (refuses a ≡ Some why)) goes

-- a question behind another one that was answered, and is refused for the same reason
pub both_asked : {S W : Type 0} (g : Ghosts S W) (old mid new : S) {A F R : Type 0} (reason : F → Option R) (refuses : Archive → Option R)
    (First : Archive → Type 0) (Says : Archive → A → Type 0) (result : Result A F)
    → RelatesReadyArchives g old mid (λ a b. (b ≡ a) × (refuses a ≡ None) × First a) → AnswersFromReadyStore g mid new reason result refuses Says
    → AnswersFromReadyStore g old new reason result refuses (λ a answer. First a × Says a answer)
both_asked g old mid new reason refuses First Says result before asks =
    calls_after g (IsReady g) old mid new reason (λ a b. (b ≡ a) × (refuses a ≡ None) × First a)
    (λ a b answer. (b ≡ a) × (refuses a ≡ None) × Says a answer) (λ a b answer. (b ≡ a) × (refuses a ≡ None) × (First a × Says a answer))
    (λ a b why. (b ≡ a) × (refuses a ≡ Some why)) (λ a b why. (b ≡ a) × (refuses a ≡ Some why)) (λ a b _. b ≡ a) (λ a b _. b ≡ a)
    (λ a b c answer first it. (it.0 ∙ first.0, first.1, (first.2, subst (λ x. Says x answer) first.0 it.2)))
    (λ a b c why first it. (it.0 ∙ first.0, subst (λ x. refuses x ≡ Some why) first.0 it.1))
    (λ a b c fault first it. it ∙ first.0) result before asks
