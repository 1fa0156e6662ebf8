-- A machine that stops: what is left of the files, and what is found in them.
use Rattle.std.proofs.Common.{◌≡◌, ◌⊎◌, inl, inr, refl, sym, ap, subst, ◌∙◌, arith, IsTrue, Option, Some, None}
use Rattle.std.specs.Prelude.{MatchOption}
use Rattle.std.proofs.Math.Logic.{∥∥₁_map}
use Rattle.std.proofs.lemmas.Bool.{and_parts, and_from}
use Rattle.sqlite_disk.specs.declared.Disk.{Ghosts}
use Rattle.sqlite_disk.specs.declared.Files.{Files}
use Rattle.sqlite_wal.specs.Reads.{AreClean}
use Rattle.sqlite_wal.specs.Files.{outcomes}
use Rattle.sqlite_wal.proofs.LogLemmas.{SeenMayStay}
use Rattle.sqlite_trees.specs.Tree.{Trees}
use Rattle.sqlite_trees.specs.Objects.{catalog_tree}
use Rattle.sqlite_trees.specs.View.{IsClean, IsQuiet}
use Rattle.sqlite_trees.proofs.Doubt.{no_doubt}
use Rattle.sqlite_catalog.specs.Listing.{Lists}
use Rattle.sqlite_catalog.proofs.ReadLemmas.{lists_once}
use Rattle.sqlite_pool.proofs.StateLemmas.{clean_is, may_leave_is}
use Rattle.sqlite_store.specs.declared.store.FileStore.{FileStore}
use Rattle.sqlite_store.specs.FileStore.{view, faults, recovers, is_shielded, files as files_of}
use Rattle.sqlite_store.specs.Laws.{settled_at}
use Rattle.sqlite.specs.Effect.{Database}
use Rattle.sqlite.specs.Held.{Held, AreDatabases}
use Rattle.sqlite.specs.State.{HasCleanDisk}
use Rattle.sqlite.specs.Files.{over_files, file_state, image_of, Finds, IsOpened}
use Rattle.sqlite.proofs.Theorems.{opens_again}
use Rattle.archive_model.specs.Records.{Archive}
use Rattle.archive_model.specs.Commands.{CommandReply}
use Rattle.archive_model.specs.Machine.{StepOutcome}
use Rattle.archive_model.specs.Sound.{IsIndexedCorrectly}
use Rattle.archive_tables.specs.Schema.{archive_schema}
use Rattle.archive_tables.specs.Tables.{IsArchiveAtRest, AreArchiveTables, archive_in_trees, archive_of}
use Rattle.archive_tables.specs.Crashes.{IsArchiveStored, CrashAddsOnly}
use Rattle.archive_store.specs.Adopting.{IsAdopted}
use Rattle.archive_store.specs.Held.{store_connection}
use Rattle.archive_store.specs.Replies.{PerformsModelStep, MatchesModelStep}
use Rattle.archive_store.specs.Told.{StoreHasCleanDisk}
use Rattle.archive_store.specs.declared.store.Store.{Store}
use Rattle.archive_store.proofs.Joins.{ready_with}
use Rattle.example_stopped.specs.Stopping.{FilesHoldArchive, RemembersDurably, IsOpenedFrom, AreFilesAfterCrash, IsReopenedAfterCrash, CommandSurvivesCrash}

-- a database that stores an archive, and another that is the same
same_stored : (a b : Archive) (there db : Trees) → db ≡ there → IsArchiveStored a there → b ≡ a → IsArchiveStored b db
same_stored a b there db is stored same = record {
  lists = subst (λ (t : Trees). Lists (t catalog_tree) archive_schema) (sym is) stored.lists;
  tables = subst AreArchiveTables (sym is) stored.tables;
  archive_is = ap archive_in_trees is ∙ stored.archive_is ∙ sym same;
}

-- what an open finds of this archive and of the one that the machine makes of it
abbrev Found : (before : Archive) (step : Archive → StepOutcome) → Option CommandReply → Trees → Type 0
Found before step reply db = (archive : Archive) × MatchOption reply ((archive ≡ before) ⊎ (archive ≡ (step before).0)) (λ told. (archive, told) ≡ step before)
    × IsArchiveStored archive db × IsIndexedCorrectly archive

module _ {D : Type 0} {g : Ghosts D} where
  -- ---- the machine stops

  -- the connection is that of the store
  pub quiet_of : (store : Store (FileStore D g)) (connection : Held (FileStore D g)) (back : FileStore D g) → connection ≡ store_connection store
      → IsQuiet view faults recovers is_shielded connection.store back → IsQuiet view faults recovers is_shielded (store_connection store).store back
  quiet_of store connection back is quiet = subst (λ (h : Held (FileStore D g)). IsQuiet view faults recovers is_shielded h.store back) is quiet

  -- a store that gives its files back, and each of them crashes
  module _ (store : Store (FileStore D g)) (back : FileStore D g) (log db log' db' : D) (quiet : IsQuiet view faults recovers is_shielded (store_connection store).store back)
      (is : (log, db) ≡ files_of back) (log_clean : IsTrue (g.is_clean log') → IsTrue (g.is_clean log)) (db_clean : IsTrue (g.is_clean db') → IsTrue (g.is_clean db)) where
    back_clean : AreClean g log' db' → AreClean g (files_of back).0 (files_of back).1
    back_clean honest =
        let parts = and_parts _ _ honest in
        subst (λ (p : D × D). AreClean g p.0 p.1) is (and_from _ _ (log_clean parts.0) (db_clean parts.1))

    no_doubt_of : AreClean g log' db' → IsClean (view back)
    no_doubt_of honest = no_doubt _ (clean_is back.pool ∙ back_clean honest)

    pub left_of : (IsClean (view back) → IsTrue (view back).is_numbered) → (IsClean (view back) → AreDatabases (recovers back))
        → g.may_leave log (g.seen log') → g.may_leave db (g.seen db') → AreFilesAfterCrash store (record { log = log'; db = db' })
    left_of numbered sound log_left db_left = record {
      clean = λ honest. let none = no_doubt_of honest in omega (arith, quiet.clean, none);
      found = λ honest.
          let none = no_doubt_of honest in
          let image = image_of g (record { log = log'; db = db' }) in
          let may = may_leave_is back.pool image (back_clean honest) (subst (λ (p : D × D). outcomes g p.0 p.1 image) is (log_left, db_left)) in
          ∥∥₁_map (opens_again back (numbered none) (sound none) image may) (λ it. (it.0, quiet.outcomes it.0 it.1, it.2));
    }

  -- ---- files are opened

  -- what a stop leaves of an open store is what it sees
  now_is : SeenMayStay g → (c : Held (FileStore D g)) → IsArchiveAtRest (file_state c) → (db : Trees) → (file_state c).may_leave db → db ≡ (file_state c).now.trees
  now_is stays c kept db may = settled_at c.store stays db kept.is_open may ∙ ap (λ (d : Database). d.trees) kept.committed_is

  -- a connection that was opened from files which hold an archive
  kept_from : (files : Files D) (opened : Held (FileStore D g)) (archive : Archive) → Finds files opened → IsOpened opened → (held : FilesHoldArchive g files archive)
      → (file_state opened).now.trees ≡ held.db → IsArchiveAtRest (file_state opened)
  kept_from files opened archive found opens held is =
      let lists = (opens.1 opens.0.is_open).0.lists in record {
        is_open = opens.0.is_open;
        autocommit = opens.0.autocommit;
        committed_is = sym opens.0.clean;
        schema = lists_once _ _ _ (subst (λ (t : Trees). Lists (t catalog_tree) (file_state opened).now.schema) is lists) held.stores_archive.lists;
        tables = subst AreArchiveTables (sym is) held.stores_archive.tables;
        rollback_leaves_archive = tt;
      }

  -- and that was taken over
  remembers_it : SeenMayStay g → (files : Files D) (opened : Held (FileStore D g)) (store : Store (FileStore D g)) → Finds files opened → IsOpened opened
      → IsAdopted over_files opened store → StoreHasCleanDisk over_files store → (archive : Archive) → FilesHoldArchive g files archive → RemembersDurably store archive
  remembers_it stays files opened store found opens adopted returned archive held =
      let is : (file_state opened).now.trees ≡ held.db = ap (λ (d : Database). d.trees) opens.0.clean ∙ found.holds held.db held.files_hold_database in
      let kept = kept_from files opened archive found opens held is in
      let it = adopted.archive_at_rest_is_same returned kept in
      let rows = adopted.keeps_rows returned (record { is_open = kept.is_open; autocommit = kept.autocommit; committed_is_now = kept.committed_is; schema = kept.schema }) it.0.is_open in
      let same = it.1 ∙ ap archive_in_trees is ∙ held.stores_archive.archive_is in
      let there : (file_state (store_connection store)).now.trees ≡ held.db = ap (λ (d : Database). d.trees) rows.0 ∙ is in record {
        is_ready = ready_with over_files store archive it.0 same held.is_indexed_correctly;
        archive_is = same;
        is_crash_safe = λ db may. same_stored archive (archive_of (file_state (store_connection store))) held.db db
            (now_is stays (store_connection store) it.0 db may ∙ there) held.stores_archive same;
      }

  pub opened_from : SeenMayStay g → (files : Files D) (opened : Held (FileStore D g)) (store : Store (FileStore D g))
      → (HasCleanDisk (file_state opened) → Finds files opened) → (HasCleanDisk (file_state opened) → IsOpened opened) → IsAdopted over_files opened store
      → IsOpenedFrom files store
  opened_from stays files opened store found opens adopted = record {
    clean = λ returned. (found (adopted.disk_was_clean returned)).honest;
    remembers_durably = λ returned.
        remembers_it stays files opened store (found (adopted.disk_was_clean returned)) (opens (adopted.disk_was_clean returned)) adopted returned;
  }

  -- ---- one behind the other

  pub found_behind : (store again : Store (FileStore D g)) (files : Files D) → AreFilesAfterCrash store files → IsOpenedFrom files again → IsReopenedAfterCrash store again
  found_behind store again files left opened returned =
      let honest = opened.clean returned in (
        left.clean honest,
        ∥∥₁_map (left.found honest) (λ it. (
          it.0,
          it.1,
          λ archive stored right. opened.remembers_durably returned archive (record { db = it.0; files_hold_database = it.2; stores_archive = stored; is_indexed_correctly = right }),
        )),
      )

  -- ---- a command, and a stop in it or behind it

  found_in : SeenMayStay g → (old new : Held (FileStore D g)) (before : Archive) (step : Archive → StepOutcome) (reply : Option CommandReply) (db : Trees)
      → archive_of (file_state old) ≡ before → IsIndexedCorrectly before → IsIndexedCorrectly (step before).0 → MatchesModelStep (file_state old) (file_state new) step reply
      → (file_state new).may_leave db → IsArchiveStored before db ⊎ IsArchiveStored (step before).0 db → Found before step reply db
  found_in stays old new before step None db same right right_after steps may (inl stored) = (before, inl refl, stored, right)
  found_in stays old new before step None db same right right_after steps may (inr stored) = ((step before).0, inr refl, stored, right_after)
  found_in stays old new before step (Some told) db same right right_after steps may left =
      let now = archive_of (file_state new) in
      let is : (now, told) ≡ step before = subst (λ a. (now, told) ≡ step a) same steps.1 in
      let there = now_is stays new steps.0 db may in
      let stored : (a : Archive) → IsArchiveStored a db → IsArchiveStored now db =
      λ a it. record { lists = it.lists; tables = it.tables; archive_is = ap archive_in_trees there } in (
        now,
        is,
        elim left [ inl it ↦ stored before it | inr it ↦ stored (step before).0 it ],
        subst IsIndexedCorrectly (sym (ap (λ (o : StepOutcome). o.0) is)) right_after,
      )

  pub stopped_in : SeenMayStay g → (files : Files D) (store mid again : Store (FileStore D g)) (step : Archive → StepOutcome) (reply : Option CommandReply)
      → ((a : Archive) → IsIndexedCorrectly a → IsIndexedCorrectly (step a).0) → IsOpenedFrom files store → (StoreHasCleanDisk over_files mid → StoreHasCleanDisk over_files store)
      → PerformsModelStep over_files (store_connection store) (store_connection mid) step reply
      → (IsArchiveAtRest (file_state (store_connection store)) → CrashAddsOnly over_files (store_connection store) (store_connection mid)
      (IsArchiveStored (step (archive_of (file_state (store_connection store)))).0))
      → IsReopenedAfterCrash mid again → CommandSurvivesCrash files again step reply
  stopped_in stays files store mid again step reply right opened had does crash behind returned before held =
      let both = behind returned in
      let was = opened.remembers_durably (had both.0) before held in
      let kept = was.is_ready.is_archive_at_rest in
      ∥∥₁_map both.1 (λ it.
      let left : IsArchiveStored before it.0 ⊎ IsArchiveStored (step before).0 it.0 =
      elim (crash kept both.0 it.0 it.1) [
        | inl earlier ↦ inl (subst (λ a. IsArchiveStored a it.0) was.archive_is (was.is_crash_safe it.0 earlier))
        | inr made ↦ inr (subst (λ a. IsArchiveStored (step a).0 it.0) was.archive_is made)
      ] in
      let there = found_in stays (store_connection store) (store_connection mid) before step reply it.0 was.archive_is held.is_indexed_correctly (right before held.is_indexed_correctly)
      (does both.0 kept) it.1 left in
      (there.0, there.1, it.2 there.0 there.2 there.3))
