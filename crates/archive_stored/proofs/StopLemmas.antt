-- A machine that stopped, and requests to the file that is opened again.
use Rattle.std.proofs.Common.{◌≡◌, ◌⊎◌, ◌∙◌, sym, ap, subst, Option, Some, None}
use Rattle.std.specs.Prelude.{MatchOption}
use Rattle.sqlite_disk.specs.declared.Disk.{Ghosts}
use Rattle.sqlite_disk.specs.declared.Files.{Files}
use Rattle.sqlite_trees.specs.Tree.{Trees}
use Rattle.sqlite_trees.specs.Objects.{catalog_tree}
use Rattle.sqlite_catalog.specs.Listing.{Lists}
use Rattle.sqlite_catalog.proofs.ReadLemmas.{lists_once}
use Rattle.sqlite_store.specs.declared.store.FileStore.{FileStore}
use Rattle.sqlite.specs.Effect.{Database}
use Rattle.sqlite.specs.Held.{Held}
use Rattle.sqlite.specs.State.{State}
use Rattle.sqlite.specs.Files.{over_files, file_state, IsOpened}
use Rattle.archive_model.specs.Records.{Archive}
use Rattle.archive_model.specs.Commands.{CommandReply}
use Rattle.archive_model.specs.Machine.{StepOutcome}
use Rattle.archive_tables.specs.Crashes.{CrashLeavesArchiveWhere, IsCrashSafe, IsArchiveStored}
use Rattle.archive_tables.specs.Tables.{IsArchiveAtRest, AreArchiveTables, archive_in_trees, archive_of}
use Rattle.archive_store.specs.Crashes.{CrashSteps, CrashAfterCommand}
use Rattle.archive_store.specs.State.{state_of}
use Rattle.archive_store.specs.Replies.{PerformsModelStep}
use Rattle.archive_store.specs.declared.store.Store.{Store}
use Rattle.archive_stored.specs.Stopped.{AnswersAfterCrash}
use Rattle.archive_pages.proofs.RunningLemmas.{answers_from}

-- the archive that is in a database which a stop leaves
left_by : (cut : State) (before after : Archive) (reply : Option CommandReply) (db : Trees) → cut.may_leave db
    → MatchOption reply (CrashLeavesArchiveWhere cut (λ a. (a ≡ before) ⊎ (a ≡ after))) (λ _. (archive_of cut ≡ after) × IsCrashSafe cut)
    → (a : Archive) × MatchOption reply ((a ≡ before) ⊎ (a ≡ after)) (λ _. a ≡ after) × IsArchiveStored a db
left_by cut before after None db may leaves = leaves db may
left_by cut before after (Some told) db may stops = (archive_of cut, stops.0, stops.1 db may)

module _ {D : Type 0} {g : Ghosts D} where
  -- a connection that was opened from files which hold it
  kept_of : (opened : Held (FileStore D g)) (db : Trees) (a : Archive) → IsOpened opened → (file_state opened).now.trees ≡ db → IsArchiveStored a db
      → IsArchiveAtRest (file_state opened)
  kept_of opened db a opens is stored =
      let lists = (opens.1 opens.0.is_open).0.lists in record {
        is_open = opens.0.is_open;
        autocommit = opens.0.autocommit;
        committed_is = sym opens.0.clean;
        schema = lists_once _ _ _ (subst (λ (t : Trees). Lists (t catalog_tree) (file_state opened).now.schema) is lists) stored.lists;
        tables = subst AreArchiveTables (sym is) stored.tables;
        rollback_leaves_archive = tt;
      }

  pub answers_behind : (old cut opened : Held (FileStore D g)) (files : Files D) (store : Store (FileStore D g)) (step : Archive → StepOutcome) (reply : Option CommandReply)
      → (PerformsModelStep over_files old cut step reply → CrashSteps over_files old cut step → CrashAfterCommand over_files old cut step reply)
      → AnswersAfterCrash old cut opened files store step reply
  answers_behind old cut opened files store step reply stops kept safe does crash clean it =
      let before = archive_of (file_state old) in
      let there = left_by (file_state cut) before (step before).0 reply it.db it.crash_may_leave (stops does crash clean kept safe) in
      let is : (file_state opened).now.trees ≡ it.db = ap (λ (d : Database). d.trees) it.is_opened.0.clean ∙ it.finds_files.holds it.db it.files_hold_database in
      let held = kept_of opened it.db there.0 it.is_opened is there.2 in (
        there.0,
        there.1,
        λ new returned rules day read_before read_after ends_before ends_after told_before told_after result said.
            answers_from (state_of over_files) store new there.0 returned
            (λ was. let found = it.is_adopted.archive_at_rest_is_same was held in (found.0, found.1 ∙ ap archive_in_trees is ∙ there.2.archive_is)) rules day
            result read_before read_after ends_before ends_after told_before told_after said,
      )
