-- What a stop of the machine leaves in a command and behind it.
use Rattle.std.proofs.Common.{◌≡◌, ◌≤◌, inl, inr, refl, sym, ap, subst, ◌∙◌, arith, ℕ, ◌+◌, List, length, Option, Some, None, Ok, Err}
use Rattle.std.proofs.lemmas.List.{take_all}
use Rattle.std.specs.Prelude.{IsTrue, Bool, true, false, is_some, ◌==◌, if◌then◌else◌, Vec}
use Rattle.sqlite_trees.specs.Objects.{catalog_tree}
use Rattle.sqlite_catalog.specs.Listing.{Lists}
use Rattle.sqlite.specs.Tree.{Trees}
use Rattle.sqlite.specs.Schema.{Schema}
use Rattle.sqlite.specs.Effect.{Database}
use Rattle.sqlite.specs.Store.{Ghosts}
use Rattle.sqlite.specs.Held.{Held, state}
use Rattle.sqlite.specs.State.{State, HasCleanDisk, IsLive}
use Rattle.archive_model.specs.Records.{Archive}
use Rattle.archive_model.specs.Commands.{Command, CommandReply}
use Rattle.archive_model.specs.Machine.{StepOutcome}
use Rattle.archive_model.specs.Runs.{run}
use Rattle.mbox_items.specs.Division.{Item}
use Rattle.archive_tables.specs.Schema.{archive_schema, empty_schema, schema_1, schema_2, schema_3}
use Rattle.archive_tables.specs.Tables.{IsOpenArchiveInFormat, IsArchiveAtRest, AreArchiveTables, format_of_version, archive_in_trees, archive_of}
use Rattle.archive_tables.specs.Crashes.{IsArchiveStored, IsCrashSafe, CrashAddsNothing, CrashAddsOnly, CrashLeavesArchiveWhere}
use Rattle.archive_store.specs.Replies.{PerformsModelStep, MatchesModelStep}
use Rattle.archive_store.specs.Crashes.{CrashAddsAllBatches, CrashRuns, CrashSteps, CrashAdopts, HasRunCommands, CrashLeavesRelatedArchive, CrashAfterCommand}
use Rattle.archive_port.specs.Adding.{HasAddedAtLeast}
use Rattle.archive_port.specs.declared.reports.AddReport.{AddReport}
use Rattle.archive_port.specs.declared.reports.AddError.{AddError}
use Rattle.archive_store.specs.declared.running.Outcome.{Outcome as Answered}
use Rattle.archive_store.specs.declared.running.CommandRunError.{CommandRunError}
use Rattle.std.specs.declared.alloc.Global.{Global}

module _ {S : Type 0} (g : Ghosts S) where
  -- ---- what a stop leaves of an open connection is what is committed

  abbrev pub KeepsCommit : Held S → Type 0
  KeepsCommit c = (db : Trees) → IsTrue (state g c).is_open → (state g c).may_leave db → db ≡ (state g c).committed.trees

  now_is : (c : Held S) → KeepsCommit c → IsArchiveAtRest (state g c) → (db : Trees) → (state g c).may_leave db → db ≡ (state g c).now.trees
  now_is c settled kept db may = settled db kept.is_open may ∙ ap (λ (d : Database). d.trees) kept.committed_is

  pub live_is_safe : (c : Held S) → KeepsCommit c → IsArchiveAtRest (state g c) → IsLive (state g c) → IsCrashSafe (state g c)
  live_is_safe c settled kept live = λ db may.
      let is = now_is c settled kept db may in
      let listed = subst (λ (x : Schema). Lists ((state g c).now.trees catalog_tree) x) kept.schema (live kept.is_open).0.lists in
      record {
        lists = subst (λ (t : Trees). Lists (t catalog_tree) archive_schema) (sym is) listed;
        tables = subst AreArchiveTables (sym is) kept.tables;
        archive_is = ap archive_in_trees is;
      }

  -- it stores an archive, so it stores the one that is open
  safe_by : (c : Held S) → KeepsCommit c → IsArchiveAtRest (state g c) → (db : Trees) → (state g c).may_leave db → (a : Archive) → IsArchiveStored a db → IsArchiveStored (archive_of (state g c)) db
  safe_by c settled kept db may a stored = record { lists = stored.lists; tables = stored.tables; archive_is = ap archive_in_trees (now_is c settled kept db may) }

  -- behind a call that leaves the tables an archive's, whatever it may commit of them
  pub stays_safe : (old new : Held S) → KeepsCommit new → IsArchiveAtRest (state g new) → (Is : Trees → Type 0) → ((db : Trees) → Is db → (a : Archive) × IsArchiveStored a db)
      → CrashAddsOnly g old new Is
      → HasCleanDisk (state g new) → IsCrashSafe (state g old) → IsCrashSafe (state g new)
  stays_safe old new settled kept Is stored crash clean safe = λ db may. elim (crash clean db may) [
    | inl before ↦ safe_by new settled kept db may _ (safe db before)
    | inr it ↦ (let s = stored db it in safe_by new settled kept db may s.0 s.1)
  ]

  -- where a command was answered
  pub answered_safe : (old new : Held S) → KeepsCommit new → (step : Archive → StepOutcome) (reply : Option CommandReply) → is_some reply ≡ true
      → MatchesModelStep (state g old) (state g new) step reply
      → CrashAddsOnly g old new (IsArchiveStored (step (archive_of (state g old))).0) → HasCleanDisk (state g new) → IsCrashSafe (state g old) → IsCrashSafe (state g new)
  answered_safe old new settled step None told steps crash clean safe = absurd cc
  answered_safe old new settled step (Some reply) told steps crash clean safe =
      stays_safe old new settled steps.0 (IsArchiveStored (step (archive_of (state g old))).0) (λ db it. ((step (archive_of (state g old))).0, it)) crash clean safe

  -- whatever archive a stop leaves, of an open one it is what is remembered
  pub left_safe : (c : Held S) → KeepsCommit c → IsArchiveAtRest (state g c) → (Is : Archive → Type 0) → CrashLeavesArchiveWhere (state g c) Is → IsCrashSafe (state g c)
  left_safe c settled kept Is left = λ db may. let it = left db may in safe_by c settled kept db may it.0 it.2

  -- behind a question
  pub asked_safe : (old new : Held S) → CrashAddsNothing g old new → archive_of (state g new) ≡ archive_of (state g old) → HasCleanDisk (state g new) → IsCrashSafe (state g old)
      → IsCrashSafe (state g new)
  asked_safe old new quiet same clean safe = λ db may. subst (λ a. IsArchiveStored a db) (sym same) (safe db (quiet clean db may))

  -- ---- a command as a whole

  pub stops_in : (old new : Held S) → KeepsCommit new → (step : Archive → StepOutcome) (reply : Option CommandReply) → PerformsModelStep g old new step reply → CrashSteps g old new step
      → CrashAfterCommand g old new step reply
  stops_in old new settled step None does crash = λ clean kept safe db may. elim (crash kept clean db may) [
    | inl before ↦ (archive_of (state g old), inl refl, safe db before)
    | inr it ↦ ((step (archive_of (state g old))).0, inr refl, it)
  ]
  stops_in old new settled step (Some reply) does crash = λ clean kept safe.
      let it = does clean kept in
      (ap (λ (o : StepOutcome). o.0) it.1, answered_safe old new settled step (Some reply) refl it (crash kept) clean safe)

  -- ---- commands or messages, one after the other

  -- what is open is left, and nothing else, and it is this of the archive before
  pub leaves_now : (old new : Held S) (Is : Archive → Archive → Type 0) → (HasCleanDisk (state g new) → IsArchiveAtRest (state g old) → Is (archive_of (state g old)) (archive_of (state g new)))
      → (HasCleanDisk (state g new) → IsArchiveAtRest (state g old) → IsCrashSafe (state g old) → IsCrashSafe (state g new)) → CrashLeavesRelatedArchive g old new Is
  leaves_now old new Is is safe = λ clean kept was db may. (archive_of (state g new), is clean kept, safe clean kept was db may)

  -- the same in weaker words
  pub leaves_as : (old new : Held S) (Is Also : Archive → Archive → Type 0) → ((a b : Archive) → Is a b → Also a b) → CrashLeavesRelatedArchive g old new Is → CrashLeavesRelatedArchive g old new Also
  leaves_as old new Is Also also leaves = λ clean kept safe db may. let it = leaves clean kept safe db may in (it.0, also (archive_of (state g old)) it.0 it.1, it.2)

  module _ (old new : Held S) (commands : List Command) where
    pub ran_crash : (outcomes : Vec Answered Global)
        → (HasCleanDisk (state g new) → IsArchiveAtRest (state g old) → archive_of (state g new) ≡ (run (archive_of (state g old)) commands).archive)
        → (HasCleanDisk (state g new) → IsArchiveAtRest (state g old) → IsCrashSafe (state g old) → IsCrashSafe (state g new)) → CrashRuns g old new commands (Ok outcomes)
    ran_crash outcomes is safe = record {
      during_call = leaves_now old new (HasRunCommands commands 0 (length commands)) (λ clean kept. (
        length commands,
        omega arith,
        omega arith,
        is clean kept ∙ ap (λ cs. (run (archive_of (state g old)) cs).archive) (sym (take_all (length commands) commands (omega arith))),
      )) safe;
      after_error = tt;
    }

    -- those up to where it stopped, or the next, too
    pub broken_run : (stop : CommandRunError) (most : ℕ) → most ≤ stop.done + 1 → most ≤ length commands → CrashLeavesRelatedArchive g old new (HasRunCommands commands stop.done most)
        → CrashRuns g old new commands (Err stop)
    broken_run stop most next all leaves = record {
      during_call = leaves_as old new (HasRunCommands commands stop.done most) (HasRunCommands commands 0 (length commands)) (λ a b it. (it.0, omega arith, omega (arith, it.2, all), it.3)) leaves;
      after_error = leaves_as old new (HasRunCommands commands stop.done most) (HasRunCommands commands stop.done (stop.done + 1)) (λ a b it. (it.0, it.1, omega (arith, it.2, next), it.3)) leaves;
    }

  module _ (old new : Held S) (list : List ℕ) (items : List Item) where
    pub added_crash : (report : AddReport)
        → (HasCleanDisk (state g new) → IsArchiveAtRest (state g old) → HasAddedAtLeast list items 0 (archive_of (state g old)) (archive_of (state g new)))
        → (HasCleanDisk (state g new) → IsArchiveAtRest (state g old) → IsCrashSafe (state g old) → IsCrashSafe (state g new)) → CrashAddsAllBatches g old new list items (Ok report)
    added_crash report is safe = record { during_call = leaves_now old new (HasAddedAtLeast list items 0) is safe; after_error = tt }

    pub broken_crash : (stop : AddError) → CrashLeavesRelatedArchive g old new (HasAddedAtLeast list items stop.done) → CrashAddsAllBatches g old new list items (Err stop)
    broken_crash stop leaves = record {
      during_call = leaves_as old new (HasAddedAtLeast list items stop.done) (HasAddedAtLeast list items 0) (λ a b it. (it.0, omega arith, it.2)) leaves;
      after_error = leaves;
    }

  -- ---- a database that is taken over

  -- where the connection has another name
  pub adopts_at : (old mid new : Held S) → new ≡ mid → CrashAdopts g old mid → CrashAdopts g old new
  adopts_at old mid new is adopts = subst (λ (h : Held S). CrashAdopts g old h) (sym is) adopts

  -- where a limit is set on it, or taken off
  pub adopts_as : (old mid last new : Held S) (limit : Option ℕ) → last ≡ mid → new ≡ record last { step_limit = limit } → CrashAdopts g old mid → CrashAdopts g old new
  adopts_as old mid last new limit same is adopts =
      let there = adopts_at old mid last same adopts in
      adopts_at old (record last { step_limit = limit }) new is (record { makes_if_empty = there.makes_if_empty; migrates_older = there.migrates_older })

-- tables of a version are no empty database
has_tables : (first second : Bool) → (if first then schema_1 else if second then schema_2 else schema_3) ≡ empty_schema → ⊥
has_tables true second is = absurd (let tables = ap (λ (s : Schema). s.tables) is in cc)
has_tables false true is = absurd (let tables = ap (λ (s : Schema). s.tables) is in cc)
has_tables false false is = absurd (let tables = ap (λ (s : Schema). s.tables) is in cc)

pub none_held : (number : ℕ) (s : State) → s.now.schema ≡ empty_schema → IsOpenArchiveInFormat (format_of_version number) None s → ⊥
none_held number s empty held = has_tables (number == 1) (number == 2) (sym held.schema ∙ empty)
