-- What an export says, that stops before its first byte or walks the list.
use Rattle.std.proofs.Common.{◌≡◌, refl, Result, sym, ap, subst, ℕ, min, List, [], ◌++◌, length, map, Some, None, Ok, Err, arith, ◌<◌, ◌^◌, ◌-◌, Option}
use Rattle.std.specs.Prelude.{IfErr, MatchOption, MatchResult, option_map}
use Rattle.std.proofs.lemmas.List.{append-nil}
use Rattle.archive_port.specs.Walking.{BeginsOver, Walk}
use Rattle.archive_port.specs.declared.state.ArchiveState.{Ghosts}
use Rattle.mbox_core.specs.Written.{AppendsPrefixOfText}
use Rattle.archive_model.specs.Records.{Archive}
use Rattle.archive_model.specs.Questions.{messages_in}
use Rattle.archive_port.specs.Told.{RelatesArchivesUnder, StoreHasCleanDisk, StaysOpenUnlessDiskFails, HoldsTables, IsOpen, archive_in}
use Rattle.archive_results.specs.Access.{Ask, ReaderFacts, AskRefusal, ask_refusal}
use Rattle.archive_results.specs.Results.{export_text}
use Rattle.archive_results.specs.Shown.{shown_message}
use Rattle.archive_port.proofs.Joins.{goes_in_as}
use Rattle.archive_desk.specs.Ending.{LeavesPartialExport, ReportsWriterFailure}
use Rattle.archive_desk.specs.Exporting.{ExportsMbox, IsExportRefused, IsExportStop, exported_text, export_stop_reason}
use Rattle.archive_desk.specs.Asking.{DeterminesVerdicts}
use Rattle.archive_desk.specs.Holding.{CallsStoreWithTables, RelatesTableArchives, RelatesTableArchivesIfOpen}
use Rattle.archive_desk.specs.Faults.{ask_reason, refusal_reason, IsAskFault, RefusalReason, refused}
use Rattle.archive_desk.specs.Walking.{IsWalkStop, WalkHoldsArchive, WritesWalk, WalkHoldsArchiveIfOpen}
use Rattle.archive_desk.specs.declared.exporting.ExportStop.{ExportStop}
use Rattle.archive_desk.specs.declared.faults.DeskError.{DeskError}
use Rattle.archive_desk.specs.declared.faults.DeskError.TheVariants.{NotInView, Store as Stored, Memory, Write}
use Rattle.archive_desk.proofs.CallLemmas.{reason_above, unchanged}
use Rattle.archive_desk.proofs.MarkLemmas.{view_alike}
use Rattle.archive_desk.proofs.CauseLemmas.{clean_at_start, walk_begins, walk_lasts}

-- ---- what is asked is refused

asked_refusal : (asked : Option AskRefusal) (before after text : List ℕ) (count : ℕ) (why : RefusalReason) → option_map refused asked ≡ Some why
    → IsExportRefused (option_map refused asked) before after text count why
asked_refusal asked before after text count why is = grind arith

pub not_viewed : {S W : Type 0} (g : Ghosts S W) (old new : S) (ask : Ask) (before after : List ℕ) (text : Archive → List ℕ) (fault : DeskError)
    → MatchOption (refusal_reason fault) (RelatesTableArchivesIfOpen g old new (λ a b. b ≡ a)) (λ why. RelatesTableArchives g old new (λ a b. (b ≡ a) × (ask_reason a ask ≡ Some why)))
    → CallsStoreWithTables g old new {A = ℕ} export_stop_reason (Err (record { written = 0; fault = fault })) (λ a b _. b ≡ a)
    (λ a b why. (b ≡ a) × IsExportRefused (ask_reason a ask) before after (text a) why.0 why.1) (λ a b _. b ≡ a)
not_viewed g old new ask before after text fault asks = reason_above (refusal_reason fault) (λ why. (0, why))
    (λ (why : ℕ × RefusalReason). RelatesTableArchives g old new (λ a b. (b ≡ a) × IsExportRefused (ask_reason a ask) before after (text a) why.0 why.1)) asks (λ same. same)
    (λ why. goes_in_as g (HoldsTables g) old new (λ a b. (b ≡ a) × (ask_reason a ask ≡ Some why)) (λ a b. (b ≡ a) × IsExportRefused (ask_reason a ask) before after (text a) 0 why)
    (λ a b h. (h.0, asked_refusal (ask_refusal a ask) before after (text a) 0 why h.1)))

-- ---- the walk

-- nothing of a text
pub none_cut : (told text : List ℕ) → AppendsPrefixOfText told told text 0
none_cut told text = (omega (arith), sym (append-nil told))

module _ {S W : Type 0} (g : Ghosts S W) (old mid : S) (walk new : Walk S W) (ask : Ask) (reader : ReaderFacts) (head before after : List ℕ)
    (found : RelatesArchivesUnder g (HoldsTables g) old mid (λ a b. (b ≡ a) × (ask_reason a ask ≡ None) × DeterminesVerdicts a ask reader))
    (begun : BeginsOver g mid ask.list (λ a. messages_in a ask.list) walk) (lasts : StaysOpenUnlessDiskFails g walk.store new.store) where
  -- what the call before the walk found
  first : StoreHasCleanDisk g new.store → HoldsTables g old
      → HoldsTables g mid × ((archive_in g mid ≡ archive_in g old) × (ask_reason (archive_in g old) ask ≡ None) × DeterminesVerdicts (archive_in g old) ask reader)
  first returned held = found.1 (clean_at_start g ask (λ a. messages_in a ask.list) old mid walk new (unchanged found) begun lasts returned) held

  -- what the walk says of this text
  abbrev Writes : (result : Result ℕ ExportStop) → List ℕ → Type 0
  Writes result text = MatchResult result
      (λ count. WalkHoldsArchive g (archive_in g old) new × (after ≡ before ++ text) × (count ≡ min (length text) (2 ^ 64 - 1)))
      (λ stop. WalkHoldsArchiveIfOpen g (archive_in g old) new stop.fault × (length after < 2 ^ 64 → AppendsPrefixOfText before after text stop.written))

  -- it says it of the export's
  walked : (result : Result ℕ ExportStop) → WritesWalk g walk new ask reader head before after result → StoreHasCleanDisk g new.store → HoldsTables g old
      → Writes result (head ++ exported_text (archive_in g old) ask)
  walked result writes returned held =
      let a = archive_in g old in
      subst (Writes result) (ap (λ ms. head ++ export_text (map shown_message ms)) (view_alike a ask reader (first returned held).1.2 (messages_in a ask.list)))
      (writes returned (messages_in a ask.list) a (walk_begins g ask (λ a. messages_in a ask.list) old mid walk new (unchanged found) begun lasts returned held))

  through : StaysOpenUnlessDiskFails g old new.store
  through = walk_lasts g ask (λ a. messages_in a ask.list) old mid walk new (unchanged found) begun lasts

  -- the archive stays, and exactly the first bytes are out
  stopped : (written failed fails : ℕ) (fault : DeskError) → IsWalkStop before after failed fails written fault
      → WritesWalk g walk new ask reader head before after (Err (record { written = written; fault = fault }))
      → ExportsMbox g old new.store (Err (record { written = written; fault = fault })) ask before after (λ a. head ++ exported_text a ask)
  stopped written failed fails Write why writes = (
    through,
    λ returned held.
        let it = walked (Err (record { written = written; fault = Write })) writes returned held in
        (it.0.0, (it.0.1, ((first returned held).1.1, it.1))),
  )
  stopped written failed fails Memory why writes = (through, λ returned held. (walked (Err (record { written = written; fault = Memory })) writes returned held).0)
  stopped written failed fails (Stored fault) why writes = rw why.0 (
    through,
    λ returned held. (rw why.0 at (walked (Err (record { written = written; fault = Stored fault })) writes returned held)).0,
  )
  stopped written failed fails _ why writes = absurd why

  -- however it ends
  pub walk_ended : (failed fails : ℕ) (result : Result ℕ ExportStop) → IfErr result (λ stop. IsWalkStop before after failed fails stop.written stop.fault)
      → WritesWalk g walk new ask reader head before after result → ExportsMbox g old new.store result ask before after (λ a. head ++ exported_text a ask)
  walk_ended failed fails (Ok count) why writes = (
    through,
    λ returned held.
        let it = walked (Ok count) writes returned held in
        (it.0.0, (it.0.1, (first returned held).1.1, it.1, it.2)),
  )
  walk_ended failed fails (Err stop) why writes = stopped stop.written failed fails stop.fault why writes

  pub walk_leaves : (result : Result ℕ ExportStop) → (StoreHasCleanDisk g mid → IsOpen g old) → WritesWalk g walk new ask reader head before after result
      → LeavesPartialExport g old new.store ask before after (λ a. head ++ exported_text a ask) result
  walk_leaves (Ok count) up writes = record { exports_part = tt; open_if_written = tt; writes_only_if_allowed = tt }
  walk_leaves (Err stop) up writes = record {
    exports_part = λ returned held. (walked (Err stop) writes returned held).1;
    open_if_written = λ some returned. up (clean_at_start g ask (λ a. messages_in a ask.list) old mid walk new (unchanged found) begun lasts returned);
    writes_only_if_allowed = λ returned held some. (first returned held).1.1;
  }

-- why it stops
export_cause : (before after : List ℕ) (written failed fails : ℕ) (fault : DeskError) → IsWalkStop before after failed fails written fault → IsExportStop before after failed fails written fault
export_cause before after written failed fails Memory why = why
export_cause before after written failed fails Write why = why
export_cause before after written failed fails (Stored fault) why = (why.1, why.2)
export_cause before after written failed fails _ why = absurd why

pub walk_tells : (before after : List ℕ) (failed fails : ℕ) (result : Result ℕ ExportStop)
    → ReportsWriterFailure failed fails result (λ stop. IsWalkStop before after failed fails stop.written stop.fault)
    → ReportsWriterFailure failed fails result (λ stop. IsExportStop before after failed fails stop.written stop.fault)
walk_tells before after failed fails (Ok count) it = record { no_failure_if_ok = it.no_failure_if_ok; cause = tt }
walk_tells before after failed fails (Err stop) it = record { no_failure_if_ok = tt; cause = export_cause before after stop.written failed fails stop.fault it.cause }

-- where nothing was written yet
pub leaves_none : {S W : Type 0} (g : Ghosts S W) (old last : S) (ask : Ask) (told : List ℕ) (text : Archive → List ℕ) (fault : DeskError)
    → LeavesPartialExport g old last ask told told text (Err (record { written = 0; fault = fault }))
leaves_none g old last ask told text fault = record {
  exports_part = λ returned held fits. none_cut told (text (archive_in g old));
  open_if_written = λ some. absurd (omega (arith, some));
  writes_only_if_allowed = λ returned held some. absurd (omega (arith, some));
}

unwritten : (told : List ℕ) (failures : ℕ) (fault : DeskError) → IsAskFault fault → IsExportStop told told failures failures 0 fault
unwritten told failures (Stored fault) is = (refl, ([], sym (append-nil told), refl))
unwritten told failures Memory is = (refl, ([], sym (append-nil told), refl))
unwritten told failures NotInView is = absurd is
unwritten told failures Write is = absurd is
unwritten told failures _ is = (refl, refl, refl)

pub tells_none : (told : List ℕ) (failures : ℕ) (fault : DeskError) → IsAskFault fault
    → ReportsWriterFailure failures failures {A = ℕ} {F = ExportStop} (Err (record { written = 0; fault = fault })) (λ stop. IsExportStop told told failures failures stop.written stop.fault)
tells_none told failures fault is = record { no_failure_if_ok = tt; cause = unwritten told failures fault is }
