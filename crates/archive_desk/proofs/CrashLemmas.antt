-- What a stop of the machine leaves, from call to call.
use Rattle.std.proofs.Common.{◌≡◌, ◌∙◌, ap, inl, inr, refl, sym, subst, arith, ℕ, true, List, length, None, Result, Ok, Err}
use Rattle.std.proofs.lemmas.List.{take_all}
use Rattle.archive_port.specs.declared.state.ArchiveState.{Ghosts}
use Rattle.mbox_core.specs.Division.{Item, DividesIntoItems}
use Rattle.archive_model.specs.Records.{Archive}
use Rattle.archive_model.specs.Questions.{has_list, list_refusal}
use Rattle.archive_model.specs.Runs.{taken}
use Rattle.archive_port.specs.Crashes.{CrashAddsAllBatches, CrashOutcome, WritesNothing}
use Rattle.archive_port.specs.Adding.{HasAddedAtLeast}
use Rattle.archive_port.specs.Told.{RelatesArchivesUnder, StoreHasCleanDisk, HoldsTables, StaysOpenUnlessDiskFails, archive_in}
use Rattle.archive_port.specs.declared.reports.AddError.{AddError}
use Rattle.archive_port.proofs.CrashLemmas.{asked_safe, leaves_as, leaves_now}
use Rattle.archive_desk.specs.Crashes.{CrashAfterCallUnder, CrashAfterTablesCall, HasImportedAtLeast, IsCrashSafeStore}
use Rattle.archive_desk.specs.Importing.{HasAddedAllItems, IsBrokenAdd, IsImported, IsRefusedAdd, import_stop_reason}
use Rattle.archive_desk.specs.declared.importing.Report.{Report}
use Rattle.archive_desk.specs.declared.importing.ImportStop.{ImportStop}
use Rattle.archive_desk.proofs.CallLemmas.{calls_last}
use Rattle.archive_desk.proofs.ImportLemmas.{Adds, Imports}

module _ {S W : Type 0} (g : Ghosts S W) (Premise : S → Type 0) where
  -- where a stop left what was remembered before some calls, it does so behind them
  abbrev pub StaysSafe : S → S → Type 0
  StaysSafe old new = StoreHasCleanDisk g new → Premise old → IsCrashSafeStore g old → IsCrashSafeStore g new

  module _ (old mid new : S) (Before : Archive → Archive → Type 0) (safe : StaysSafe old mid) (before : RelatesArchivesUnder g Premise old mid Before) where
    pub stays_safe_then : StaysOpenUnlessDiskFails g mid new → StaysSafe mid new → StaysSafe old new
    stays_safe_then lasts after = λ returned held was.
        let back = lasts.disk_was_clean returned in
        after returned (before.1 back held).0 (safe back held was)

    -- a call that stops after others
    pub crash_after : (A B : Type 0) {F G : Type 0} (fault : F) (told : G) (Leaves : Archive → F → Archive → Type 0) (Leaves' : Archive → G → Archive → Type 0)
        → ((a b c : Archive) → Before a b → Leaves b fault c → Leaves' a told c) → StaysOpenUnlessDiskFails g mid new
        → CrashAfterCallUnder g Premise mid new {A = A} (Err fault) Leaves → CrashAfterCallUnder g Premise old new {A = B} (Err told) Leaves'
    crash_after A B fault told Leaves Leaves' leaves lasts crash = λ returned held was db may.
        let back = lasts.disk_was_clean returned in
        let here = before.1 back held in
        let it = crash returned here.0 (safe back held was) db may in
        (it.0, leaves (archive_in g old) (archive_in g mid) it.0 here.1 it.1, it.2)

  -- no call more: what is remembered
  pub crash_between : (old mid : S) (Before : Archive → Archive → Type 0) → StaysSafe old mid → RelatesArchivesUnder g Premise old mid Before
      → (A : Type 0) {F : Type 0} (fault : F) (Leaves : Archive → F → Archive → Type 0) → ((a b : Archive) → Before a b → Leaves a fault b)
      → CrashAfterCallUnder g Premise old mid {A = A} (Err fault) Leaves
  crash_between old mid Before safe before A fault Leaves leaves = λ returned held was db may.
      (archive_in g mid, leaves (archive_in g old) (archive_in g mid) (before.1 returned held).1, safe returned held was db may)

  -- the same in other words
  pub crash_as : (old new : S) (A B : Type 0) {F G : Type 0} (fault : F) (told : G) (Leaves : Archive → F → Archive → Type 0) (Leaves' : Archive → G → Archive → Type 0)
      → ((a c : Archive) → Leaves a fault c → Leaves' a told c) → CrashAfterCallUnder g Premise old new {A = A} (Err fault) Leaves
      → CrashAfterCallUnder g Premise old new {A = B} (Err told) Leaves'
  crash_as old new A B fault told Leaves Leaves' leaves crash = λ returned held was db may.
      let it = crash returned held was db may in
      (it.0, leaves (archive_in g old) it.0 it.1, it.2)

module _ {S W : Type 0} (g : Ghosts S W) where
  -- a question leaves what it left
  pub question_safe : (old new : S) (Says : Archive → Archive → Type 0) → ((a b : Archive) → Says a b → b ≡ a) → RelatesArchivesUnder g (HoldsTables g) old new Says
      → WritesNothing g old new → StaysSafe g (HoldsTables g) old new
  question_safe old new Says same goes quiet = λ returned held was.
      asked_safe g old new quiet (same _ _ (goes.1 returned held).1) returned was

  -- ---- an import stops: it left so many first messages at whatever moment, since it does behind the call

  some_more : (list text : List ℕ) (done : ℕ) (a b : Archive) → HasImportedAtLeast list text done a b → HasImportedAtLeast list text 0 a b
  some_more list text done a b (inl none) = inl (refl, none.1)
  some_more list text done a b (inr some) = inr (some.0, some.1, (some.2.0, omega arith, some.2.2))

  stops_import : (old new : S) (list text : List ℕ) (stop : ImportStop) → CrashAfterTablesCall g old new {A = Report} (Err stop) (λ a stop b. HasImportedAtLeast list text stop.done a b)
      → CrashOutcome g old new (HasImportedAtLeast list text 0) {A = Report} (Err stop) (λ stop. HasImportedAtLeast list text stop.done)
  stops_import old new list text stop crash = record {
    during_call = leaves_as g old new (HasImportedAtLeast list text stop.done) (HasImportedAtLeast list text 0) (some_more list text stop.done) crash;
    after_error = crash;
  }

  -- ---- the file is not taken in

  pub none_imported : (old new : S) (list text : List ℕ) (stop : ImportStop) → stop.done ≡ 0 → WritesNothing g old new
      → CrashOutcome g old new (HasImportedAtLeast list text 0) {A = Report} (Err stop) (λ stop. HasImportedAtLeast list text stop.done)
  none_imported old new list text stop none quiet =
      stops_import old new list text stop (λ returned held was db may. (archive_in g old, inl (none, refl), was db (quiet db (returned, may)).1))

  -- ---- its messages are added

  pub added_lasts : (old new : S) (list : List ℕ) (items : List Item) (result : Result Report ImportStop) → Adds g old new list result items → StaysOpenUnlessDiskFails g old new
  added_lasts old new list items = calls_last g (HoldsTables g) old new import_stop_reason (λ a b report. HasAddedAllItems list items a b report)
      (λ a b why. IsRefusedAdd list items a b why.0 why.1) (λ a b stop. IsBrokenAdd list items a b stop.done stop.fault)

  pub stopped_crash : (old new : S) (list : List ℕ) (items : List Item) (stop : AddError) (told : ImportStop) → told.done ≡ stop.done
      → CrashAddsAllBatches g old new list items (Err stop)
      → CrashAfterTablesCall g old new {A = Report} (Err told) (λ a s b. HasAddedAtLeast list items s.done a b)
  stopped_crash old new list items stop told same crash = λ returned held was db may.
      let it = crash.after_error returned held was db may in
      (it.0, subst (λ n. HasAddedAtLeast list items n (archive_in g old) it.0) (sym same) it.1, it.2)

  -- the list is there
  abbrev pub IsThere : List ℕ → Archive → Archive → Type 0
  IsThere list a b = (b ≡ a) × (list_refusal a list ≡ None) × (has_list a list ≡ true)

  module _ (old mid new : S) (list text : List ℕ) (goes : RelatesArchivesUnder g (HoldsTables g) old mid (IsThere list))
      (quiet : WritesNothing g old mid)
      (items : List Item) (divided : DividesIntoItems text items) (lasts : StaysOpenUnlessDiskFails g mid new) where
    pub some_imported : (result : Result Report ImportStop) → CrashAfterTablesCall g mid new result (λ a stop b. HasAddedAtLeast list items stop.done a b)
        → CrashAfterTablesCall g old new result (λ a stop b. HasImportedAtLeast list text stop.done a b)
    some_imported (Ok report) crash = stays_safe_then g (HoldsTables g) old mid new (IsThere list) (question_safe old mid (IsThere list) (λ a b it. it.0) goes quiet) goes lasts crash
    some_imported (Err stop) crash = crash_after g (HoldsTables g) old mid new (IsThere list) (question_safe old mid (IsThere list) (λ a b it. it.0) goes quiet) goes Report Report stop stop
        (λ a stop b. HasAddedAtLeast list items stop.done a b) (λ a stop b. HasImportedAtLeast list text stop.done a b)
        (λ a b c said it. inr (items, divided, subst (λ x. HasAddedAtLeast list items stop.done x c) said.0 it)) lasts crash

  -- where all were added, what is remembered is left, and they are so many first ones
  all_imported : (list text : List ℕ) (a b : Archive) (report : Report) → IsImported list text a b report → HasImportedAtLeast list text 0 a b
  all_imported list text a b report it =
      let all = length it.items in
      let same = it.adds_all.archive_is ∙ ap (λ (xs : List Item). (taken a list xs).archive) (sym (take_all all it.items (omega arith))) in
      inr (it.items, it.divides_into_items, (all, omega arith, (omega arith, same)))

  pub import_crash : (old new : S) (list text : List ℕ) (result : Result Report ImportStop) → Imports g old new list result text
      → CrashAfterTablesCall g old new result (λ a stop b. HasImportedAtLeast list text stop.done a b)
      → CrashOutcome g old new (HasImportedAtLeast list text 0) result (λ stop. HasImportedAtLeast list text stop.done)
  import_crash old new list text (Ok report) call crash = record {
    during_call = leaves_now g old new (HasImportedAtLeast list text 0)
        (λ returned held. all_imported list text (archive_in g old) (archive_in g new) report (call.1 returned held).1) crash;
    after_error = tt;
  }
  import_crash old new list text (Err stop) call crash = stops_import old new list text stop crash
