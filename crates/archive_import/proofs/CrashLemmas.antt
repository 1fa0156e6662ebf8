-- What a stop of the machine leaves of messages that are read piece by piece, from call to call.
use Rattle.std.proofs.Common.{◌≡◌, ◌+◌, inl, inr, refl, ap, sym, subst, ◌∙◌, arith, append-nil, ℕ, List, [], ◌++◌, length, drop, Ok, Err}
use Rattle.std.proofs.Math.Seq.{drop-append_seam}
use Rattle.std.proofs.lemmas.List.{take_all}
use Rattle.archive_port.specs.declared.state.ArchiveState.{Ghosts}
use Rattle.mbox_core.specs.Division.{Item, DividesIntoItems}
use Rattle.mbox_stream.specs.Stream.{settled_items}
use Rattle.archive_model.specs.Records.{Archive}
use Rattle.archive_model.specs.Runs.{taken}
use Rattle.archive_port.specs.Adding.{HasAddedFirstItems, HasAddedAtLeast}
use Rattle.archive_port.specs.Crashes.{CrashAddsAllBatches, WritesNothing}
use Rattle.archive_port.specs.Told.{HoldsTables, archive_in}
use Rattle.archive_desk.specs.Holding.{RelatesTableArchives}
use Rattle.archive_port.specs.declared.reports.AddError.{AddError}
use Rattle.archive_port.specs.declared.faults.StoreFault.{StoreFault}
use Rattle.archive_port.proofs.CrashLemmas.{leaves_as, leaves_now}
use Rattle.archive_port.proofs.RightLemmas.{run_nothing}
use Rattle.archive_desk.specs.Crashes.{CrashAfterTablesCall}
use Rattle.archive_desk.specs.declared.importing.Report.{Report}
use Rattle.archive_desk.specs.declared.importing.ImportStop.{ImportStop}
use Rattle.archive_desk.specs.declared.importing.ImportError.{ImportError}
use Rattle.archive_desk.specs.declared.importing.ImportError.TheVariants.{Store as Stored}
use Rattle.archive_desk.proofs.CrashLemmas.{StaysSafe, crash_between}
use Rattle.archive_import.specs.Streaming.{AreItemsOfReadText, CrashImportsInput, HasAddedReadAtLeast, IsInputImported}
use Rattle.archive_import.specs.Intake.{IntakeState, IsUnderWay}
use Rattle.archive_import.proofs.IntakeLemmas.{first_done, first_longer, some_added}
use Rattle.archive_import.proofs.StopLemmas.{Keeps}
use Rattle.archive_import.proofs.ReadLemmas.{Begun, first_of, first_settled, settled_beginning}

-- ---- so many first messages

pub at_least_longer : (list : List ℕ) (items rest : List Item) (done : ℕ) (a b : Archive) → HasAddedAtLeast list items done a b → HasAddedAtLeast list (items ++ rest) done a b
at_least_longer list items rest done a b it = (it.0, it.1, first_longer list items rest it.0 a b it.2)

-- one text was read, and its end was met so often
pub as_read : (P : List ℕ → ℕ → Type 0) (before after : List ℕ) (ended ending : ℕ) (text : List ℕ) (ends : ℕ) → after ≡ before ++ text → ending ≡ ended + ends → P text ends
    → (other : List ℕ) (more : ℕ) → after ≡ before ++ other → ending ≡ ended + more → P other more
as_read P before after ended ending text ends is met p other more it again =
    let same : text ≡ other = sym (drop-append_seam before text) ∙ ap (drop (length before)) (sym is ∙ it) ∙ drop-append_seam before other in
    subst (λ n. P other n) (omega (arith, met, again)) (subst (λ t. P t ends) same p)

-- ---- what a stop leaves once messages were under way

abbrev pub LeavesAmid : (list : List ℕ) → (i : IntakeState) → Archive → ImportStop → Archive → Type 0
LeavesAmid list i b stop c = (a : Archive) (items : List Item) → IsUnderWay list a b items i → HasAddedAtLeast list items stop.done a c

abbrev pub LeavesMore : (list : List ℕ) → (i : IntakeState) → (more : List Item) → Archive → ImportStop → Archive → Type 0
LeavesMore list i more b stop c = (a : Archive) (items : List Item) → IsUnderWay list a b items i → HasAddedAtLeast list (items ++ more) stop.done a c

abbrev pub LeavesRead : (list text : List ℕ) → (ends : ℕ) → (from : List Item) → (i : IntakeState) → Archive → ImportStop → Archive → Type 0
LeavesRead list text ends from i b stop c = (a : Archive) → IsUnderWay list a b from i → HasAddedReadAtLeast list text ends stop.done a c

abbrev pub LeavesFile : (list text : List ℕ) → (ends : ℕ) → Archive → ImportStop → Archive → Type 0
LeavesFile list text ends a stop b = HasAddedReadAtLeast list text ends stop.done a b

module _ {S W : Type 0} (g : Ghosts S W) where
  -- where a stop left what was remembered, of a store whose tables are an archive's, it does so behind these calls
  abbrev pub KeepsSafe : S → S → Type 0
  KeepsSafe old new = StaysSafe g (HoldsTables g) old new

  pub safe_still : (store : S) → KeepsSafe store store
  safe_still store = λ returned held was. was

  -- ---- what is held is added

  module _ (old new : S) (list : List ℕ) (i : IntakeState) where
    pub held_crash : (stop : AddError) (at : ImportStop) → at ≡ record { done = i.done + stop.done; fault = Stored stop.fault }
        → CrashAddsAllBatches g old new list i.held (Err stop) → CrashAfterTablesCall g old new {A = Unit {0}} (Err at) (LeavesAmid list i)
    held_crash stop at is crash = λ returned held was db may.
        let it = crash.after_error returned held was db may in (
          it.0,
          λ a items w. (
            i.done + it.1.0,
            omega (arith, ap (λ (s : ImportStop). s.done) is, it.1.1),
            some_added list a (archive_in g old) items i w it.0 it.1.0 it.1.2.0 it.1.2.1,
          ),
          it.2,
        )

  -- nothing more was added
  pub kept_crash : (old mid : S) (list : List ℕ) (i j : IntakeState) → KeepsSafe old mid → RelatesTableArchives g old mid (Keeps list i j) → (stop : ImportStop) → stop.done ≡ j.done
      → CrashAfterTablesCall g old mid {A = Unit {0}} (Err stop) (LeavesAmid list i)
  kept_crash old mid list i j safe before stop is = crash_between g (HoldsTables g) old mid (Keeps list i j) safe before (Unit {0}) stop (LeavesAmid list i)
      (λ b c keeps a items w. subst (λ n. HasAddedAtLeast list items n a c) (sym is) (j.done, omega arith, first_done list a c items j (keeps a items w)))

  -- ---- what was read

  module _ (old mid : S) (list : List ℕ) (from items : List Item) (i j : IntakeState) (safe : KeepsSafe old mid) (begun : RelatesTableArchives g old mid (Begun list from items i j)) where
    -- nothing more was added: a fault of reading, or of the end
    pub read_crash : (stream text piece : List ℕ) (ends : ℕ) → items ≡ settled_items stream → text ≡ stream ++ piece → (stop : ImportStop) (fault : ImportError)
        → stop ≡ record { done = j.done; fault = fault } → CrashAfterTablesCall g old mid {A = Unit {0}} (Err stop) (LeavesRead list text ends from i)
    read_crash stream text piece ends are e stop fault is =
        crash_between g (HoldsTables g) old mid (Begun list from items i j) safe begun (Unit {0}) stop (LeavesRead list text ends from i)
        (λ b c begun a w. (
          settled_items text,
          inl refl,
          subst (λ n. HasAddedAtLeast list (settled_items text) n a c) (sym (ap (λ (s : ImportStop). s.done) is))
              (j.done, omega arith, first_settled list items j stream text piece are e a c (begun a w)),
        ))

  -- ---- the whole call

  -- there is no such list, or it was not found out
  pub found_crash : (old new : S) (list text : List ℕ) (ends : ℕ) (fault : StoreFault) → WritesNothing g old new
      → CrashAfterTablesCall g old new {A = Report} (Err (record { done = 0; fault = Stored fault })) (LeavesFile list text ends)
  found_crash old new list text ends fault quiet = λ returned held was db may. (
    archive_in g old,
    (settled_items text, inl refl, (0, omega arith, (omega arith, run_nothing (archive_in g old)))),
    was db (quiet db (returned, may)).1,
  )

  -- ---- at whatever moment: of all bytes that the input has

  reads_more : (list text rest : List ℕ) (ends done : ℕ) (a b : Archive) → (ends ≡ 1 → rest ≡ []) → HasAddedReadAtLeast list text ends done a b
      → HasAddedReadAtLeast list (text ++ rest) 1 0 a b
  reads_more list text rest ends done a b last it = by_read it.1
    where
      by_read : AreItemsOfReadText text ends it.0 → HasAddedReadAtLeast list (text ++ rest) 1 0 a b
      by_read (inl are) = (
        settled_items (text ++ rest),
        inl refl,
        (
          it.2.0,
          omega arith,
          first_of list (settled_items text) (settled_items (text ++ rest)) it.2.0 a b (settled_beginning text (text ++ rest) rest refl)
              (subst (λ is. HasAddedFirstItems list is it.2.0 a b) are it.2.2),
        ),
      )
      by_read (inr ended) =
          let whole : text ++ rest ≡ text = ap (λ x. text ++ x) (last ended.0) ∙ append-nil text in
          (it.0, inr (refl, subst (λ t. DividesIntoItems t it.0) (sym whole) ended.1), (it.2.0, omega arith, it.2.2))

  pub stops_reading : (old new : S) (list text : List ℕ) (ends : ℕ) (stop : ImportStop) → CrashAfterTablesCall g old new {A = Report} (Err stop) (LeavesFile list text ends)
      → CrashImportsInput g old new list text ends (Err stop)
  stops_reading old new list text ends stop crash = record {
    when_crashed = λ rest last. leaves_as g old new (HasAddedReadAtLeast list text ends stop.done) (HasAddedReadAtLeast list (text ++ rest) 1 0)
        (λ a b it. reads_more list text rest ends stop.done a b last it) crash;
    when_stopped = crash;
  }

  all_read : (list text : List ℕ) (ends : ℕ) (a b : Archive) (report : Report) → IsInputImported list text ends a b report → HasAddedReadAtLeast list text ends 0 a b
  all_read list text ends a b report it =
      let items = it.1.items in
      let all = length items in
      let same = it.1.adds_all.archive_is ∙ ap (λ (xs : List Item). (taken a list xs).archive) (sym (take_all all items (omega arith))) in
      (items, inr (it.0, it.1.divides_into_items), (all, omega arith, (omega arith, same)))

  pub ends_reading : (old new : S) (list text : List ℕ) (ends : ℕ) (report : Report) → RelatesTableArchives g old new (λ a b. IsInputImported list text ends a b report) → KeepsSafe old new
      → CrashImportsInput g old new list text ends (Ok report)
  ends_reading old new list text ends report goes safe = record {
    when_crashed = λ rest last. leaves_now g old new (HasAddedReadAtLeast list (text ++ rest) 1 0)
        (λ returned held. reads_more list text rest ends 0 (archive_in g old) (archive_in g new) last
        (all_read list text ends (archive_in g old) (archive_in g new) report (goes.1 returned held).1)) safe;
    when_stopped = tt;
  }
