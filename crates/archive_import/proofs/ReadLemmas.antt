-- What reading, adding and ending say together.
use Rattle.std.proofs.Common.{◌≡◌, ℕ, ◌+◌, true, List, [], ◌++◌, length, inl, Option, Some, None, Result, Ok, Err}
use Rattle.std.proofs.Common.{refl, ap, sym, subst, ◌∙◌, arith, append-nil, append_assoc}
use Rattle.std.specs.Prelude.{MatchOption, option_map, OnOk, IfErr}
use Rattle.archive_port.specs.declared.state.ArchiveState.{Ghosts}
use Rattle.mbox_core.specs.Division.{Item, DividesIntoItems, IsPreamble}
use Rattle.mbox_core.specs.declared.faults.MboxFault.{MboxFault}
use Rattle.mbox_core.specs.declared.faults.MboxFault.TheVariants.{Preamble, Read, Memory, Failed}
use Rattle.mbox_stream.specs.Stream.{IsBeginning, settled_items, IsSettledPreamble}
use Rattle.mbox_stream.specs.Cutter.{CutterState, taken_and_waiting_items, AreItemsGivenInPhase, IsCutterConsistent, IsEndFault}
use Rattle.mbox_stream.specs.declared.cutter.CutterPhase.{CutterPhase}
use Rattle.mbox_stream.specs.declared.cutter.CutterPhase.TheVariants.{Open, Finished}
use Rattle.mbox_stream.proofs.StreamLaws.{settled_items_only_grow, no_item_is_settled_before_a_preamble, a_settled_preamble_stays}
use Rattle.archive_model.specs.Records.{Archive}
use Rattle.archive_model.specs.Commands.{Refusal}
use Rattle.archive_model.specs.Questions.{has_list, list_refusal}
use Rattle.archive_model.specs.Runs.{taken}
use Rattle.archive_port.specs.Adding.{HasAddedFirstItems}
use Rattle.archive_port.specs.Replies.{refusal_of_fault}
use Rattle.archive_port.specs.Told.{HoldsTables}
use Rattle.archive_desk.specs.Holding.{CallsStoreWithTables, RelatesTableArchives, RelatesTableArchivesIfOpen}
use Rattle.archive_port.specs.declared.faults.StoreFault.{StoreFault}
use Rattle.archive_port.proofs.Joins.{goes_in_as, goes_in_as_if_open}
use Rattle.archive_port.proofs.RightLemmas.{run_nothing}
use Rattle.archive_desk.specs.Importing.{IsBrokenAdd}
use Rattle.archive_desk.specs.declared.importing.Report.{Report}
use Rattle.archive_desk.specs.declared.importing.ImportStop.{ImportStop}
use Rattle.archive_desk.specs.declared.importing.ImportError.{ImportError}
use Rattle.archive_desk.specs.declared.importing.ImportError.TheVariants.{Mbox, Store as Stored}
use Rattle.archive_desk.proofs.CallLemmas.{calls_after}
use Rattle.archive_desk.proofs.ImportLemmas.{missing}
use Rattle.archive_import.specs.Streaming.{HaltReason, no_mbox, not_read, no_room, full}
use Rattle.archive_import.specs.Streaming.{halt_of_refusal, halt_reason, FaultHasReadFailures, AreItemsOfReadText, IsImportError, IsBrokenInputImport, IsInputImported, ReadsInputThroughCutter}
use Rattle.archive_import.specs.Intake.{IntakeState, IsUnderWay, IsAddError, IsErrorAfterFailedRead}
use Rattle.archive_import.proofs.IntakeLemmas.{first_done, first_longer, none_held, none_there}
use Rattle.archive_import.proofs.StopLemmas.{Keeps, HaltsAmid, BreaksAmid, Nothing, keeps_all}

-- ---- a read failed

abbrev pub Unreads : (list : List ℕ) → (i : IntakeState) → Archive → Archive → ℕ × HaltReason → Type 0
Unreads list i b c why = (a : Archive) (items : List Item) → IsUnderWay list a b items i → IsErrorAfterFailedRead list items a c why.0 why.1

abbrev pub Never : (list : List ℕ) → (i : IntakeState) → Archive → Archive → Unit {0} → Type 0
Never list i b c _ = (a : Archive) (items : List Item) → IsUnderWay list a b items i → ⊥

unread_halt : (list : List ℕ) (items : List Item) (a b : Archive) (done : ℕ) (halt : HaltReason) → IsAddError list items a b done halt → IsErrorAfterFailedRead list items a b done halt
unread_halt list items a b done not_read it = absurd it
unread_halt list items a b done _ it = it

module _ {S W : Type 0} (g : Ghosts S W) (old new : S) (list : List ℕ) (i : IntakeState) where
  pub unread_added : (j : IntakeState) (at : ImportStop) → at ≡ record { done = j.done; fault = Mbox Read } → RelatesTableArchives g old new (Keeps list i j) → j.held ≡ []
      → CallsStoreWithTables g old new {A = Unit {0}} halt_reason (Err at) Nothing (Unreads list i) (BreaksAmid list i)
  unread_added j at is keeps none = subst (λ s. CallsStoreWithTables g old new {A = Unit {0}} halt_reason (Err s) Nothing (Unreads list i) (BreaksAmid list i)) (sym is)
      (goes_in_as g (HoldsTables g) old new (Keeps list i j) (λ b c. Unreads list i b c (j.done, not_read))
      (λ b c keeps a items w. let it = none_held list a c items j (keeps a items w) none in (it.0, it.1)) keeps)

  pub unread_stopped : (j : IntakeState) (stop : ImportStop)
      → CallsStoreWithTables g old new {A = Unit {0}} halt_reason (Err stop) (λ b c _. Keeps list i j b c) (HaltsAmid list i) (BreaksAmid list i)
      → CallsStoreWithTables g old new {A = Unit {0}} halt_reason (Err stop) Nothing (Unreads list i) (BreaksAmid list i)
  unread_stopped j stop call =
      calls_after g (HoldsTables g) old old new halt_reason (Keeps list i i) (λ b c _. Keeps list i j b c) Nothing (HaltsAmid list i) (Unreads list i) (BreaksAmid list i) (BreaksAmid list i)
      (λ b c d answer keeps more. tt) (λ b c d why keeps halts a items w. unread_halt list items a d why.0 why.1 (halts a items (keeps a items w)))
      (λ b c d stop keeps breaks a items w. breaks a items (keeps a items w)) (Err stop) (keeps_all g old list i) call

-- ---- what was read

module _ (list text : List ℕ) (ends : ℕ) (items : List Item) (a b : Archive) (done : ℕ) (are : AreItemsOfReadText text ends items) where
  pub halted_read : (halt : HaltReason) → has_list a list ≡ true → IsAddError list items a b done halt → IsImportError list text ends a b done halt
  halted_read no_room there it = (items, are, it, there)
  halted_read full there it = (items, are, it.0, it.1)
  halted_read _ there it = absurd it

  pub broken_read : (fault : ImportError) → IsBrokenAdd list items a b done fault → IsBrokenInputImport list text ends a b done fault
  broken_read (Mbox fault) it = it
  broken_read (Stored fault) it = (items, are, it)

pub unread_read : (list text : List ℕ) (items : List Item) (a b : Archive) (done : ℕ) (halt : HaltReason) → items ≡ settled_items text → has_list a list ≡ true
    → IsErrorAfterFailedRead list items a b done halt → IsImportError list text 0 a b done halt
unread_read list text items a b done not_read are there it =
    (refl, it.0 ∙ ap length are, it.1 ∙ ap (λ is. (taken a list is).archive) are, there)
unread_read list text items a b done no_room are there it = (items, inl are, it, there)
unread_read list text items a b done full are there it = (items, inl are, it.0, it.1)
unread_read list text items a b done _ are there it = absurd it

-- once these messages were under way
abbrev pub HaltsRead : (list text : List ℕ) → (ends : ℕ) → (items : List Item) → (i : IntakeState) → Archive → Archive → ℕ × HaltReason → Type 0
HaltsRead list text ends items i b c why = (a : Archive) → IsUnderWay list a b items i → IsImportError list text ends a c why.0 why.1

abbrev pub BreaksRead : (list text : List ℕ) → (ends : ℕ) → (items : List Item) → (i : IntakeState) → Archive → Archive → ImportStop → Type 0
BreaksRead list text ends items i b c stop = (a : Archive) → IsUnderWay list a b items i → IsBrokenInputImport list text ends a c stop.done stop.fault

abbrev pub Begun : (list : List ℕ) → (from items : List Item) → (i j : IntakeState) → Archive → Archive → Type 0
Begun list from items i j b c = (a : Archive) → IsUnderWay list a b from i → IsUnderWay list a c items j

-- ---- the cutter

given_open : (c : CutterState) → IsCutterConsistent c → c.phase ≡ Open → taken_and_waiting_items c ≡ settled_items c.stream
given_open c g o = let G : CutterPhase → Type 0 = λ s. AreItemsGivenInPhase s c.stream (taken_and_waiting_items c) in (subst G o g).0

given_end : (c : CutterState) → IsCutterConsistent c → c.phase ≡ Finished → DividesIntoItems c.stream (taken_and_waiting_items c)
given_end c g o = let G : CutterPhase → Type 0 = λ s. AreItemsGivenInPhase s c.stream (taken_and_waiting_items c) in subst G o g

pub settled_taken : (c : CutterState) → IsCutterConsistent c → c.phase ≡ Open → c.waiting ≡ [] → c.taken ≡ settled_items c.stream
settled_taken c g o none = sym (append-nil c.taken) ∙ ap (λ is. c.taken ++ is) (sym none) ∙ given_open c g o

-- the first of some
pub first_of : (list : List ℕ) (items all : List Item) (done : ℕ) (a b : Archive) → IsBeginning items all → HasAddedFirstItems list items done a b → HasAddedFirstItems list all done a b
first_of list items all done a b begins it = subst (λ is. HasAddedFirstItems list is done a b) (sym begins.1) (first_longer list items begins.0 done a b it)

pub settled_beginning : (stream text piece : List ℕ) → text ≡ stream ++ piece → IsBeginning (settled_items stream) (settled_items text)
settled_beginning stream text piece e =
    let S : List ℕ → Type 0 = λ x. IsBeginning (settled_items stream) (settled_items x) in subst S (sym e) (settled_items_only_grow stream piece)

pub settled_whole : (text : List ℕ) (offset : ℕ) → IsSettledPreamble text offset → IsPreamble text offset
settled_whole text offset p = let P : List ℕ → Type 0 = λ x. IsPreamble x offset in subst P (append-nil text) (a_settled_preamble_stays text [] offset p)

-- ---- a fault of reading, or of the end

-- what is done are first messages of all that is settled
pub first_settled : (list : List ℕ) (items : List Item) (i : IntakeState) (stream text piece : List ℕ) → items ≡ settled_items stream → text ≡ stream ++ piece
    → (a b : Archive) → IsUnderWay list a b items i → HasAddedFirstItems list (settled_items text) i.done a b
first_settled list items i stream text piece are e a b w = first_of list (settled_items stream) (settled_items text) i.done a b (settled_beginning stream text piece e)
    (subst (λ is. HasAddedFirstItems list is i.done a b) are (first_done list a b items i w))

module _ {S W : Type 0} (g : Ghosts S W) (old new : S) (list : List ℕ) (from items : List Item) (i j : IntakeState) (begun : RelatesTableArchives g old new (Begun list from items i j))
    (stream text piece : List ℕ) (ends : ℕ) (are : items ≡ settled_items stream) (e : text ≡ stream ++ piece) where
  abbrev StopsAt : ImportStop → Type 0
  StopsAt at = CallsStoreWithTables g old new {A = Unit {0}} halt_reason (Err at) Nothing (HaltsRead list text ends from i) (BreaksRead list text ends from i)

  stopped_by : (fault : MboxFault) → IsEndFault text fault → (fault ≡ Failed → ⊥) → StopsAt (record { done = j.done; fault = Mbox fault })
  stopped_by (Preamble n) p off =
      let P : List ℕ → Type 0 = λ x. IsPreamble x p.0 in
      let none : items ≡ [] = are ∙ no_item_is_settled_before_a_preamble stream piece p.0 (subst P e p.1) in
      goes_in_as g (HoldsTables g) old new (Begun list from items i j) (λ b c. HaltsRead list text ends from i b c (j.done, no_mbox n))
      (λ b c begun a w. let it = none_there list a c items j (begun a w) none in (it.0, it.1, w.list_exists, p.0, p.1, p.2)) begun
  stopped_by Read p off = absurd p
  stopped_by Memory p off = goes_in_as g (HoldsTables g) old new (Begun list from items i j) (λ b c. HaltsRead list text ends from i b c (j.done, no_room))
      (λ b c begun a w. (settled_items text, inl refl, first_settled list items j stream text piece are e a c (begun a w), w.list_exists)) begun
  stopped_by Failed p off = absurd (off refl)

  pub end_stopped : (fault : MboxFault) (at : ImportStop) → at ≡ record { done = j.done; fault = Mbox fault } → IsEndFault text fault → (fault ≡ Failed → ⊥) → StopsAt at
  end_stopped fault at is p off = subst (λ s. StopsAt s) (sym is) (stopped_by fault p off)

-- those that were taken and those that wait
pub settled_given : (d : CutterState) (taken : List Item) → IsCutterConsistent d → d.phase ≡ Open → d.taken ≡ taken → taken ++ d.waiting ≡ settled_items d.stream
settled_given d taken g o t = ap (λ is. is ++ d.waiting) (sym t) ∙ given_open d g o

-- the messages of the whole input
pub ended_divides : (c d : CutterState) → IsCutterConsistent d → d.phase ≡ Finished → d.stream ≡ c.stream → d.taken ≡ c.taken → DividesIntoItems c.stream (c.taken ++ d.waiting)
ended_divides c d g o s t =
    let D : List ℕ → Type 0 = λ x. DividesIntoItems x (taken_and_waiting_items d) in
    let E : List Item → Type 0 = λ x. DividesIntoItems c.stream (x ++ d.waiting) in subst E t (subst D s (given_end d g o))

-- a piece more was read
pub told_more : (before stream piece : List ℕ) {now after all : List ℕ} → now ≡ before ++ stream → after ≡ now ++ piece → all ≡ stream ++ piece → after ≡ before ++ all
told_more before stream piece told read more = read ∙ ap (λ t. t ++ piece) told ∙ append_assoc before stream piece ∙ ap (λ t. before ++ t) (sym more)

-- and then it stops: no read failed, or the last did
module _ {before after : List ℕ} {ended ends failed fails : ℕ} {cutter : CutterState} (read : after ≡ before ++ cutter.stream) (same : ends ≡ ended) where
  pub reads_stopped : {stop : ImportStop} → fails ≡ failed → FaultHasReadFailures stop.fault 0 → ReadsInputThroughCutter before after ended ends failed fails cutter {A = Unit {0}} (Err stop)
  reads_stopped none kind = record { stream_is_read = read; settles_if_ok = tt; ok_means_end = tt; err_means_no_end = same; failures = (0, omega (arith, none), kind) }

  pub reads_unread : (result : Result (Unit {0}) ImportStop) → fails ≡ failed + 1 → OnOk result ⊥ → IfErr result (λ stop. FaultHasReadFailures stop.fault 1)
      → ReadsInputThroughCutter before after ended ends failed fails cutter result
  reads_unread (Ok done) more never kind = absurd never
  reads_unread (Err stop) more never kind = record { stream_is_read = read; settles_if_ok = tt; ok_means_end = tt; err_means_no_end = same; failures = (1, more, kind) }

-- ---- the whole call

abbrev pub IsFound : (list : List ℕ) → Archive → Archive → Type 0
IsFound list a b = (b ≡ a) × (list_refusal a list ≡ None) × (has_list a list ≡ true)

module _ {S W : Type 0} (g : Ghosts S W) (old new : S) (list : List ℕ) where
  pub not_found : (fault : StoreFault)
      → MatchOption (refusal_of_fault fault) (RelatesTableArchivesIfOpen g old new (λ a b. b ≡ a)) (λ why. RelatesTableArchives g old new (λ a b. (b ≡ a) × (list_refusal a list ≡ Some why)))
      → CallsStoreWithTables g old new {A = Report} halt_reason (Err (record { done = 0; fault = Stored fault })) (λ a b report. IsInputImported list [] 0 a b report)
      (λ a b why. IsImportError list [] 0 a b why.0 why.1) (λ a b stop. IsBrokenInputImport list [] 0 a b stop.done stop.fault)
  not_found fault asked = by_reason (refusal_of_fault fault) asked
    where
      by_reason : (r : Option Refusal)
          → MatchOption r (RelatesTableArchivesIfOpen g old new (λ a b. b ≡ a)) (λ why. RelatesTableArchives g old new (λ a b. (b ≡ a) × (list_refusal a list ≡ Some why)))
          → MatchOption {T = ℕ × HaltReason} (option_map (λ (halt : HaltReason). (0, halt)) (option_map halt_of_refusal r))
          (RelatesTableArchivesIfOpen g old new (λ a b. IsBrokenInputImport list [] 0 a b 0 (Stored fault)))
          (λ why. RelatesTableArchives g old new (λ a b. IsImportError list [] 0 a b why.0 why.1))
      by_reason None it = goes_in_as_if_open g (HoldsTables g) old new (λ a b. b ≡ a) (λ a b. IsBrokenInputImport list [] 0 a b 0 (Stored fault))
          (λ a b same. (settled_items [], inl refl, (omega arith, same ∙ run_nothing a))) it
      by_reason (Some why) it = goes_in_as g (HoldsTables g) old new (λ a b. (b ≡ a) × (list_refusal a list ≡ Some why)) (λ a b. IsImportError list [] 0 a b 0 (halt_of_refusal why))
          (λ a b h.
          let it = missing a list why h.1 in
          subst (λ r. IsImportError list [] 0 a b 0 (halt_of_refusal r)) it.0 (refl, h.0, it.1, refl, refl)) it
