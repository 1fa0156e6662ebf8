-- What calls say together, one after the other: of the archives, of what a stop of the machine leaves, and of how they end.
use Rattle.std.proofs.Common.{◌≡◌, ◌≤◌, ℕ, List, [], ◌∷◌, ◌++◌, drop, inl, inr, refl, ap, sym, subst, ◌∙◌, append_assoc, arith, Result, Ok, Err}
use Rattle.std.specs.Prelude.{OnOk, IfErr}
use Rattle.archive_port.specs.declared.state.ArchiveState.{Ghosts}
use Rattle.mbox_core.specs.Division.{Item, DividesIntoItems}
use Rattle.mbox_core.specs.declared.faults.MboxFault.{MboxFault}
use Rattle.mbox_core.specs.declared.faults.MboxFault.TheVariants.{Memory as NoRoom, Failed}
use Rattle.mbox_stream.specs.Stream.{settled_items}
use Rattle.mbox_stream.specs.Cutter.{IsEndFault}
use Rattle.archive_model.specs.Records.{Archive}
use Rattle.archive_port.specs.Adding.{HasAddedAtLeast, RefusesAnItem}
use Rattle.archive_port.specs.Crashes.{WritesNothing}
use Rattle.archive_port.specs.Told.{memory_refusal_count, CountsRefusals, HoldsTables, LeavesArchive}
use Rattle.archive_port.proofs.CrashLemmas.{asked_safe}
use Rattle.archive_port.proofs.Joins.{goes_on_in, goes_in_as}
use Rattle.archive_port.proofs.LastLemmas.{left_relates}
use Rattle.archive_port.proofs.WantLemmas.{raises_after}
use Rattle.archive_desk.specs.Holding.{CallsStoreWithTables, RelatesTableArchives}
use Rattle.archive_desk.specs.Crashes.{CrashAfterTablesCall}
use Rattle.archive_desk.specs.Importing.{IsBrokenAdd}
use Rattle.archive_desk.specs.declared.importing.Report.{Report}
use Rattle.archive_desk.specs.declared.importing.ImportStop.{ImportStop}
use Rattle.archive_desk.specs.declared.importing.ImportError.TheVariants.{Mbox}
use Rattle.archive_desk.proofs.CallLemmas.{calls_after, calls_last}
use Rattle.archive_desk.proofs.CrashLemmas.{crash_after, question_safe, stays_safe_then}
use Rattle.archive_desk.proofs.ImportEnds.{import_ends_after, import_stops_as}
use Rattle.archive_import.specs.Streaming.{HaltReason, no_room, EndsReading, IsImportMemoryRefusal, halt_reason}
use Rattle.archive_import.specs.Streaming.{AreItemsOfReadText, IsBrokenInputImport, IsImportError, IsInputImported, RowsRefuseReadItem}
use Rattle.archive_import.specs.Intake.{IntakeState, IsAddError, IsUnderWay, RowsRefusePending, RowsRefusePendingOrMore, RowsRefusePendingRead}
use Rattle.archive_import.proofs.IntakeLemmas.{first_done, none_held, one_held}
use Rattle.archive_import.proofs.StopLemmas.{Breaks, BreaksAmid, Grows, Halts, HaltsAmid, Keeps, Nothing, broken_longer, halted_longer, keeps_all}
use Rattle.archive_import.proofs.ReadLemmas.{Begun, BreaksRead, HaltsRead, IsFound, Never, Unreads, broken_read, end_stopped, halted_read, unread_read}
use Rattle.archive_import.proofs.CrashLemmas.{KeepsSafe, LeavesAmid, LeavesFile, LeavesMore, LeavesRead, at_least_longer, kept_crash, read_crash, safe_still}
use Rattle.archive_import.proofs.EndLemmas.{stops_more, uncut_ends}
use Rattle.archive_import.proofs.WantLemmas.{IsStopWanting}

module _ {S W : Type 0} (g : Ghosts S W) where
  -- A store behind other calls: this holds of its archives, no refusal is forgotten, and a stop of the machine still leaves what is remembered.
  pub record Behind (old mid : S) (Before : Archive → Archive → Type 0) : Type 0 where
    pub before : RelatesTableArchives g old mid Before
    pub grows : memory_refusal_count g old ≤ memory_refusal_count g mid
    pub safe : KeepsSafe g old mid

  -- no call was made yet
  pub still : (store : S) (list : List ℕ) (i : IntakeState) → Behind store store (Keeps list i i)
  still store list i = record { before = keeps_all g store list i; grows = omega arith; safe = safe_still g store }

  pub begun_still : (store : S) (list : List ℕ) (items : List Item) (i : IntakeState) → Behind store store (Begun list items items i i)
  begun_still store list items i = record {
    before = goes_in_as g (HoldsTables g) store store (Keeps list i i) (Begun list items items i i) (λ b c keeps a w. keeps a items w) (keeps_all g store list i);
    grows = omega arith;
    safe = safe_still g store;
  }

  -- the list is there
  pub found_behind : (old new : S) (list : List ℕ) → RelatesTableArchives g old new (IsFound list) → WritesNothing g old new → memory_refusal_count g old ≤ memory_refusal_count g new
      → Behind old new (IsFound list)
  found_behind old new list found quiet grows =
      record { before = found; grows = grows; safe = question_safe g old new (IsFound list) (λ a b it. it.0) found quiet }

  pub behind_then : {old mid new : S} {Before : Archive → Archive → Type 0} (After Both : Archive → Archive → Type 0) → Behind old mid Before → RelatesTableArchives g mid new After
      → memory_refusal_count g mid ≤ memory_refusal_count g new → KeepsSafe g mid new → ((a b c : Archive) → Before a b → After b c → Both a c) → Behind old new Both
  behind_then {old} {mid} {new} {Before} After Both behind after grows safe both = record {
    before = goes_in_as g (HoldsTables g) old new (λ a c. (b : Archive) × Before a b × After b c) Both (λ a c h. both a h.0 c h.1 h.2)
        (goes_on_in g (HoldsTables g) old mid new Before After behind.before after);
    grows = omega (arith, behind.grows, grows);
    safe = stays_safe_then g (HoldsTables g) old mid new Before behind.safe behind.before after.0 safe;
  }

  -- behind a call that leaves the archive and writes nothing
  pub behind_left : {old mid new : S} {Before : Archive → Archive → Type 0} → Behind old mid Before → LeavesArchive g mid new → WritesNothing g mid new
      → memory_refusal_count g mid ≤ memory_refusal_count g new → Behind old new Before
  behind_left {old} {mid} {new} {Before} behind leaves quiet grows = record {
    before = left_relates g old mid new leaves Before behind.before;
    grows = omega (arith, behind.grows, grows);
    safe = λ returned held was.
        let back = leaves.remains_open.disk_was_clean returned in
        asked_safe g mid new quiet (leaves.stays_at_rest (behind.before.1 back held).0).1 returned (behind.safe back held was);
  }

  -- What a call says: by its result of the archives, what a stop of the machine leaves behind it, and how it ends.
  pub record Tells (old new : S) {A : Type 0} (result : Result A ImportStop) (Says : Archive → Archive → A → Type 0) (Stays : Archive → Archive → ℕ × HaltReason → Type 0)
      (Fails : Archive → Archive → ImportStop → Type 0) (Leaves : Archive → ImportStop → Archive → Type 0) (Refuses : Archive → ℕ → S → Type 0) : Type 0 where
    pub adds : CallsStoreWithTables g old new halt_reason result Says Stays Fails
    pub crash : CrashAfterTablesCall g old new result Leaves
    pub ends : EndsReading g old new result Refuses

  -- of messages that are held, of those and more, of what was read, and of the whole input
  abbrev pub TellsAmid : S → S → List ℕ → IntakeState → {A : Type 0} → Result A ImportStop → (Archive → Archive → A → Type 0) → Type 0
  TellsAmid old new list i result Says = Tells old new result Says (HaltsAmid list i) (BreaksAmid list i) (LeavesAmid list i) (RowsRefusePending g list i)

  abbrev pub TellsMore : S → S → List ℕ → IntakeState → List Item → {A : Type 0} → Result A ImportStop → (Archive → Archive → A → Type 0) → Type 0
  TellsMore old new list i more result Says = Tells old new result Says (Halts list i more) (Breaks list i more) (LeavesMore list i more) (RowsRefusePendingOrMore g list i more)

  abbrev pub TellsRead : S → S → (list text : List ℕ) → ℕ → List Item → IntakeState → {A : Type 0} → Result A ImportStop → (Archive → Archive → A → Type 0) → Type 0
  TellsRead old new list text ends from i result Says =
      Tells old new result Says (HaltsRead list text ends from i) (BreaksRead list text ends from i) (LeavesRead list text ends from i) (RowsRefusePendingRead g list text ends from i)

  abbrev pub TellsFile : S → S → (list text : List ℕ) → ℕ → Result Report ImportStop → Type 0
  TellsFile old new list text ends result = Tells old new result (λ a b report. IsInputImported list text ends a b report) (λ a b why. IsImportError list text ends a b why.0 why.1)
      (λ a b stop. IsBrokenInputImport list text ends a b stop.done stop.fault) (LeavesFile list text ends) (λ a done db. RowsRefuseReadItem g list text ends done db)

  -- ---- a stop behind other calls

  module _ {old mid new : S} {Before : Archive → Archive → Type 0} (behind : Behind old mid Before) where
    tells_after : {A B : Type 0} {Says : Archive → Archive → A → Type 0} {Stays : Archive → Archive → ℕ × HaltReason → Type 0} {Fails : Archive → Archive → ImportStop → Type 0}
        {Leaves : Archive → ImportStop → Archive → Type 0} {Refuses : Archive → ℕ → S → Type 0} (stop : ImportStop) → Tells mid new (Err stop) Says Stays Fails Leaves Refuses
        → (Says' : Archive → Archive → B → Type 0) (Stays' : Archive → Archive → ℕ × HaltReason → Type 0) (Fails' : Archive → Archive → ImportStop → Type 0)
        (Leaves' : Archive → ImportStop → Archive → Type 0) (Refuses' : Archive → ℕ → S → Type 0)
        → ((a b c : Archive) (why : ℕ × HaltReason) → Before a b → Stays b c why → Stays' a c why) → ((a b c : Archive) (stop : ImportStop) → Before a b → Fails b c stop → Fails' a c stop)
        → ((a b c : Archive) (stop : ImportStop) → Before a b → Leaves b stop c → Leaves' a stop c) → ((a b : Archive) (done : ℕ) (db : S) → Before a b → Refuses b done db → Refuses' a done db)
        → Tells old new (Err stop) Says' Stays' Fails' Leaves' Refuses'
    tells_after {A} {B} {Says} {Stays} {Fails} {Leaves} {Refuses} stop told Says' Stays' Fails' Leaves' Refuses' stays fails leaves refuses =
        let lasts = calls_last g (HoldsTables g) mid new {A = A} halt_reason Says Stays Fails (Err stop) told.adds in
        record {
          adds = calls_after g (HoldsTables g) old mid new {A = B} halt_reason Before (λ b c _. ⊥) Says' Stays Stays' Fails Fails' (λ a b c answer it never. absurd never) stays fails (Err stop)
              behind.before told.adds;
          crash = crash_after g (HoldsTables g) old mid new Before behind.safe behind.before A B stop stop Leaves Leaves' (λ a b c. leaves a b c stop) lasts told.crash;
          ends = import_stops_as g (HoldsTables g) IsImportMemoryRefusal old new A B Refuses' Refuses' stop (λ a db it. it)
              (import_ends_after g (HoldsTables g) IsImportMemoryRefusal old mid new Before behind.before lasts behind.grows Refuses Refuses' refuses (Err stop) told.ends);
        }

    -- of the whole input, where these were under way
    pub file_tells : (list text : List ℕ) (ends : ℕ) (items : List Item) (i : IntakeState) → ((a b : Archive) → Before a b → IsUnderWay list a b items i)
        → (stop : ImportStop) → TellsRead mid new list text ends items i (Err stop) Nothing → TellsFile old new list text ends (Err stop)
    file_tells list text ends items i under stop told = tells_after stop told (λ a b report. IsInputImported list text ends a b report) (λ a b why. IsImportError list text ends a b why.0 why.1)
        (λ a b stop. IsBrokenInputImport list text ends a b stop.done stop.fault) (LeavesFile list text ends) (λ a done db. RowsRefuseReadItem g list text ends done db)
        (λ a b c why it halts. halts a (under a b it)) (λ a b c stop it breaks. breaks a (under a b it)) (λ a b c stop it leaves. leaves a (under a b it))
        (λ a b done db it stops. stops a (under a b it))

  -- ---- more messages, of which those were the first

  -- none was added since
  pub more_tells : (old new : S) (list : List ℕ) (i : IntakeState) (more : List Item) (stop : ImportStop) → TellsAmid old new list i (Err stop) Nothing
      → TellsMore old new list i more (Err stop) Nothing
  more_tells old new list i more stop told =
      tells_after (still old list i) stop told Nothing (Halts list i more) (Breaks list i more) (LeavesMore list i more) (RowsRefusePendingOrMore g list i more)
      (λ b c d why keeps halts a items w. halted_longer list items more a d why.0 why.1 (halts a items (keeps a items w)))
      (λ b c d stop keeps breaks a items w. broken_longer list items more a d stop.done stop.fault (breaks a items (keeps a items w)))
      (λ b c d stop keeps leaves a items w. at_least_longer list items more stop.done a d (leaves a items (keeps a items w)))
      (λ b c done db keeps stops a items w. stops_more g list items more done db (stops a items (keeps a items w)))

  -- one after the other
  pub grown_tells : {old mid new : S} (list : List ℕ) (i j : IntakeState) (more next rest all : List Item) → all ≡ more ++ (next ++ rest) → Behind old mid (Grows list i j more)
      → (stop : ImportStop) → TellsMore mid new list j next (Err stop) Nothing → TellsMore old new list i all (Err stop) Nothing
  grown_tells list i j more next rest all e behind stop told =
      tells_after behind stop told Nothing (Halts list i all) (Breaks list i all) (LeavesMore list i all) (RowsRefusePendingOrMore g list i all)
      (λ b c d why grown halts a items w. subst (λ is. IsAddError list is a d why.0 why.1) (joined items)
      (halted_longer list ((items ++ more) ++ next) rest a d why.0 why.1 (halts a (items ++ more) (grown a items w))))
      (λ b c d stop grown breaks a items w. subst (λ is. IsBrokenAdd list is a d stop.done stop.fault) (joined items)
      (broken_longer list ((items ++ more) ++ next) rest a d stop.done stop.fault (breaks a (items ++ more) (grown a items w))))
      (λ b c d stop grown leaves a items w. subst (λ is. HasAddedAtLeast list is stop.done a d) (joined items)
      (at_least_longer list ((items ++ more) ++ next) rest stop.done a d (leaves a (items ++ more) (grown a items w))))
      (λ b c done db grown stops a items w. subst (λ is. RefusesAnItem g db list (drop done is)) (joined items)
      (stops_more g list ((items ++ more) ++ next) rest done db (stops a (items ++ more) (grown a items w))))
    where
      joined : (items : List Item) → ((items ++ more) ++ next) ++ rest ≡ items ++ all
      joined items = append_assoc (items ++ more) next rest ∙ append_assoc items more (next ++ rest) ∙ ap (λ is. items ++ is) (sym e)

  -- one message more is held, or there was no memory for it
  pub hold_tells : {old mid new : S} (list : List ℕ) (i j : IntakeState) (item : Item) → Behind old mid (Keeps list i j) → LeavesArchive g mid new → WritesNothing g mid new
      → (k : IntakeState) (result : Result (Unit {0}) ImportStop) → OnOk result (k ≡ record j { held = j.held ++ item ∷ [] })
      → IfErr result (λ stop. stop ≡ record { done = j.done; fault = Mbox NoRoom }) → CountsRefusals g IsStopWanting mid new result
      → TellsMore old new list i (item ∷ []) result (λ b c _. Grows list i k (item ∷ []) b c)
  hold_tells {old} {mid} {new} list i j item behind leaves quiet k (Ok done) ok err counted =
      let after = behind_left behind leaves quiet counted.0 in
      record {
        adds = goes_in_as g (HoldsTables g) old new (Keeps list i j) (Grows list i k (item ∷ [])) (λ b c keeps a items w. one_held list a c items j (keeps a items w) k item ok) after.before;
        crash = after.safe;
        ends = record { fault_has_cause = tt; refusals_counted = (after.grows, tt) };
      }
  hold_tells {old} {mid} {new} list i j item behind leaves quiet k (Err stop) ok err counted =
      let after = behind_left behind leaves quiet counted.0 in
      let all = more_tells old new list i (item ∷ []) stop (record {
        adds = subst (λ s. CallsStoreWithTables g old new {A = Unit {0}} halt_reason (Err s) Nothing (HaltsAmid list i) (BreaksAmid list i)) (sym err)
            (goes_in_as g (HoldsTables g) old new (Keeps list i j) (λ b c. HaltsAmid list i b c (j.done, no_room)) (λ b c keeps a items w. first_done list a c items j (keeps a items w)) after.before);
        crash = kept_crash g old new list i j after.safe after.before stop (ap (λ (s : ImportStop). s.done) err);
        ends = uncut_ends g old new (RowsRefusePending g list i) j.done NoRoom stop err
            (raises_after {A = Unit {0}} IsStopWanting (memory_refusal_count g old) (memory_refusal_count g mid) (memory_refusal_count g new) (Err stop) behind.grows counted);
      }) in
      record { adds = all.adds; crash = all.crash; ends = all.ends }

  -- ---- what was read

  module _ {old mid new : S} {list : List ℕ} {from items : List Item} {i j : IntakeState} (behind : Behind old mid (Begun list from items i j)) (text : List ℕ) (ends : ℕ) where
    -- a fault of reading, or of the end
    pub uncut_tells : (stream piece : List ℕ) → items ≡ settled_items stream → text ≡ stream ++ piece → (fault : MboxFault) → IsEndFault text fault → (fault ≡ Failed → ⊥)
        → (stop : ImportStop) → stop ≡ record { done = j.done; fault = Mbox fault } → CountsRefusals g {A = Unit {0}} IsStopWanting mid new (Err stop) → LeavesArchive g mid new
        → WritesNothing g mid new → TellsRead old new list text ends from i (Err stop) Nothing
    uncut_tells stream piece are e fault why off stop is counted leaves quiet =
        let after = behind_left behind leaves quiet counted.0 in
        record {
          adds = end_stopped g old new list from items i j after.before stream text piece ends are e fault stop is why off;
          crash = read_crash g old new list from items i j after.safe after.before stream text piece ends are e stop _ is;
          ends = uncut_ends g old new (RowsRefusePendingRead g list text ends from i) j.done fault stop is
              (raises_after {A = Unit {0}} IsStopWanting (memory_refusal_count g old) (memory_refusal_count g mid) (memory_refusal_count g new) (Err stop) behind.grows counted);
        }

    -- as the messages are added that wait
    pub waiting_tells : (waiting : List Item) → AreItemsOfReadText text ends (items ++ waiting) → (stop : ImportStop) → TellsMore mid new list j waiting (Err stop) Nothing
        → TellsRead old new list text ends from i (Err stop) Nothing
    waiting_tells waiting are stop told =
        tells_after behind stop told Nothing (HaltsRead list text ends from i) (BreaksRead list text ends from i) (LeavesRead list text ends from i) (RowsRefusePendingRead g list text ends from i)
        (λ b c d why begun halts a w. halted_read list text ends (items ++ waiting) a d why.0 are why.1 w.list_exists (halts a items (begun a w)))
        (λ b c d stop begun breaks a w. broken_read list text ends (items ++ waiting) a d stop.done are stop.fault (breaks a items (begun a w)))
        (λ b c d stop begun leaves a w. (items ++ waiting, are, leaves a items (begun a w)))
        (λ b c done db begun stops a w. (items ++ waiting, are, stops a items (begun a w)))

    -- as those are that are held, by what it says of a halt
    held_tells : AreItemsOfReadText text ends items → {Says : Archive → Archive → Unit {0} → Type 0} {Stays : Archive → Archive → ℕ × HaltReason → Type 0}
        (Says' : Archive → Archive → Unit {0} → Type 0) (stop : ImportStop) → Tells mid new (Err stop) Says Stays (BreaksAmid list j) (LeavesAmid list j) (RowsRefusePending g list j)
        → ((b c d : Archive) (why : ℕ × HaltReason) → Begun list from items i j b c → Stays c d why → HaltsRead list text ends from i b d why)
        → TellsRead old new list text ends from i (Err stop) Says'
    held_tells are Says' stop told halts =
        tells_after behind stop told Says' (HaltsRead list text ends from i) (BreaksRead list text ends from i) (LeavesRead list text ends from i) (RowsRefusePendingRead g list text ends from i)
        halts (λ b c d stop begun breaks a w. broken_read list text ends items a d stop.done are stop.fault (breaks a items (begun a w)))
        (λ b c d stop begun leaves a w. (items, are, leaves a items (begun a w))) (λ b c done db begun stops a w. (items, are, stops a items (begun a w)))

  module _ {old mid new : S} {list : List ℕ} {from items : List Item} {i j : IntakeState} (behind : Behind old mid (Begun list from items i j)) (text : List ℕ) where
    -- after a read failed
    pub unread_tells : items ≡ settled_items text → (Says' : Archive → Archive → Unit {0} → Type 0) (result : Result (Unit {0}) ImportStop) → OnOk result ⊥
        → Tells mid new result (Never list j) (Unreads list j) (BreaksAmid list j) (LeavesAmid list j) (RowsRefusePending g list j) → TellsRead old new list text 0 from i result Says'
    unread_tells are Says' (Ok done) never told = absurd never
    unread_tells are Says' (Err stop) never told = held_tells behind text 0 (inl are) Says' stop told
        (λ b c d why begun unreads a w. unread_read list text items a d why.0 why.1 are w.list_exists (unreads a items (begun a w)))

    -- the last of them are added, and the input was read to its end
    pub last_tells : (k : IntakeState) (result : Result (Unit {0}) ImportStop) → DividesIntoItems text items → OnOk result (k.held ≡ []) → TellsAmid mid new list j result (λ b c _. Keeps list j k b c)
        → TellsRead old new list text 1 from i result (λ b c _. (a : Archive) → IsUnderWay list a b from i → IsInputImported list text 1 a c k.report)
    last_tells k (Err stop) divides none told = held_tells behind text 1 (inr (refl, divides)) _ stop told
        (λ b c d why begun halts a w. halted_read list text 1 items a d why.0 (inr (refl, divides)) why.1 w.list_exists (halts a items (begun a w)))
    last_tells k (Ok done) divides none told =
        let Imported : Archive → Archive → Type 0 = λ b c. (a : Archive) → IsUnderWay list a b from i → IsInputImported list text 1 a c k.report in
        let all = behind_then (Keeps list j k) Imported behind told.adds told.ends.refusals_counted.0 told.crash (λ b c d begun keeps a w.
        let it = none_held list a d items k (keeps a items (begun a w)) none in
        (refl, record { list_exists = w.list_exists; items = items; divides_into_items = divides; adds_all = record { archive_is = it.1; tally_is = it.2 } })) in
        record { adds = all.before; crash = all.safe; ends = record { fault_has_cause = tt; refusals_counted = (all.grows, tt) } }
