-- What each run leaves of the archive that it found, and that what it printed is of that archive.
use Rattle.std.proofs.Common.{◌≡◌, ◌≢◌, ◌⊎◌, ◌∙◌, inl, inr, ap, refl, subst, sym, append_assoc, append-nil, ℕ, Bool, true, false, List, [], ◌∷◌, ◌++◌, map, take, drop, Ok, Err, IfSome, if◌then◌else◌}
use Rattle.std.specs.Prelude.{option_map, MatchOption}
use Rattle.std.proofs.lemmas.List.{map-append, take-append-drop}
use Rattle.mbox_items.specs.Division.{Item}
use Rattle.mbox_stream.specs.Stream.{IsBeginning, file_items, settled_items}
use Rattle.mbox_stream.proofs.StreamLaws.{file_items_divide, settled_begin}
use Rattle.archive_model.specs.Records.{Archive}
use Rattle.archive_model.specs.Commands.{Command, add, no_message}
use Rattle.archive_model.specs.Machine.{refuse, step}
use Rattle.archive_model.specs.Runs.{run, taken, tally_replies}
use Rattle.archive_model.specs.Sound.{IsIndexedCorrectly}
use Rattle.archive_port.specs.Crashes.{CrashLeavesRelatedArchive, WritesNothing}
use Rattle.archive_port.specs.Told.{archive_in}
use Rattle.archive_import.specs.Streaming.{AreItemsOfReadText, HasAddedReadAtLeast}
use Rattle.archive_args.specs.Values.{CheckValues, AskValues, GetValues, ImportValues, ServeValues, SiftValues, StoreCommand, StoreCommandValues}
use Rattle.archive_args.specs.declared.orders.Order.{Order}
use Rattle.archive_args.specs.declared.orders.Order.TheVariants.{Sift, Table, Import, Get, Export, Check, Serve}
use Rattle.archive_commands.specs.Commands.{command_outcome, has_valid_key, model_command}
use Rattle.archive_listen.specs.declared.connections.BoundListener.{BoundListener}
use Rattle.sift_run.specs.declared.faults.CommandError.TheVariants.{Memory}
use Rattle.archive_run.specs.Crashing.{CrashImportsFile}
use Rattle.archive_run.specs.Databases.{LeavesOrUsesDatabase}
use Rattle.archive_run.specs.Holding.{HasServedUntilF4}
use Rattle.archive_port.specs.Remembering.{ClosedDatabaseHoldsArchive, OpenedStoreHoldsArchive, UnopenedDatabaseHoldsArchive}
use Rattle.archive_run.specs.Runs.{RunsOrder}
use Rattle.archive_run.specs.Environments.{DeviceContracts}
use Rattle.archive_run.specs.declared.faults.RunError.{RunError}
use Rattle.archive_run.specs.declared.faults.RunError.TheVariants.{Run, Net}
use Rattle.archive_run.specs.declared.world.Environment.{Environment}
use Rattle.archive_run.proofs.CrashLemmas.{crash_of_question}
use Rattle.archive_life.specs.Histories.{Ending, LeavesCarriedOut, printed, cut_off}
use Rattle.archive_life.specs.Restarts.{AnswersConnectionsFrom, AnswersFrom, FindsAfter, FindsCrashed, FindsHeld, IsOverDatabase, IsReadOfIfOpened, IsSoundStore, ReadsMbox, RunEnds}
use Rattle.archive_life.specs.Restarts.{ServerStaysOpen, commands_of_order, served_until_end, store_if_used, store_of_run, store_of_server, store_until_end}
use Rattle.archive_life.proofs.SentLemmas.{refused_sends_nothing}

-- ---- commands

pub nothing_run : (a : Archive) → (run a []).archive ≡ a
unfolding run
nothing_run a = refl

by_validity : (valid : Bool) (a : Archive) (command : Command)
    → (run a (if valid then command ∷ [] else [])).archive ≡ (if valid then step a command else refuse a no_message).0
unfolding run
by_validity true a command = refl
by_validity false a command = refl

-- the machine's run of what a command of the words stands for is its outcome
command_run : (a : Archive) (command : StoreCommand)
    → (run a (if has_valid_key command then model_command command ∷ [] else [])).archive ≡ (command_outcome a command).0
command_run a command = by_validity (has_valid_key command) a (model_command command)

-- ---- messages

first_of_read : (bytes : List ℕ) (items : List Item) → AreItemsOfReadText bytes 1 items → IsBeginning items (file_items bytes)
first_of_read bytes items (inl settled) =
    subst (λ is. IsBeginning is (file_items bytes)) (sym settled)
    (subst (λ all. IsBeginning (settled_items bytes) (file_items all)) (append-nil bytes) (settled_begin bytes []))
first_of_read bytes items (inr (ended, divided)) = ([], file_items_divide bytes items divided ∙ sym (append-nil items))

first_commands : (command : Item → Command) (all items : List Item) (n : ℕ) → IsBeginning items all → IsBeginning (map command (take n items)) (map command all)
first_commands command all items n (more, is) =
    let rest = drop n items ++ more in
    let cut : all ≡ take n items ++ rest =
    is ∙ ap (λ xs. xs ++ more) (sym (take-append-drop n items)) ∙ append_assoc (take n items) (drop n items) more in
    (map command rest, ap (map command) cut ∙ map-append command (take n items) rest)

module _ (Holds : Archive → Type 0) where
  none_of : (ordered : List Command) (archive : Archive) → Holds archive → LeavesCarriedOut Holds cut_off ordered archive
  none_of ordered archive held = ([], (ordered, refl), subst Holds (sym (nothing_run archive)) held)

  all_of : (ordered : List Command) (archive b : Archive) → b ≡ (run archive ordered).archive → Holds b → LeavesCarriedOut Holds printed ordered archive
  all_of ordered archive b is held = (ordered, refl, subst Holds is held)

  -- a question that printed
  same_of : (archive : Archive) → Holds archive → LeavesCarriedOut Holds printed [] archive
  same_of archive held = all_of [] archive archive (sym (nothing_run archive)) held

  crashed_command : (archive b : Archive) (command : StoreCommand) → (b ≡ archive) ⊎ (b ≡ (command_outcome archive command).0) → Holds b
      → LeavesCarriedOut Holds cut_off (if has_valid_key command then model_command command ∷ [] else []) archive
  crashed_command archive b command (inl same) held =
      none_of (if has_valid_key command then model_command command ∷ [] else []) archive (subst Holds same held)
  crashed_command archive b command (inr made) held =
      let ordered = if has_valid_key command then model_command command ∷ [] else [] in
      (ordered, ([], sym (append-nil ordered)), subst Holds (made ∙ sym (command_run archive command)) held)

  added_first : (archive b : Archive) (list mbox bytes : List ℕ) → mbox ≡ bytes → HasAddedReadAtLeast list bytes 1 0 archive b → Holds b
      → LeavesCarriedOut Holds cut_off (map (add list) (file_items mbox)) archive
  added_first archive b list mbox bytes is (items, read, (n, least, (most, made))) held = (
    map (add list) (take n items),
    subst (λ all. IsBeginning (map (add list) (take n items)) (map (add list) (file_items all))) (sym is)
        (first_commands (add list) (file_items bytes) items n (first_of_read bytes items read)),
    subst Holds made held,
  )

-- ---- a crash

module _ {S F D C P T R O E W I L : Type 0} (dev : DeviceContracts S W F I D C P L T R O E) (opens : OpenedStoreHoldsArchive dev.archive dev.databases) where
  -- what is found in trees that a crash left is as the clause of the crash says
  found_crashed : (file : List ℕ) (Holds : Archive → Type 0) (old device : D) (o c : S) (archive : Archive) (Is : Archive → Archive → Type 0)
      → dev.databases.holds old file archive → dev.databases.opens old device file (Ok o) → IsSoundStore dev (record { opened = o; last = c })
      → CrashLeavesRelatedArchive dev.archive o c Is → FindsCrashed dev file Holds c
      → (b : Archive) × Is archive b × Holds b
  found_crashed file Holds old device o c archive Is held opened sound leaves crashed =
      let was = (opens old device file o archive held opened).0 sound.was_clean in
      let left = leaves sound.is_clean was.0 sound.was_safe crashed.left crashed.may_be_left in
      (left.0, subst (λ a. Is a left.0) was.1 left.1, crashed.holds_stored left.0 left.2)

  module _ (file list mbox name : List ℕ) (Holds : Archive → Type 0) (files : F) (old device : D) (o c : S) (archive : Archive) (held : dev.databases.holds old file archive)
      (opened : dev.databases.opens old device file (Ok o)) (sound : IsSoundStore dev (record { opened = o; last = c })) (crashed : FindsCrashed dev file Holds c) where
    crashed_import : (changes : CrashImportsFile dev.archive o c dev.opens dev.input_of files list name) → IsReadOfIfOpened mbox changes
        → LeavesCarriedOut Holds cut_off (map (add list) (file_items mbox)) archive
    crashed_import (inl (fault, unopened, leaves)) read =
        let it = found_crashed file Holds old device o c archive (λ a b. b ≡ a) held opened sound leaves crashed in
        none_of Holds (map (add list) (file_items mbox)) archive (subst Holds it.1 it.2)
    crashed_import (inr input) (rest, is, ended) =
        let it = found_crashed file Holds old device o c archive (HasAddedReadAtLeast list (input.text ++ rest) 1 0) held opened sound (input.input_becomes rest ended) crashed in
        added_first Holds archive it.0 list mbox (input.text ++ rest) is it.1 it.2

-- ---- each order

module _ {Y S F D C P T R O E W I L K A B M : Type 0} (dev : DeviceContracts S W F I D C P L T R O E) (opens : OpenedStoreHoldsArchive dev.archive dev.databases)
    (closes : ClosedDatabaseHoldsArchive dev.archive dev.databases) (unopened : UnopenedDatabaseHoldsArchive dev.databases) where
  module _ (old new : Environment Y S F D C P T R O E W I L K A B M) (archive : Archive) (Holds : Archive → Type 0) where
    -- what a run leaves for the next one, under what is trusted of it
    abbrev pub LeavesArchive : (file : List ℕ) (ending : Ending) (order : Order) (mbox : List ℕ) → RunEnds dev old new ending order → Type 0
    LeavesArchive file ending order mbox ends = dev.databases.holds old.databases file archive → IsIndexedCorrectly archive
        → IfSome (store_of_run dev old new ending order ends) (IsSoundStore dev) → ServerStaysOpen dev old new ending order ends → ReadsMbox dev old new ending order ends mbox
        → FindsAfter dev file Holds new.databases ending (store_of_run dev old new ending order ends)
        → LeavesCarriedOut Holds ending (commands_of_order mbox order) archive

    -- databases that are as before
    held_as_before : (file : List ℕ) → dev.databases.holds old.databases file archive → new.databases ≡ old.databases → dev.databases.holds new.databases file archive
    held_as_before file held same = subst (λ d. dev.databases.holds d file archive) (sym same) held

    command_printed : (order : StoreCommandValues) (mbox : List ℕ) (ends : RunEnds dev old new printed (Table order)) → LeavesArchive order.file printed (Table order) mbox ends
    command_printed order mbox ends held right sound up read finds =
        let it = ends.runs_on_archive.2.store_changes sound.is_clean archive held right in
        all_of Holds (commands_of_order mbox (Table order)) archive it.0 (it.1.0 ∙ sym (command_run archive order.command)) (finds it.0 it.3)

    import_printed : (order : ImportValues) (mbox : List ℕ) (ends : RunEnds dev old new printed (Import order)) → LeavesArchive order.file printed (Import order) mbox ends
    import_printed order mbox ends held right sound up (rest, is, ended) finds =
        let uses = ends.runs_order.1 in
        let input = uses.store_changes in
        let was = (opens old.databases uses.device order.file uses.store_before archive held uses.opens_database).0 sound.was_clean in
        let there = input.input_becomes.2.1 sound.is_clean was.0 in
        let closed = closes old.databases uses.device new.databases order.file uses.store_before uses.store_after archive held uses.opens_database uses.closes_database sound.is_clean there.0 in
        let items = there.1.1.items in
        let whole : mbox ≡ input.text = is ∙ ap (λ more. input.text ++ more) (ended input.input_becomes.0) ∙ append-nil input.text in
        let all : file_items mbox ≡ items = ap (λ bytes. file_items bytes) whole ∙ file_items_divide input.text items there.1.1.divides_into_items in
        let made : archive_in dev.archive uses.store_after ≡ (run archive (map (add order.list) (file_items mbox))).archive =
        there.1.1.adds_all.archive_is ∙ ap (λ a. (taken a order.list items).archive) was.1 ∙ ap (λ is. (taken archive order.list is).archive) (sym all) in
        all_of Holds (commands_of_order mbox (Import order)) archive (archive_in dev.archive uses.store_after) made (finds (archive_in dev.archive uses.store_after) closed)

    get_printed : (order : GetValues) (mbox : List ℕ) (ends : RunEnds dev old new printed (Get order)) → LeavesArchive order.ask.file printed (Get order) mbox ends
    get_printed order mbox ends held right sound up read finds =
        same_of Holds archive (finds archive (ends.runs_on_archive.2.3.2.store_changes sound.is_clean archive held).1)

    export_printed : (order : AskValues) (mbox : List ℕ) (ends : RunEnds dev old new printed (Export order)) → LeavesArchive order.file printed (Export order) mbox ends
    export_printed order mbox ends held right sound up read finds =
        same_of Holds archive (finds archive (ends.runs_on_archive.2.3.store_changes sound.is_clean archive held).1)

    check_printed : (order : CheckValues) (mbox : List ℕ) (ends : RunEnds dev old new printed (Check order)) → LeavesArchive order.file printed (Check order) mbox ends
    check_printed order mbox ends held right sound up read finds =
        same_of Holds archive (finds archive (ends.runs_on_archive.store_changes sound.is_clean archive held).1)

    serve_printed : (order : ServeValues) (mbox : List ℕ) (ends : RunEnds dev old new printed (Serve order)) → LeavesArchive order.file printed (Serve order) mbox ends
    serve_printed order mbox ends held right sound up read finds =
        same_of Holds archive (finds archive ((ends.runs_on_archive.serves_held_archive sound.is_clean archive held).1 up))

    sift_printed : (file : List ℕ) (order : SiftValues) (mbox : List ℕ) (ends : RunEnds dev old new printed (Sift order)) → LeavesArchive file printed (Sift order) mbox ends
    sift_printed file order mbox ends held right sound up read finds =
        let same : new.databases ≡ old.databases = ap (λ (w : Environment Y S F D C P T R O E W I L K A B M). w.databases) ends.runs_order.1 in
        same_of Holds archive (finds archive (held_as_before file held same))

    command_cut_off : (order : StoreCommandValues) (mbox : List ℕ) (ends : RunEnds dev old new cut_off (Table order)) → LeavesArchive order.file cut_off (Table order) mbox ends
    command_cut_off order mbox (inl same) held right sound up read finds =
        none_of Holds (commands_of_order mbox (Table order)) archive (finds archive (held_as_before order.file held same))
    command_cut_off order mbox (inr (inl (fault, never))) held right sound up read finds =
        none_of Holds (commands_of_order mbox (Table order)) archive (finds archive (unopened old.databases new.databases order.file fault archive held never))
    command_cut_off order mbox (inr (inr uses)) held right sound up read finds =
        let it = found_crashed dev opens order.file Holds old.databases uses.device uses.store_before uses.store_after archive (λ a b. (b ≡ a) ⊎ (b ≡ (command_outcome a order.command).0))
        held uses.opens_database sound uses.store_changes finds in
        crashed_command Holds archive it.0 order.command it.1 it.2

    import_cut_off : (order : ImportValues) (mbox : List ℕ) (ends : RunEnds dev old new cut_off (Import order)) → LeavesArchive order.file cut_off (Import order) mbox ends
    import_cut_off order mbox (inl same) held right sound up read finds =
        none_of Holds (commands_of_order mbox (Import order)) archive (finds archive (held_as_before order.file held same))
    import_cut_off order mbox (inr (inl (fault, never))) held right sound up read finds =
        none_of Holds (commands_of_order mbox (Import order)) archive (finds archive (unopened old.databases new.databases order.file fault archive held never))
    import_cut_off order mbox (inr (inr uses)) held right sound up read finds =
        crashed_import dev opens order.file order.list mbox order.mbox Holds old.files old.databases uses.device uses.store_before uses.store_after archive held uses.opens_database sound finds
        uses.store_changes read

    -- a question or a server, which means no command
    question_cut_off : (file : List ℕ) → dev.databases.holds old.databases file archive
        → (crash : LeavesOrUsesDatabase dev.databases old.databases new.databases file (WritesNothing dev.archive)) → IfSome (store_if_used crash) (IsSoundStore dev)
        → MatchOption (store_if_used crash) (FindsHeld dev file Holds new.databases) (λ s. FindsCrashed dev file Holds s.last) → LeavesCarriedOut Holds cut_off [] archive
    question_cut_off file held (inl same) sound finds = none_of Holds [] archive (finds archive (held_as_before file held same))
    question_cut_off file held (inr (inl (fault, never))) sound finds = none_of Holds [] archive (finds archive (unopened old.databases new.databases file fault archive held never))
    question_cut_off file held (inr (inr uses)) sound finds =
        let it = found_crashed dev opens file Holds old.databases uses.device uses.store_before uses.store_after archive (λ a b. b ≡ a)
        held uses.opens_database sound (crash_of_question dev.archive uses.store_before uses.store_after uses.store_changes) finds in
        none_of Holds [] archive (subst Holds it.1 it.2)

    -- of the database of an order, whatever it is
    pub leaves_archive : (file : List ℕ) (ending : Ending) (order : Order) (mbox : List ℕ) (ends : RunEnds dev old new ending order) → IsOverDatabase file order
        → LeavesArchive file ending order mbox ends
    leaves_archive file printed (Sift order) mbox ends over = sift_printed file order mbox ends
    leaves_archive file printed (Table order) mbox ends over = subst (λ f. LeavesArchive f printed (Table order) mbox ends) over (command_printed order mbox ends)
    leaves_archive file printed (Import order) mbox ends over = subst (λ f. LeavesArchive f printed (Import order) mbox ends) over (import_printed order mbox ends)
    leaves_archive file printed (Get order) mbox ends over = subst (λ f. LeavesArchive f printed (Get order) mbox ends) over (get_printed order mbox ends)
    leaves_archive file printed (Export order) mbox ends over = subst (λ f. LeavesArchive f printed (Export order) mbox ends) over (export_printed order mbox ends)
    leaves_archive file printed (Check order) mbox ends over = subst (λ f. LeavesArchive f printed (Check order) mbox ends) over (check_printed order mbox ends)
    leaves_archive file printed (Serve order) mbox ends over = subst (λ f. LeavesArchive f printed (Serve order) mbox ends) over (serve_printed order mbox ends)
    leaves_archive file cut_off (Sift order) mbox ends over = λ held right sound up read finds. none_of Holds [] archive (finds archive (held_as_before file held ends))
    leaves_archive file cut_off (Table order) mbox ends over = subst (λ f. LeavesArchive f cut_off (Table order) mbox ends) over (command_cut_off order mbox ends)
    leaves_archive file cut_off (Import order) mbox ends over = subst (λ f. LeavesArchive f cut_off (Import order) mbox ends) over (import_cut_off order mbox ends)
    leaves_archive file cut_off (Get order) mbox ends over = subst (λ f. LeavesArchive f cut_off (Get order) mbox ends) over
        (λ held right sound up read finds. question_cut_off order.ask.file held ends sound finds)
    leaves_archive file cut_off (Export order) mbox ends over = subst (λ f. LeavesArchive f cut_off (Export order) mbox ends) over
        (λ held right sound up read finds. question_cut_off order.file held ends sound finds)
    leaves_archive file cut_off (Check order) mbox ends over = subst (λ f. LeavesArchive f cut_off (Check order) mbox ends) over
        (λ held right sound up read finds. question_cut_off order.file held ends sound finds)
    leaves_archive file cut_off (Serve order) mbox ends over = subst (λ f. LeavesArchive f cut_off (Serve order) mbox ends) over
        (λ held right sound up read finds. question_cut_off order.file held ends.0 sound finds)

  -- ---- what was printed, or sent

  module _ (listens_none : (before after : P) (port : ℕ) (listening : BoundListener L) → dev.listens before after port (Ok listening)
      → (dev.went after ≡ dev.went before) × (dev.over listening.listener ≡ [])) (old new : Environment Y S F D C P T R O E W I L K A B M) (archive : Archive) where
    abbrev pub AnswersFound : (file : List ℕ) (ending : Ending) (order : Order) → RunEnds dev old new ending order → Type 0
    AnswersFound file ending order ends = dev.databases.holds old.databases file archive → IsIndexedCorrectly archive
        → IfSome (store_of_run dev old new ending order ends) (IsSoundStore dev) → IfSome (store_until_end dev old new ending order ends) (IsSoundStore dev)
        → AnswersFrom dev old new ending order ends archive

    served_until : (order : ServeValues) (stopped : Environment Y S F D C P T R O E W I L K A B M) (refusal : RunError)
        → ((refusal ≡ Run Memory) × (stopped ≡ old)) ⊎ RunsOrder dev old stopped (Serve order) (Err refusal) → (it : HasServedUntilF4 dev old stopped (Serve order) refusal)
        → dev.databases.holds old.databases order.file archive
        → IfSome (option_map (λ served. store_of_server dev old stopped served) (served_until_end dev old stopped order refusal it)) (IsSoundStore dev)
        → MatchOption (served_until_end dev old stopped order refusal it) (refusal ≢ Net → dev.went stopped.ports ≡ dev.went old.ports)
        (λ served. AnswersConnectionsFrom dev old stopped archive served)
    served_until order stopped Net cause (inl no_port) held sound = λ other. absurd (other refl)
    served_until order stopped Net cause (inr served) held sound = (served.serves_held_archive sound.is_clean archive held).0
    served_until order stopped refusal cause it held sound = λ other. refused_sends_nothing dev listens_none old stopped order refusal other cause

    import_reported : (order : ImportValues) (ends : RunEnds dev old new printed (Import order)) → dev.databases.holds old.databases order.file archive → IsIndexedCorrectly archive
        → IfSome (store_of_run dev old new printed (Import order) ends) (IsSoundStore dev) → AnswersFrom dev old new printed (Import order) ends archive
    import_reported order ends held right sound =
        let uses = ends.runs_order.1 in
        let input = uses.store_changes in
        let was = (opens old.databases uses.device order.file uses.store_before archive held uses.opens_database).0 sound.was_clean in
        let there = input.input_becomes.2.1 sound.is_clean was.0 in
        let items = there.1.1.items in
        let all : file_items input.text ≡ items = file_items_divide input.text items there.1.1.divides_into_items in
        there.1.1.adds_all.tally_is
        ∙ ap (λ a. tally_replies (taken a order.list items).replies) was.1
        ∙ ap (λ is. tally_replies (taken archive order.list is).replies) (sym all)

    pub answers_found : (file : List ℕ) (ending : Ending) (order : Order) (ends : RunEnds dev old new ending order) → IsOverDatabase file order → AnswersFound file ending order ends
    answers_found file printed (Sift order) ends over = λ held right sound was. tt
    answers_found file printed (Table order) ends over = subst (λ f. AnswersFound f printed (Table order) ends) over
        (λ held right sound was. (ends.runs_on_archive.2.store_changes sound.is_clean archive held right).1.1)
    answers_found file printed (Import order) ends over = subst (λ f. AnswersFound f printed (Import order) ends) over (λ held right sound was. import_reported order ends held right sound)
    answers_found file printed (Get order) ends over = subst (λ f. AnswersFound f printed (Get order) ends) over
        (λ held right sound was. (ends.runs_on_archive.2.3.2.store_changes sound.is_clean archive held).0)
    answers_found file printed (Export order) ends over = subst (λ f. AnswersFound f printed (Export order) ends) over
        (λ held right sound was. (ends.runs_on_archive.2.3.store_changes sound.is_clean archive held).0)
    answers_found file printed (Check order) ends over = subst (λ f. AnswersFound f printed (Check order) ends) over
        (λ held right sound was. (ends.runs_on_archive.store_changes sound.is_clean archive held).0)
    answers_found file printed (Serve order) ends over = subst (λ f. AnswersFound f printed (Serve order) ends) over
        (λ held right sound was. (ends.runs_on_archive.serves_held_archive sound.is_clean archive held).0)
    answers_found file cut_off (Sift order) ends over = λ held right sound was. tt
    answers_found file cut_off (Table order) ends over = λ held right sound was. tt
    answers_found file cut_off (Import order) ends over = λ held right sound was. tt
    answers_found file cut_off (Get order) ends over = λ held right sound was. tt
    answers_found file cut_off (Export order) ends over = λ held right sound was. tt
    answers_found file cut_off (Check order) ends over = λ held right sound was. tt
    answers_found file cut_off (Serve order) ends over = subst (λ f. AnswersFound f cut_off (Serve order) ends) over
        (λ held right sound was. served_until order ends.1.stopped ends.1.refusal ends.1.cause ends.1.served_until_f4 held was)
