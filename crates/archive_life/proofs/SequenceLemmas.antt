-- From runs of the program, each of which finds what the one before it left, to their history; and a withdrawal that was printed.
use Rattle.std.proofs.Common.{◌≡◌, ◌≢◌, ◌∙◌, ap, refl, subst, sym, ℕ, Bool, true, false, List, [], ◌∷◌, ◌++◌, Some, Ok, if◌then◌else◌}
use Rattle.std.specs.List.{AllByRecursion, AllZip}
use Rattle.policy_core.specs.Numbers.{withdrawn_by_number}
use Rattle.policy_core.specs.declared.access.Withdrawn.TheVariants.{No}
use Rattle.policy_core.specs.declared.access.WithdrawnBy.{WithdrawnBy}
use Rattle.policy_core.specs.declared.access.WithdrawnBy.TheVariants.{Author, Board}
use Rattle.archive_model.specs.Records.{Archive}
use Rattle.archive_model.specs.Commands as machine
use Rattle.archive_model.specs.Commands.{Command, CommandReply, no_message}
use Rattle.archive_model.specs.Keys.{is_key}
use Rattle.archive_model.specs.Lasting.{NoCommandSatisfies, ends_withdrawal}
use Rattle.archive_model.specs.Machine.{refuse, step}
use Rattle.archive_model.specs.Messages.{withdrawal_number}
use Rattle.archive_model.specs.Runs.{run}
use Rattle.archive_model.specs.Sound.{IsIndexedCorrectly}
use Rattle.archive_results.specs.Promise.{DeniesWithdrawnBy}
use Rattle.archive_pages.specs.Laws.{IsHiddenInReplies, StaysAsIfItNeverCame}
use Rattle.archive_args.specs.Values.{StoreCommandValues, withdraw}
use Rattle.archive_args.specs.declared.orders.Order.{Order}
use Rattle.archive_args.specs.declared.orders.Order.TheVariants.{Sift, Table, Import, Get, Export, Check, Serve}
use Rattle.archive_commands.specs.Commands.{answer_to, command_outcome}
use Rattle.archive_commands.specs.declared.commands.Answer.{Answer}
use Rattle.archive_listen.specs.declared.connections.BoundListener.{BoundListener}
use Rattle.archive_port.specs.Remembering.{ClosedDatabaseHoldsArchive, OpenedStoreHoldsArchive, UnopenedDatabaseHoldsArchive}
use Rattle.archive_run.specs.Environments.{DeviceContracts}
use Rattle.archive_run.specs.declared.world.Environment.{Environment}
use Rattle.archive_life.specs.Histories.{CarriesOutOrdered, DatabaseRun, Ending, DoesWithdrawal, FollowsFrom, IsHistory, printed, cut_off}
use Rattle.archive_life.specs.Sequences.{FindsAfterRun, IsRecordedAs, ProgramRunsHaveHistory, NoRunRestores, RunInTurn, WithdrawalStaysAfterRestarts, state_withdrawn_by, withdrawal_values}
use Rattle.archive_life.specs.Restarts.{AnswersFrom, IsTrustedRun, ProgramRun, RunEnds, commands_of_order}
use Rattle.archive_life.proofs.HistoryLemmas.{is_history, outlasts}
use Rattle.archive_life.proofs.PartLemmas.{HasTwo, all_before, all_after, all_zipped, of_orders, two}
use Rattle.archive_life.proofs.RestartLemmas.{answers_found, leaves_archive}

-- ---- a withdrawal that was answered

-- the only reply that has a word is that it was done
told_done : (list key : List ℕ) (by : WithdrawnBy) (reply : CommandReply) (answer : Answer) → answer_to (withdraw list key by) reply ≡ Some answer → reply ≡ machine.done
told_done list key by machine.done answer told = refl
told_done list key by (machine.was_there before) answer told = cc
told_done list key by machine.taken_in answer told = cc
told_done list key by machine.already_known answer told = cc
told_done list key by (machine.refused why) answer told = cc

with_valid_key : (valid : Bool) (list key : List ℕ) (by : WithdrawnBy) (a : Archive) (command : Command) (answer : Answer)
    → answer_to (withdraw list key by) (if valid then step a command else refuse a no_message).1 ≡ Some answer → (valid ≡ true) × ((step a command).1 ≡ machine.done)
with_valid_key true list key by a command answer told = (refl, told_done list key by (step a command).1 answer told)
with_valid_key false list key by a command answer told = absurd (cc)

number_is : (by : WithdrawnBy) → withdrawn_by_number by ≡ withdrawal_number (state_withdrawn_by by)
number_is Author = refl
number_is Board = refl

is_withdrawn : (by : WithdrawnBy) → state_withdrawn_by by ≢ No
is_withdrawn Author = λ same. cc
is_withdrawn Board = λ same. cc

only_command : (valid : Bool) (command : Command) → valid ≡ true → (if valid then command ∷ [] else []) ≡ command ∷ []
only_command true command is = refl
only_command false command is = absurd (cc)

-- the withdrawal of a message whose word was printed
pub withdrawal_done : (list key : List ℕ) (by : WithdrawnBy) (archive : Archive) (answer : Answer)
    → answer_to (withdraw list key by) (command_outcome archive (withdraw list key by)).1 ≡ Some answer
    → DoesWithdrawal archive (if is_key key then machine.withdraw list key (withdrawn_by_number by) ∷ [] else []) list key (state_withdrawn_by by)
withdrawal_done list key by archive answer told =
    let command = machine.withdraw list key (withdrawn_by_number by) in
    let did = with_valid_key (is_key key) list key by archive command answer told in
    record {
      is_withdrawal = only_command (is_key key) command did.0 ∙ ap (λ n. machine.withdraw list key n ∷ []) (number_is by);
      is_done = subst (λ n. (step archive (machine.withdraw list key n)).1 ≡ machine.done) (number_is by) did.1;
    }

some_carried_out : (ending : Ending) (ordered : List Command) → (carried_out : List Command) × CarriesOutOrdered ending ordered carried_out
some_carried_out printed ordered = (ordered, refl)
some_carried_out cut_off ordered = ([], (ordered, refl))

table_is : (a b : StoreCommandValues) → Table a ≡ Table b → a ≡ b
table_is a b same = cc

module _ {Y S F D C P T R O E W I L K A B M : Type 0} (dev : DeviceContracts S W F I D C P L T R O E) where
  -- the word of a command that printed
  word_of : (old new : Environment Y S F D C P T R O E W I L K A B M) (ending : Ending) (order : Order) (ends : RunEnds dev old new ending order) (archive : Archive)
      → AnswersFrom dev old new ending order ends archive → (values : StoreCommandValues) → ending ≡ printed → order ≡ Table values
      → (answer : Answer) × (answer_to values.command (command_outcome archive values.command).1 ≡ Some answer)
  word_of old new printed (Table order) ends archive it values is same =
      (ends.runs_on_archive.0, subst (λ (v : StoreCommandValues). answer_to v.command (command_outcome archive v.command).1 ≡ Some ends.runs_on_archive.0) (table_is order values same) it)
  word_of old new printed (Sift order) ends archive it values is same = absurd (cc)
  word_of old new printed (Import order) ends archive it values is same = absurd (cc)
  word_of old new printed (Get order) ends archive it values is same = absurd (cc)
  word_of old new printed (Export order) ends archive it values is same = absurd (cc)
  word_of old new printed (Check order) ends archive it values is same = absurd (cc)
  word_of old new printed (Serve order) ends archive it values is same = absurd (cc)
  word_of old new cut_off order ends archive it values is same = absurd (cc)

  -- a run that printed `withdrawn` is one that withdrew the message
  withdraws : (file list key : List ℕ) (by : WithdrawnBy) (r : ProgramRun Y K A B M dev) (seen : DatabaseRun) → IsRecordedAs dev file r seen
      → CarriesOutOrdered seen.ending seen.ordered seen.carried_out → r.ending ≡ printed → r.order ≡ Table (withdrawal_values file list key by)
      → DoesWithdrawal seen.found seen.carried_out list key (state_withdrawn_by by)
  withdraws file list key by r seen it carries ended given =
      let word = word_of r.old r.new r.ending r.order r.ends seen.found it.answers_from_found (withdrawal_values file list key by) ended given in
      let all : seen.carried_out ≡ seen.ordered = subst (λ e. CarriesOutOrdered e seen.ordered seen.carried_out) (it.ending_is ∙ ended) carries in
      subst (λ commands. DoesWithdrawal seen.found commands list key (state_withdrawn_by by)) (sym (all ∙ it.ordered_is ∙ ap (commands_of_order r.mbox) given))
      (withdrawal_done list key by seen.found word.0 word.1)

  -- what the later of two runs finds, of which the first printed `withdrawn`
  stays_withdrawn : StaysAsIfItNeverCame → (file list key : List ℕ) (by : WithdrawnBy) (between : List (ProgramRun Y K A B M dev)) (withdrawal later : ProgramRun Y K A B M dev)
      (first : Archive) (all : List DatabaseRun) → IsHistory first all → HasTwo (IsRecordedAs dev file) withdrawal later between all
      → withdrawal.ending ≡ printed → withdrawal.order ≡ Table (withdrawal_values file list key by) → NoRunRestores dev list key between
      → (archive : Archive) × IsHiddenInReplies (DeniesWithdrawnBy (state_withdrawn_by by)) archive list key
      × dev.databases.holds later.old.databases file archive × AnswersFrom dev later.old later.new later.ending later.order later.ends archive
  stays_withdrawn stays file list key by between withdrawal later first all all_history at ended given none =
      let history : IsHistory first (at.before_first ++ at.first ∷ (at.in_between ++ at.second ∷ at.after_second)) = subst (IsHistory first) at.parts all_history in
      let CarriesOut = λ (r : DatabaseRun). CarriesOutOrdered r.ending r.ordered r.carried_out in
      let each = all_after CarriesOut at.before_first (at.first ∷ (at.in_between ++ at.second ∷ at.after_second)) history.each_carries_out in
      let none_ordered : AllByRecursion (λ r. NoCommandSatisfies (ends_withdrawal list key) r.ordered) at.in_between =
      all_zipped (IsRecordedAs dev file) (λ r. NoCommandSatisfies (ends_withdrawal list key) (commands_of_order r.mbox r.order)) (λ r. NoCommandSatisfies (ends_withdrawal list key) r.ordered)
      (λ r seen recorded no. subst (NoCommandSatisfies (ends_withdrawal list key)) (sym recorded.ordered_is) no) between at.in_between at.between_go none in (
        at.second.found,
        outlasts stays first at.before_first at.in_between at.after_second at.first at.second list key (state_withdrawn_by by) history (is_withdrawn by)
            (withdraws file list key by withdrawal at.first at.first_goes each.0 ended given)
            (of_orders (λ command. ends_withdrawal list key command ≡ false) at.in_between (all_before CarriesOut at.in_between (at.second ∷ at.after_second) each.1) none_ordered),
        at.second_goes.holds_found,
        at.second_goes.answers_from_found,
      )

  module _ (opens : OpenedStoreHoldsArchive dev.archive dev.databases) (closes : ClosedDatabaseHoldsArchive dev.archive dev.databases)
      (unopened : UnopenedDatabaseHoldsArchive dev.databases)
      (listens_none : (before after : P) (port : ℕ) (listening : BoundListener L) → dev.listens before after port (Ok listening)
      → (dev.went after ≡ dev.went before) × (dev.over listening.listener ≡ []))
      (keeps_index : (a : Archive) (commands : List Command) → IsIndexedCorrectly a → IsIndexedCorrectly (run a commands).archive) (file : List ℕ) where
    abbrev seen_as : ProgramRun Y K A B M dev → Archive → List Command → DatabaseRun
    seen_as r archive carried_out = record { found = archive; ordered = commands_of_order r.mbox r.order; carried_out = carried_out; ending = r.ending }

    recorded : (r : ProgramRun Y K A B M dev) (archive : Archive) (carried_out : List Command) → dev.databases.holds r.old.databases file archive
        → IsIndexedCorrectly archive → IsTrustedRun dev file r → IsRecordedAs dev file r (seen_as r archive carried_out)
    recorded r archive carried_out held right trusted = record {
      ending_is = refl;
      ordered_is = refl;
      holds_found = held;
      answers_from_found = answers_found dev opens closes unopened listens_none r.old r.new archive file r.ending r.order r.ends trusted.is_over_database held right trusted.store_is_sound
          trusted.store_was_sound;
    }

    from_run : (archive : Archive) (r : ProgramRun Y K A B M dev) (runs : List (ProgramRun Y K A B M dev))
        → dev.databases.holds r.old.databases file archive → IsIndexedCorrectly archive → IsTrustedRun dev file r
        → RunInTurn dev file (FindsAfterRun dev file r) runs
        → (history : List DatabaseRun) × FollowsFrom archive history × AllZip (IsRecordedAs dev file) (r ∷ runs) history
    from_run archive r [] held right trusted later =
        let some = some_carried_out r.ending (commands_of_order r.mbox r.order) in
        (seen_as r archive some.0 ∷ [], (refl, some.1, tt), (recorded r archive some.0 held right trusted, tt))
    from_run archive r (next ∷ runs) held right trusted (finds, next_trusted, later) =
        let left = leaves_archive dev opens closes unopened r.old r.new archive (dev.databases.holds next.old.databases file) file r.ending r.order r.mbox r.ends trusted.is_over_database
        held right trusted.store_is_sound trusted.server_stays_open trusted.mbox_is_read finds in
        let rest = from_run (run archive left.0).archive next runs left.2 (keeps_index archive left.0 right) next_trusted later in
        (seen_as r archive left.0 ∷ rest.0, (refl, left.1, rest.1), (recorded r archive left.0 held right trusted, rest.2))

  module _ (opens : OpenedStoreHoldsArchive dev.archive dev.databases) (closes : ClosedDatabaseHoldsArchive dev.archive dev.databases)
      (unopened : UnopenedDatabaseHoldsArchive dev.databases)
      (listens_none : (before after : P) (port : ℕ) (listening : BoundListener L) → dev.listens before after port (Ok listening)
      → (dev.went after ≡ dev.went before) × (dev.over listening.listener ≡ []))
      (keeps_index : (a : Archive) (commands : List Command) → IsIndexedCorrectly a → IsIndexedCorrectly (run a commands).archive)
      (first_environment : Environment Y S F D C P T R O E W I L K A B M) where
    pub has_history : ProgramRunsHaveHistory dev first_environment
    has_history file first [] all = ([], is_history first [] tt, tt)
    has_history file first (r ∷ runs) all =
        let it = from_run opens closes unopened listens_none keeps_index file first r runs (all.runs_in_turn.0 first all.holds_first) all.is_indexed_correctly
        all.runs_in_turn.1 all.runs_in_turn.2 in
        (it.0, is_history first it.0 it.1, it.2)

    -- the history of runs of which one printed `withdrawn`
    pub withdrawal_lasts : StaysAsIfItNeverCame → WithdrawalStaysAfterRestarts dev first_environment
    withdrawal_lasts stays file first before between after withdrawal later list key by runs ended given none =
        let it = has_history file first (before ++ withdrawal ∷ (between ++ later ∷ after)) runs in
        stays_withdrawn stays file list key by between withdrawal later first it.0 it.1
        (two (IsRecordedAs dev file) before between after withdrawal later it.0 it.2) ended given none
