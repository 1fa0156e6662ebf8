-- Runs of the program over one database, whatever their orders are, one after the other, each ended at any moment.
use Rattle.std.specs.Prelude.{◌≡◌, ℕ, List, [], ◌∷◌, ◌++◌, ⊤}
use Rattle.std.specs.List.{AllByRecursion, AllZip}
use Rattle.policy_core.specs.declared.access.Withdrawn.{Withdrawn}
use Rattle.policy_core.specs.declared.access.Withdrawn.TheVariants as state
use Rattle.policy_core.specs.declared.access.WithdrawnBy.{WithdrawnBy}
use Rattle.policy_core.specs.declared.access.WithdrawnBy.TheVariants.{Author, Board}
use Rattle.archive_model.specs.Records.{Archive}
use Rattle.archive_model.specs.Lasting.{NoCommandSatisfies, ends_withdrawal}
use Rattle.archive_model.specs.Sound.{IsIndexedCorrectly}
use Rattle.archive_results.specs.Promise.{DeniesWithdrawnBy}
use Rattle.archive_pages.specs.Laws.{IsHiddenInReplies}
use Rattle.archive_args.specs.Values.{StoreCommandValues, withdraw}
use Rattle.archive_args.specs.declared.orders.Order.{Order}
use Rattle.archive_args.specs.declared.orders.Order.TheVariants.{Table}
use Rattle.archive_run.specs.Environments.{DeviceContracts}
use Rattle.archive_run.specs.declared.world.Environment.{Environment}
use Rattle.archive_life.specs.Histories.{DatabaseRun, DoesWithdrawal, Ending, IsHistory, LeavesCarriedOut, printed}
use Rattle.archive_life.specs.Restarts.{ProgramRun, AnswersFrom, FindsAfter, FindsHeld, IsTrustedRun, RunEnds, commands_of_order, store_of_run}

-- the withdrawal of a message of this list and key, for this party, from the database of this name
abbrev pub withdrawal_values : (file list key : List ℕ) → WithdrawnBy → StoreCommandValues
withdrawal_values file list key by = record { file = file; command = withdraw list key by }

-- by whom the message is withdrawn then
abbrev pub state_withdrawn_by : WithdrawnBy → Withdrawn
state_withdrawn_by Author = state.Author
state_withdrawn_by Board = state.Board

module _ {Y S F D C P T R O E W I L K A B M : Type 0} (dev : DeviceContracts S W F I D C P L T R O E) where
  -- what the next run finds after it
  abbrev pub FindsAfterRun : (file : List ℕ) → ProgramRun Y K A B M dev → (NextHolds : Archive → Type 0) → Type 0
  FindsAfterRun file r NextHolds = FindsAfter dev file NextHolds r.new.databases r.ending (store_of_run dev r.old r.new r.ending r.order r.ends)

  -- ---- one run, and the next, which may be over devices of other kinds

  module _ (old new : Environment Y S F D C P T R O E W I L K A B M) where
    abbrev pub run_between : (order : Order) (mbox : List ℕ) (ending : Ending) → RunEnds dev old new ending order → ProgramRun Y K A B M dev
    run_between order mbox ending ends = record { old = old; new = new; order = order; mbox = mbox; ending = ending; ends = ends }

    -- The next run finds the archive that the machine makes of the one that this run found: by all commands of the order if the run printed
    -- its word, and else by some first ones, or none.
    abbrev pub RunLeavesCarriedOut : (NextHolds : (file : List ℕ) → Archive → Type 0) → Type 0
    RunLeavesCarriedOut NextHolds = (file : List ℕ) (archive : Archive) (order : Order) (mbox : List ℕ) (ending : Ending) (ends : RunEnds dev old new ending order)
        → dev.databases.holds old.databases file archive → IsIndexedCorrectly archive → IsTrustedRun dev file (run_between order mbox ending ends)
        → FindsAfterRun file (run_between order mbox ending ends) (NextHolds file)
        → LeavesCarriedOut (NextHolds file) ending (commands_of_order mbox order) archive

    -- What it printed, and what it sent to each peer, is of the archive that it found.
    abbrev pub RunAnswersFromFound : Type 0
    RunAnswersFromFound = (file : List ℕ) (archive : Archive) (order : Order) (mbox : List ℕ) (ending : Ending) (ends : RunEnds dev old new ending order)
        → dev.databases.holds old.databases file archive → IsIndexedCorrectly archive → IsTrustedRun dev file (run_between order mbox ending ends)
        → AnswersFrom dev old new ending order ends archive

    -- If it printed `withdrawn`, its order means the withdrawal, and the machine does it in the archive that the run found.
    abbrev pub PrintedWithdrawalIsDone : Type 0
    PrintedWithdrawalIsDone = (file list key : List ℕ) (by : WithdrawnBy) (mbox : List ℕ) (archive : Archive)
        (ends : RunEnds dev old new printed (Table (withdrawal_values file list key by)))
        → AnswersFrom dev old new printed (Table (withdrawal_values file list key by)) ends archive
        → DoesWithdrawal archive (commands_of_order mbox (Table (withdrawal_values file list key by))) list key (state_withdrawn_by by)

  -- ---- many runs over devices of one kind

  -- Each run is trusted, and finds what the one before it left. The first finds this.
  abbrev pub RunInTurn : (file : List ℕ) → (Finds : (NextHolds : Archive → Type 0) → Type 0) → List (ProgramRun Y K A B M dev) → Type 0
  RunInTurn file Finds [] = ⊤
  RunInTurn file Finds (r ∷ runs) = Finds (dev.databases.holds r.old.databases file) × IsTrustedRun dev file r × RunInTurn file (FindsAfterRun file r) runs

  -- At first the databases of this environment held an archive under the name, whose index columns say what the texts say, as in the empty
  -- archive and in each that commands make of it. Then the runs came.
  pub record IsRunSequence (first_environment : Environment Y S F D C P T R O E W I L K A B M) (file : List ℕ) (first : Archive) (runs : List (ProgramRun Y K A B M dev)) : Type 0 where
    pub holds_first : dev.databases.holds first_environment.databases file first
    pub is_indexed_correctly : IsIndexedCorrectly first
    pub runs_in_turn : RunInTurn file (λ NextHolds. FindsHeld dev file NextHolds first_environment.databases) runs

  -- The run ended so, its order means these commands, its database held this archive, and what it printed, or sent to each peer, is of this
  -- archive.
  pub record IsRecordedAs (file : List ℕ) (r : ProgramRun Y K A B M dev) (seen : DatabaseRun) : Type 0 where
    pub ending_is : seen.ending ≡ r.ending
    pub ordered_is : seen.ordered ≡ commands_of_order r.mbox r.order
    pub holds_found : dev.databases.holds r.old.databases file seen.found
    pub answers_from_found : AnswersFrom dev r.old r.new r.ending r.order r.ends seen.found

  -- Whatever the orders were, and wherever each was cut off, the runs have a history. Each found the archive that the machine makes, in
  -- their order, by all commands of the runs before it that printed their word, and by some first commands of those that did not. What it
  -- printed, or sent to each peer, is of that archive.
  abbrev pub ProgramRunsHaveHistory : Environment Y S F D C P T R O E W I L K A B M → Type 0
  ProgramRunsHaveHistory first_environment = (file : List ℕ) (first : Archive) (runs : List (ProgramRun Y K A B M dev)) → IsRunSequence first_environment file first runs
      → (history : List DatabaseRun) × IsHistory first history × AllZip (IsRecordedAs file) runs history

  -- no order of these runs restores the message, not even one that was cut off
  abbrev pub NoRunRestores : (list key : List ℕ) → List (ProgramRun Y K A B M dev) → Type 0
  NoRunRestores list key runs = AllByRecursion (λ r. NoCommandSatisfies (ends_withdrawal list key) (commands_of_order r.mbox r.order)) runs

  -- Once a run has printed `withdrawn`, each later run finds an archive whose replies, to readers who did not write the message and to whom
  -- the policy denies what this party withdrew, are as if the message had never come. What it prints, or sends to each peer, is of that
  -- archive. This lasts over every crash and restart, until an order restores the message.
  abbrev pub WithdrawalStaysAfterRestarts : Environment Y S F D C P T R O E W I L K A B M → Type 0
  WithdrawalStaysAfterRestarts first_environment = (file : List ℕ) (first : Archive) (before between after : List (ProgramRun Y K A B M dev))
      (withdrawal later : ProgramRun Y K A B M dev) (list key : List ℕ) (by : WithdrawnBy)
      → IsRunSequence first_environment file first (before ++ withdrawal ∷ (between ++ later ∷ after))
      → withdrawal.ending ≡ printed → withdrawal.order ≡ Table (withdrawal_values file list key by) → NoRunRestores list key between
      → (archive : Archive) × IsHiddenInReplies (DeniesWithdrawnBy (state_withdrawn_by by)) archive list key
      × dev.databases.holds later.old.databases file archive × AnswersFrom dev later.old later.new later.ending later.order later.ends archive
