-- Runs of the program over one database, one after the other: which archive each found in it, and which commands each carried out.
use Rattle.std.specs.Prelude.{◌≡◌, ◌≢◌, ℕ, List, [], ◌∷◌, ◌++◌, ⊤}
use Rattle.std.specs.List.{AllByRecursion, flat_map}
use Rattle.mbox_stream.specs.Stream.{IsBeginning}
use Rattle.policy_core.specs.declared.access.Withdrawn.{Withdrawn}
use Rattle.policy_core.specs.declared.access.Withdrawn.TheVariants.{No}
use Rattle.archive_model.specs.Records.{Archive}
use Rattle.archive_model.specs.Commands.{Command, withdraw, done}
use Rattle.archive_model.specs.Lasting.{NoCommandSatisfies, ends_withdrawal}
use Rattle.archive_model.specs.Machine.{step}
use Rattle.archive_model.specs.Messages.{withdrawal_number}
use Rattle.archive_model.specs.Runs.{run}
use Rattle.archive_results.specs.Promise.{DeniesWithdrawnBy}
use Rattle.archive_pages.specs.Laws.{IsHiddenInReplies}

-- ---- runs

-- How a run ended: it printed its word, with status 0; or it was refused, killed, or cut off at some moment.
pub data Ending : Type 0 where
  printed : Ending
  cut_off : Ending

-- One run: the archive that it found in the database, the commands of the machine that its order means, those of them that it carried
-- out, and how it ended.
pub record DatabaseRun : Type 0 where
  pub found : Archive
  pub ordered : List Command
  pub carried_out : List Command
  pub ending : Ending

-- A run that printed its word carried out all commands of its order, each once and in their order. Any other run carried out some first
-- ones, or none.
abbrev pub CarriesOutOrdered : Ending → (ordered carried_out : List Command) → Type 0
CarriesOutOrdered printed ordered carried_out = carried_out ≡ ordered
CarriesOutOrdered cut_off ordered carried_out = IsBeginning carried_out ordered

-- A run that found this archive and ended so carried out some commands of its order, and the next run finds the archive that the machine
-- makes by them.
abbrev pub LeavesCarriedOut : (NextHolds : Archive → Type 0) → Ending → (ordered : List Command) → Archive → Type 0
LeavesCarriedOut NextHolds ending ordered archive =
    (carried_out : List Command) × CarriesOutOrdered ending ordered carried_out × NextHolds (run archive carried_out).archive

-- what some runs carried out, one after the other
abbrev pub commands_carried_out : List DatabaseRun → List Command
commands_carried_out = flat_map (λ r. r.carried_out)

-- The first run found this archive, and each later one the archive that the run before it left by what it carried out of its order.
abbrev pub FollowsFrom : Archive → List DatabaseRun → Type 0
FollowsFrom archive [] = ⊤
FollowsFrom archive (r ∷ runs) = (r.found ≡ archive) × CarriesOutOrdered r.ending r.ordered r.carried_out × FollowsFrom (run archive r.carried_out).archive runs

-- Each run carried out commands of its own order. It found the archive that the machine makes from the first one, by all commands that
-- the runs before it carried out.
pub record IsHistory (first : Archive) (runs : List DatabaseRun) : Type 0 where
  pub each_carries_out : AllByRecursion (λ r. CarriesOutOrdered r.ending r.ordered r.carried_out) runs
  pub each_finds : (before after : List DatabaseRun) (r : DatabaseRun) → runs ≡ before ++ r ∷ after
      → r.found ≡ (run first (commands_carried_out before)).archive

-- If each run found what the one before it left, the runs have a history.
abbrev pub RunsHaveHistory : Type 0
RunsHaveHistory = (first : Archive) (runs : List DatabaseRun) → FollowsFrom first runs → IsHistory first runs

-- ---- what an author is promised

-- These commands are one withdrawal of the message of this list and key, for this party, and the machine answers that it is done in this
-- archive.
pub record DoesWithdrawal (archive : Archive) (commands : List Command) (list key : List ℕ) (by : Withdrawn) : Type 0 where
  pub is_withdrawal : commands ≡ withdraw list key (withdrawal_number by) ∷ []
  pub is_done : (step archive (withdraw list key (withdrawal_number by))).1 ≡ done

-- After a run that withdrew a message, each later run finds an archive whose replies, to readers who did not write it and to whom the
-- policy denies what this party withdrew, are as if the message had never come, until a run restores it.
abbrev pub WithdrawalStaysInLaterRuns : Type 0
WithdrawalStaysInLaterRuns = (first : Archive) (before between after : List DatabaseRun) (withdrawal later : DatabaseRun) (list key : List ℕ) (by : Withdrawn)
    → IsHistory first (before ++ withdrawal ∷ (between ++ later ∷ after)) → by ≢ No → DoesWithdrawal withdrawal.found withdrawal.carried_out list key by
    → NoCommandSatisfies (ends_withdrawal list key) (commands_carried_out between) → IsHiddenInReplies (DeniesWithdrawnBy by) later.found list key
