-- From runs that follow one another to their history, and what a later run finds after a withdrawal.
use Rattle.std.proofs.Common.{◌≡◌, ◌∙◌, ap, refl, subst, sym, append_assoc, List, [], ◌∷◌, ◌++◌}
use Rattle.std.specs.List.{AllByRecursion}
use Rattle.std.proofs.lemmas.List.Concat.{flat_map-append}
use Rattle.archive_model.specs.Records.{Archive}
use Rattle.archive_model.specs.Commands.{Command, withdraw}
use Rattle.archive_model.specs.Machine.{step}
use Rattle.archive_model.specs.Messages.{withdrawal_number}
use Rattle.archive_model.specs.Runs.{run}
use Rattle.archive_model.proofs.RunLemmas.{archive_of_both}
use Rattle.archive_results.specs.Promise.{DeniesWithdrawnBy}
use Rattle.archive_pages.specs.Laws.{IsHiddenInReplies, StaysAsIfItNeverCame}
use Rattle.archive_life.specs.Histories.{DatabaseRun, CarriesOutOrdered, FollowsFrom, IsHistory, RunsHaveHistory, WithdrawalStaysInLaterRuns, commands_carried_out}

-- ---- a history

at_run : (a : Archive) (before after : List DatabaseRun) (r : DatabaseRun) → FollowsFrom a (before ++ r ∷ after) → r.found ≡ (run a (commands_carried_out before)).archive
unfolding run
at_run a [] after r it = it.0
at_run a (b ∷ before) after r it =
    at_run (run a b.carried_out).archive before after r it.2 ∙ sym (archive_of_both a b.carried_out (commands_carried_out before))

each_of : (a : Archive) (runs : List DatabaseRun) → FollowsFrom a runs → AllByRecursion (λ r. CarriesOutOrdered r.ending r.ordered r.carried_out) runs
each_of a [] it = tt
each_of a (r ∷ runs) it = (it.1, each_of (run a r.carried_out).archive runs it.2)

pub is_history : RunsHaveHistory
is_history a runs it = record {
  each_carries_out = each_of a runs it;
  each_finds = λ before after r same. at_run a before after r (subst (FollowsFrom a) same it);
}

-- ---- a withdrawal

one_command : (a : Archive) (command : Command) → (run a (command ∷ [])).archive ≡ (step a command).0
unfolding run
one_command a command = refl

module _ (first : Archive) (before between after : List DatabaseRun) (withdrawal later : DatabaseRun) (command : Command)
    (history : IsHistory first (before ++ withdrawal ∷ (between ++ later ∷ after))) (only : withdrawal.carried_out ≡ command ∷ []) where
  -- what a later run finds is what the runs in between made of the archive after the withdrawal
  pub finds_after : later.found ≡ (run (step withdrawal.found command).0 (commands_carried_out between)).archive
  finds_after =
      let cut : before ++ withdrawal ∷ (between ++ later ∷ after) ≡ (before ++ withdrawal ∷ between) ++ later ∷ after =
      sym (append_assoc before (withdrawal ∷ between) (later ∷ after)) in
      let parts : commands_carried_out (before ++ withdrawal ∷ between) ≡ commands_carried_out before ++ (withdrawal.carried_out ++ commands_carried_out between) =
      flat_map-append (λ (r : DatabaseRun). r.carried_out) before (withdrawal ∷ between) in
      let found : withdrawal.found ≡ (run first (commands_carried_out before)).archive = history.each_finds before (between ++ later ∷ after) withdrawal refl in
      let rest = commands_carried_out between in
      history.each_finds (before ++ withdrawal ∷ between) after later cut
      ∙ ap (λ cs. (run first cs).archive) parts
      ∙ archive_of_both first (commands_carried_out before) (withdrawal.carried_out ++ rest)
      ∙ ap (λ a. (run a (withdrawal.carried_out ++ rest)).archive) (sym found)
      ∙ archive_of_both withdrawal.found withdrawal.carried_out rest
      ∙ ap (λ cs. (run (run withdrawal.found cs).archive rest).archive) only
      ∙ ap (λ a. (run a rest).archive) (one_command withdrawal.found command)

pub outlasts : StaysAsIfItNeverCame → WithdrawalStaysInLaterRuns
outlasts stays first before between after withdrawal later list key by history some it none =
    let command = withdraw list key (withdrawal_number by) in
    subst (λ a. IsHiddenInReplies (DeniesWithdrawnBy by) a list key)
    (sym (finds_after first before between after withdrawal later command history it.is_withdrawal))
    (stays withdrawal.found list key by (commands_carried_out between) some it.is_done none)
