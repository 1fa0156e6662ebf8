-- A withdrawal behind an import, and requests behind it.
use Rattle.std.proofs.Common.{◌≡◌, ◌≢◌, ◌∙◌, ℕ, ℤ, true, false, List, [], ◌∷◌, Option, Some, None, refl, sym, ap, subst}
use Rattle.std.specs.Prelude.{MatchOption, option_map}
use Rattle.std.specs.List.{All}
use Rattle.std.proofs.lemmas.List.Elements.{All-nil, All-cons}
use Rattle.httparse.specs.Grammar.{RequestHead}
use Rattle.archive_port.specs.declared.state.ArchiveState.{Ghosts}
use Rattle.policy_core.specs.Numbers.{withdrawn_by_number}
use Rattle.policy_core.specs.Rules.{Rule}
use Rattle.policy_core.specs.declared.access.WithdrawnBy.{WithdrawnBy}
use Rattle.policy_core.specs.declared.access.WithdrawnBy.TheVariants.{Author, Board}
use Rattle.policy_core.specs.declared.access.Withdrawn.TheVariants.{No}
use Rattle.archive_model.specs.Records.{Archive, Message}
use Rattle.archive_model.specs.Commands.{Refusal, withdraw, done, refused}
use Rattle.archive_model.specs.Machine.{StepOutcome, step}
use Rattle.archive_model.specs.Messages.{withdrawal_number}
use Rattle.archive_model.specs.Questions.{is_message_at_key}
use Rattle.archive_port.specs.Told.{PerformsModelStep, RelatesReadyArchives, RelatesReadyArchivesIfOpen, StaysOpenUnlessDiskFails}
use Rattle.archive_port.specs.Replies.{refusal_of_fault}
use Rattle.archive_port.specs.declared.faults.StoreFault.{StoreFault}
use Rattle.archive_port.proofs.Joins.{goes_as, goes_as_if_open, goes_on, goes_on_if_open, step_failed, stepped}
use Rattle.archive_port.proofs.RightLemmas.{step_right}
use Rattle.archive_results.specs.Access.{is_own_by_address, reader_facts}
use Rattle.archive_results.specs.Promise.{DeniesWithdrawnBy, IsNotOwnMessage, without_message}
use Rattle.archive_desk.specs.Importing.{IsImported}
use Rattle.archive_desk.specs.declared.importing.Report.{Report}
use Rattle.archive_pages.specs.Answers.{ask_of_reader, reader_of, reply_of}
use Rattle.archive_pages.specs.Laws.{IsAsIfItNeverCame, IsAskedByOthers}
use Rattle.example_reopened.specs.Withdrawing.{IsAnonymousListRequest, DeniesWithdrawnToPublic, IsWithdrawError, ImportsAndWithdraws, withdrawn_state_by, withdraw_command_of}
use Rattle.example_reopened.specs.declared.withdrawing.Withdrawal.{Withdrawal}
use Rattle.example_reopened.specs.declared.withdrawing.WithdrawError.TheVariants.{Withdraw as NotWithdrawn}

-- ---- no trace in what the public is told

every : {X : Type 0} (P : X → Type 0) → ((x : X) → P x) → (xs : List X) → All P xs
every P each [] = All-nil P
every P each (x ∷ xs) = All-cons P x xs (each x) (every P each xs)

some_is : {X : Type 0} (x y : X) → Some x ≡ Some y → x ≡ y
some_is x y same = cc

-- who has no token is nobody
nobody : (archive : Archive) (token reader : Option (List ℕ)) → token ≡ None → reader_of archive token ≡ Some reader → reader ≡ None
nobody archive token reader none who = some_is reader None (sym who ∙ ap (reader_of archive) none)

module _ (archive : Archive) (rules : List Rule) (day : ℤ) (list key : List ℕ) (by : WithdrawnBy) (denies : DeniesWithdrawnToPublic by rules day) where
  of_nobody : (asked : List ℕ) (reader : Option (List ℕ)) → reader ≡ None
      → IsNotOwnMessage archive (ask_of_reader rules day reader asked) list key
      × DeniesWithdrawnBy (withdrawn_state_by by) (ask_of_reader rules day reader asked) (reader_facts archive (ask_of_reader rules day reader asked))
  of_nobody asked reader none =
      rw none (every (λ (m : Message). is_message_at_key list key m ≡ true → is_own_by_address None m ≡ false) (λ m is. refl) archive.messages, denies asked)

  others : (head : RequestHead) → IsAnonymousListRequest head → IsAskedByOthers (DeniesWithdrawnBy (withdrawn_state_by by)) archive rules day head list key
  others head asker reader route asked asks names =
      of_nobody asked reader (nobody archive asks.token reader (asker.has_no_token asks.token asks.path asks.request_is) asks.reader_is)

party_marked : (by : WithdrawnBy) → (withdrawal_number (withdrawn_state_by by) ≡ withdrawn_by_number by) × (withdrawn_state_by by ≢ No)
party_marked Author = (refl, λ same. absurd (cc))
party_marked Board = (refl, λ same. absurd (cc))

replies_hide_message : IsAsIfItNeverCame → (it : Withdrawal) (imported after : Archive) → (after, done) ≡ step imported (withdraw_command_of it)
    → (rules : List Rule) (day : ℤ) (head : RequestHead) → IsAnonymousListRequest head → DeniesWithdrawnToPublic it.by rules day
    → reply_of after rules day head ≡ reply_of (without_message imported it.list.now it.key.now) rules day head
replies_hide_message promise it imported after is rules day head asker denies =
    let (number, some) = party_marked it.by in
    let whole : (after, done) ≡ step imported (withdraw it.list.now it.key.now (withdrawal_number (withdrawn_state_by it.by))) =
    is ∙ ap (λ n. step imported (withdraw it.list.now it.key.now n)) (sym number) in
    ap (λ (o : StepOutcome). reply_of o.0 rules day head) whole
    ∙ promise imported rules day head it.list.now it.key.now (withdrawn_state_by it.by) some (sym (ap (λ (o : StepOutcome). o.1) whole)) asker.asks_for_no_message
    (others imported rules day it.list.now it.key.now it.by denies head asker)

-- ---- the two commands

module _ {S W : Type 0} (g : Ghosts S W) (old mid new : S) (it : Withdrawal) (report : Report)
    (first : RelatesReadyArchives g old mid (λ a b. IsImported it.list.now it.mbox.now a b report)) (lasts : StaysOpenUnlessDiskFails g mid new) where
  abbrev Imports : Archive → Archive → Type 0
  Imports a b = IsImported it.list.now it.mbox.now a b report

  pub withdrawn : IsAsIfItNeverCame → PerformsModelStep g mid new (λ a. step a (withdraw_command_of it)) (Some done)
      → RelatesReadyArchives g old new (λ a c. ImportsAndWithdraws it a c report)
  withdrawn promise clause =
      goes_as g old new (λ a c. (b : Archive) × Imports a b × ((c, done) ≡ step b (withdraw_command_of it))) (λ a c. ImportsAndWithdraws it a c report)
      (λ a c (b, imported, is). record { imported = b; is_imported = imported; withdraws = is; replies_hide_message = replies_hide_message promise it b c is })
      (goes_on g old mid new Imports (λ b c. (c, done) ≡ step b (withdraw_command_of it)) first
      (stepped g mid new lasts (λ a. step a (withdraw_command_of it)) (Some done) done (step_right (withdraw_command_of it)) refl clause))

  pub not_withdrawn : (fault : StoreFault) → PerformsModelStep g mid new (λ a. step a (withdraw_command_of it)) (option_map refused (refusal_of_fault fault))
      → IsWithdrawError g old new it (NotWithdrawn report fault)
  not_withdrawn fault clause = by_reason (refusal_of_fault fault) refl
    where
      by_reason : (r : Option Refusal) → refusal_of_fault fault ≡ r
          → MatchOption r (RelatesReadyArchivesIfOpen g old new Imports) (λ why. RelatesReadyArchives g old new
          (λ a c. (b : Archive) × Imports a b × ((c, refused why) ≡ step b (withdraw_command_of it))))
      by_reason None is =
          goes_as_if_open g old new (λ a c. (b : Archive) × Imports a b × (c ≡ b)) Imports (λ a c (b, imported, same). subst (λ x. Imports a x) (sym same) imported)
          (goes_on_if_open g old mid new Imports (λ b c. c ≡ b) first
          (step_failed g mid new lasts (λ a. step a (withdraw_command_of it)) (option_map refused (refusal_of_fault fault)) (ap (option_map refused) is) clause))
      by_reason (Some why) is =
          goes_on g old mid new Imports (λ b c. (c, refused why) ≡ step b (withdraw_command_of it)) first
          (stepped g mid new lasts (λ a. step a (withdraw_command_of it)) (option_map refused (refusal_of_fault fault)) (refused why) (step_right (withdraw_command_of it))
          (ap (option_map refused) is) clause)
