-- An import, a withdrawal behind it, and two requests behind that.
use Rattle.std.specs.Prelude.{◌≡◌, ℕ, ℤ, List, Option, None, MatchOption}
use Rattle.archive_port.specs.declared.state.ArchiveState.{Ghosts}
use Rattle.httparse.specs.Grammar.{RequestHead}
use Rattle.byte_device.specs.declared.devices.Sink.{Ghosts as Takes}
use Rattle.byte_device.specs.declared.devices.Source.{Ghosts as Gives}
use Rattle.policy_core.specs.Numbers.{withdrawn_by_number}
use Rattle.policy_core.specs.Rules.{Rule}
use Rattle.policy_core.specs.declared.access.WithdrawnBy.{WithdrawnBy}
use Rattle.policy_core.specs.declared.access.WithdrawnBy.TheVariants.{Author, Board}
use Rattle.policy_core.specs.declared.access.Standing.TheVariants.{Public}
use Rattle.policy_core.specs.declared.access.Withdrawn.{Withdrawn}
use Rattle.policy_core.specs.declared.access.Withdrawn.TheVariants as marks
use Rattle.archive_model.specs.Records.{Archive}
use Rattle.archive_model.specs.Commands.{Command, withdraw, done, refused}
use Rattle.archive_model.specs.Machine.{step}
use Rattle.archive_port.specs.Replies.{refusal_of_fault}
use Rattle.archive_port.specs.Told.{RelatesReadyArchives, RelatesReadyArchivesIfOpen}
use Rattle.archive_port.specs.Wanting.{IsMemoryRefusal}
use Rattle.archive_results.specs.Promise.{DeniesWithdrawnBy, without_message}
use Rattle.archive_desk.specs.Importing.{IsImported, IsImportStoreMemoryRefusal, IsRefusedImport, IsBrokenImport, import_stop_reason}
use Rattle.archive_desk.specs.declared.importing.Report.{Report}
use Rattle.archive_requests.specs.Requests.{asks, request_of}
use Rattle.archive_pages.specs.Answers.{ask_of_reader, reply_of}
use Rattle.archive_pages.specs.Calls.{AnswersClient, EndsAnswer}
use Rattle.archive_pages.specs.Causes.{IsInputDataUnreadable, ServesOr503}
use Rattle.archive_pages.specs.Laws.{AsksForNoMessage}
use Rattle.archive_pages.specs.declared.pages.Client.{Client}
use Rattle.example_reopened.specs.declared.withdrawing.Withdrawal.{Withdrawal}
use Rattle.example_reopened.specs.declared.withdrawing.WithdrawError.{WithdrawError}
use Rattle.example_reopened.specs.declared.withdrawing.WithdrawError.TheVariants.{Import as NotImported, Withdraw as NotWithdrawn}
use Rattle.example_reopened.specs.declared.withdrawing.TwoAnswers.{TwoAnswers}

-- ---- what the public is told

-- who withdrew a message, as the policy is told
abbrev pub withdrawn_state_by : WithdrawnBy → Withdrawn
withdrawn_state_by Author = marks.Author
withdrawn_state_by Board = marks.Board

-- a request without a token, for anything but one message by its key
pub record IsAnonymousListRequest (head : RequestHead) : Type 0 where
  pub has_no_token : (token : Option (List ℕ)) (path : List ℕ) → request_of head ≡ asks token path → token ≡ None
  pub asks_for_no_message : AsksForNoMessage head

-- On this day the policy denies who has no token each message that this party withdrew, on every list.
abbrev pub DeniesWithdrawnToPublic : WithdrawnBy → List Rule → (day : ℤ) → Type 0
DeniesWithdrawnToPublic by rules day = (list : List ℕ) → DeniesWithdrawnBy (withdrawn_state_by by) (ask_of_reader rules day None list) (record { standing = Public; address = None })

-- ---- the archive

-- the command of a withdrawal
abbrev pub withdraw_command_of : Withdrawal → Command
withdraw_command_of it = withdraw it.list.now it.key.now (withdrawn_by_number it.by)

-- The messages of a file were added to a list, as the report says, and one message of the list was withdrawn. In the pages, the
-- listings and the mbox that the public is sent it leaves no trace, where the policy denies it: they are those of the archive in
-- which it never came.
pub record ImportsAndWithdraws (it : Withdrawal) (before after : Archive) (report : Report) : Type 0 where
  pub imported : Archive
  pub is_imported : IsImported it.list.now it.mbox.now before imported report
  pub withdraws : (after, done) ≡ step imported (withdraw_command_of it)
  pub replies_hide_message : (rules : List Rule) (day : ℤ) (head : RequestHead) → IsAnonymousListRequest head → DeniesWithdrawnToPublic it.by rules day
      → reply_of after rules day head ≡ reply_of (without_message imported it.list.now it.key.now) rules day head

-- E14
abbrev pub IsWithdrawOutOfMemory : WithdrawError → Type 0
IsWithdrawOutOfMemory (NotImported stop) = IsImportStoreMemoryRefusal stop.fault
IsWithdrawOutOfMemory (NotWithdrawn report fault) = IsMemoryRefusal fault

module _ {S W : Type 0} (g : Ghosts S W) (old new : S) (it : Withdrawal) where
  -- The import stopped, for its own reasons; or all messages were added, and the machine refuses the withdrawal, or memory or the
  -- database was at fault.
  abbrev pub IsWithdrawError : WithdrawError → Type 0
  IsWithdrawError (NotImported stop) = MatchOption (import_stop_reason stop)
      (RelatesReadyArchivesIfOpen g old new (λ a b. IsBrokenImport it.list.now it.mbox.now a b stop.done stop.fault))
      (λ why. RelatesReadyArchives g old new (λ a b. IsRefusedImport it.list.now it.mbox.now a b why.0 why.1))
  IsWithdrawError (NotWithdrawn report fault) = MatchOption (refusal_of_fault fault)
      (RelatesReadyArchivesIfOpen g old new (λ a b. IsImported it.list.now it.mbox.now a b report))
      (λ why. RelatesReadyArchives g old new (λ a c. (b : Archive) × IsImported it.list.now it.mbox.now a b report × ((c, refused why) ≡ step b (withdraw_command_of it))))

-- ---- two requests

module _ {R W : Type 0} (gives : Gives R) (takes : Takes W) where
  -- How two answers end, the second from the store that the first left: what each leaves of the store, that no direction failed where a
  -- reply went out, and the cause of each fault, of 503 and of S3. The replies go by these rules, on this day.
  pub record EndsTwoAnswers {S K : Type 0} (g : Ghosts S K) (rules : List Rule) (day : ℤ) (old new : S) (first first' second second' : Client R W) (answered : TwoAnswers) : Type 0 where
    pub store_between : S
    pub first_ends : EndsAnswer g gives takes old store_between first.input first'.input first.output first'.output answered.first
    pub first_error_cause : ServesOr503 g old store_between answered.first (IsInputDataUnreadable (gives.told first.input) (gives.told first'.input) rules day)
    pub second_ends : EndsAnswer g gives takes store_between new second.input second'.input second.output second'.output answered.second
    pub second_error_cause : ServesOr503 g store_between new answered.second (IsInputDataUnreadable (gives.told second.input) (gives.told second'.input) rules day)

  -- How two answers behind a withdrawal end: the store that the withdrawal left, and what `EndsTwoAnswers` says of the answers from there on.
  pub record EndsAnswersAfterWithdrawal {S K : Type 0} (g : Ghosts S K) (rules : List Rule) (day : ℤ) (old new : S) (it : Withdrawal) (first first' second second' : Client R W)
      (report : Report) (answered : TwoAnswers) : Type 0 where
    pub found : S
    pub withdrawn : RelatesReadyArchives g old found (λ a b. ImportsAndWithdraws it a b report)
    pub ends : EndsTwoAnswers g rules day found new first first' second second' answered

  -- Two peers that asked behind a withdrawal: what each was sent is the reply of the definition, out of the archive that the import and
  -- the withdrawal made, by these rules and on this day, or 503.
  pub record AnswersAfterWithdrawal (it : Withdrawal) (rules : List Rule) (day : ℤ) (before : Archive) (first first' second second' : Client R W)
      (report : Report) (answered : TwoAnswers) : Type 0 where
    pub archive : Archive
    pub made : ImportsAndWithdraws it before archive report
    pub first_sent : AnswersClient gives takes archive rules day first first' answered.first
    pub second_sent : AnswersClient gives takes archive rules day second second' answered.second
