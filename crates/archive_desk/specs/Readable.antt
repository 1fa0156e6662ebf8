-- Archives that can be read, as the commands of the code leave them, and calls in which the database has no cause to fail.
use Rattle.std.specs.Prelude.{◌≡◌, ◌≢◌, ◌⊎◌, ⊤, ℕ, ℤ, true, List, Result, IfErr, IsUtf8}
use Rattle.std.specs.List.{All}
use Rattle.std.specs.Option.{IsSomeAnd}
use Rattle.archive_port.specs.declared.state.ArchiveState.{Ghosts}
use Rattle.civil_time.specs.Calendar.{is_day}
use Rattle.mbox_core.specs.Written.{IsItem}
use Rattle.policy_core.specs.declared.access.Standing.{Standing}
use Rattle.archive_model.specs.Records.{Address, Archive, Grant, Person}
use Rattle.archive_model.specs.Commands.{Command, grant, add, withdraw, embargo}
use Rattle.archive_model.specs.Filing.{messages_in_month, messages_by_author}
use Rattle.archive_model.specs.Questions.{messages_in, person_of_token}
use Rattle.archive_port.specs.Messages.{IsReadable}
use Rattle.archive_port.specs.Told.{E15MeansDiskFailedOr as StoreCausedOr, DiskHasFailed, HasNoStepLimit, StoreHasCleanDisk, HoldsTables, archive_in}
use Rattle.archive_port.specs.Words.{standing_rank}
use Rattle.policy_core.specs.Numbers.{withdrawn_by_number, grant_kind_rank}
use Rattle.archive_port.specs.declared.faults.StoreFault.{StoreFault}
use Rattle.archive_port.specs.declared.faults.StoreFault.TheVariants as faults
use Rattle.policy_core.specs.declared.access.GrantKind.{GrantKind}
use Rattle.policy_core.specs.declared.access.WithdrawnBy.{WithdrawnBy}
use Rattle.archive_results.specs.Access.{Ask}
use Rattle.archive_desk.specs.Causes.{DeskFaultMeansDiskFailedOr, HasCause, IsDeskDatabaseFault, IsMessageUnreadable, IsReaderUnreadable, IsQuestionUnreadable}
use Rattle.archive_desk.specs.declared.exporting.ExportStop.{ExportStop}
use Rattle.archive_desk.specs.declared.faults.DeskError.{DeskError}

-- its rank is that of a standing
abbrev pub HasStandingRank : Grant → Type 0
HasStandingRank g = (standing : Standing) × (standing_rank standing ≡ g.rank)

-- the names of lists and persons are UTF-8, each message can be read, each grant's rank is that of a standing, and each address is UTF-8
pub record CanBeRead (archive : Archive) : Type 0 where
  pub lists : All IsUtf8 archive.lists
  pub persons : All (λ (p : Person). IsUtf8 p.name) archive.persons
  pub messages : All IsReadable archive.messages
  pub grants : All HasStandingRank archive.grants
  pub addresses : All (λ (a : Address). IsUtf8 a.address) archive.addresses

-- What each command of the code has: what it adds is a message that can be written, what it grants is of rank 1 to 3, it withdraws
-- for the author or the board, and holds back up to a day.
abbrev pub IsWellFormedCommand : Command → Type 0
IsWellFormedCommand (grant person list rank from_day until_day) = (kind : GrantKind) × (grant_kind_rank kind ≡ rank)
IsWellFormedCommand (add list item) = IsItem item
IsWellFormedCommand (withdraw list key party) = (by : WithdrawnBy) × (withdrawn_by_number by ≡ party)
IsWellFormedCommand (embargo list key until_day) = is_day until_day ≡ true
IsWellFormedCommand command = ⊤

-- ---- what the store cannot tell, beside what the desk cannot

-- the name of a list is no UTF-8
abbrev pub AreListsUnreadable : Archive → Type 0
AreListsUnreadable archive = ¬ All IsUtf8 archive.lists

-- the name of the person who has this token is none
abbrev pub IsTokenHolderUnreadable : Archive → (token : List ℕ) → Type 0
IsTokenHolderUnreadable archive token = IsSomeAnd (person_of_token archive token) (λ name. ¬ IsUtf8 name)

-- Nothing is so of it that E15 of a question could mean: not of the messages of a list, of a month or of an author, nor of the
-- message of a key, nor of who asks, nor of the names of lists and of who has a token.
pub record BreaksNoQuestion (archive : Archive) : Type 0 where
  pub list : (ask : Ask) → ¬ IsQuestionUnreadable archive ask (messages_in archive ask.list)
  pub month : (ask : Ask) (month : ℤ) → ¬ IsQuestionUnreadable archive ask (messages_in_month archive ask.list month)
  pub author : (ask : Ask) (key : List ℕ) → ¬ IsQuestionUnreadable archive ask (messages_by_author archive ask.list key)
  pub message : (ask : Ask) (key : List ℕ) → ¬ IsMessageUnreadable archive ask key
  pub reader : (ask : Ask) → ¬ IsReaderUnreadable archive ask
  pub lists : ¬ AreListsUnreadable archive
  pub holder : (token : List ℕ) → ¬ IsTokenHolderUnreadable archive token

-- ---- a question

-- its answer is not G4 that carries E15
abbrev pub HasNoDatabaseFault : {A : Type 0} → Result A DeskError → Type 0
HasNoDatabaseFault result = IfErr result (λ fault. ¬ IsDeskDatabaseFault fault)

-- its tables are those of an archive that can be read, and no limit is set on the steps of a query
pub record IsFullyReadableStore {S W : Type 0} (g : Ghosts S W) (store : S) : Type 0 where
  pub holds_tables : HoldsTables g store
  pub has_no_step_limit : HasNoStepLimit g store
  pub readable : CanBeRead (archive_in g store)

module _ {S W : Type 0} (g : Ghosts S W) (old new : S) where
  -- the same before a call, in which the disk did not fail, and has returned what was written to it
  pub record MeetsNoDiskFault : Type 0 where
    pub fully_readable : IsFullyReadableStore g old
    pub no_disk_failure : ¬ DiskHasFailed g old new
    pub disk_is_clean : StoreHasCleanDisk g new

  -- Whatever the call was, if this is its answer and E15 comes of nothing but what its field `fault_has_cause` says: a question on the messages
  -- of a list, of a month or of an author, on the message of a key, or on who asks.
  pub record QuestionHasNoDatabaseFault {A : Type 0} (result : Result A DeskError) (ask : Ask) : Type 0 where
    pub list : DeskFaultMeansDiskFailedOr g old new result (λ a. IsQuestionUnreadable a ask (messages_in a ask.list)) → HasNoDatabaseFault result
    pub month : (month : ℤ) → DeskFaultMeansDiskFailedOr g old new result (λ a. IsQuestionUnreadable a ask (messages_in_month a ask.list month)) → HasNoDatabaseFault result
    pub author : (key : List ℕ) → DeskFaultMeansDiskFailedOr g old new result (λ a. IsQuestionUnreadable a ask (messages_by_author a ask.list key)) → HasNoDatabaseFault result
    pub message : (key : List ℕ) → DeskFaultMeansDiskFailedOr g old new result (λ a. IsMessageUnreadable a ask key ⊎ IsReaderUnreadable a ask) → HasNoDatabaseFault result
    pub reader : DeskFaultMeansDiskFailedOr g old new result (λ a. IsReaderUnreadable a ask) → HasNoDatabaseFault result

  -- the same of an export, by its stop
  abbrev pub ExportHasNoDatabaseFault : {A : Type 0} → Result A ExportStop → Ask → Type 0
  ExportHasNoDatabaseFault result ask =
      IfErr result (λ stop. IsDeskDatabaseFault stop.fault → HasCause g old new (λ a. IsQuestionUnreadable a ask (messages_in a ask.list)))
      → IfErr result (λ stop. ¬ IsDeskDatabaseFault stop.fault)

  -- the same of the two questions that are asked of the store itself: the lists, and who has a token
  pub record StoreQuestionHasNoFault {A : Type 0} (result : Result A StoreFault) : Type 0 where
    pub lists : StoreCausedOr g old new result AreListsUnreadable → IfErr result (λ fault. fault ≢ faults.Store)
    pub holder : (token : List ℕ) → StoreCausedOr g old new result (λ a. IsTokenHolderUnreadable a token) → IfErr result (λ fault. fault ≢ faults.Store)
