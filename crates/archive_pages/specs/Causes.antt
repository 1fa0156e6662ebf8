-- Why a request gets 503, and why an mbox breaks off.
use Rattle.std.specs.Prelude.{◌≡◌, ◌⊎◌, ◌<◌, ◌≤◌, ◌++◌, ℕ, ℤ, false, List, Option, None, Some, Result, Ok, Err, IfErr}
use Rattle.std.specs.Option.{IsSomeAnd}
use Rattle.archive_port.specs.declared.state.ArchiveState.{Ghosts}
use Rattle.httparse.specs.Grammar.{RequestHead}
use Rattle.policy_core.specs.Rules.{Rule}
use Rattle.archive_model.specs.Records.{Archive}
use Rattle.archive_model.specs.Questions.{has_person, messages_in, person_of_token}
use Rattle.archive_port.specs.Told.{memory_refusal_count, DiskHasFailed, HasNoStepLimit, StoreHasCleanDisk, HoldsTables, MemoryWasRefused, archive_in}
use Rattle.archive_results.specs.Access.{Ask}
use Rattle.archive_desk.specs.Causes.{IsMessageUnreadable, IsReaderUnreadable, IsQuestionUnreadable}
use Rattle.archive_desk.specs.Readable.{AreListsUnreadable, IsTokenHolderUnreadable}
use Rattle.archive_requests.specs.Asked.{model_request}
use Rattle.archive_requests.specs.Heads.{BeginsWithHead}
use Rattle.archive_requests.specs.Requests.{Request, bad, other_method, unauthorized, asks, request_of}
use Rattle.archive_requests.specs.Routes.{Route, lists, message, month, threads, thread, author, mbox, route_of}
use Rattle.archive_requests.specs.declared.reading.RequestRead.{RequestRead}
use Rattle.archive_requests.specs.declared.reading.RequestRead.TheVariants.{Whole, Malformed, TooLarge}
use Rattle.archive_pages.specs.Answers.{ask_of_reader}
use Rattle.archive_pages.specs.Replies.{Reply}
use Rattle.archive_pages.specs.declared.faults.ServeFault.{ServeFault}
use Rattle.archive_pages.specs.declared.faults.ServeFault.TheVariants.{Read, Write, Broken}

-- 503 went out, or an mbox broke off (S3)
abbrev pub Sent503OrBrokeOff : Result ℕ ServeFault → Type 0
Sent503OrBrokeOff (Ok status) = status ≡ 503
Sent503OrBrokeOff (Err Read) = ⊥
Sent503OrBrokeOff (Err (Write written)) = ⊥
Sent503OrBrokeOff (Err (Broken written)) = Unit {0}

-- What a call is that writes this reply, or 503 in its place: then memory was refused once more. The count never falls.
abbrev pub SendsOr503 : (wants_before wants_after : ℕ) → Reply → Result ℕ ServeFault → Type 0
SendsOr503 before after wanted result = (before ≤ after) × (Sent503OrBrokeOff result → (before < after) ⊎ (wanted.status ≡ 503))

-- ---- what of an archive cannot be read, which no command writes (a law: `commands_write_readable_archives`)

-- what a page or an mbox of a list is made of: one of its messages, or who asks
abbrev pub IsListDataUnreadable : Ask → Archive → Type 0
IsListDataUnreadable ask archive = IsQuestionUnreadable archive ask (messages_in archive ask.list)

-- what is answered of one message: that message, or who asks
abbrev pub IsMessageDataUnreadable : Ask → (key : List ℕ) → Archive → Type 0
IsMessageDataUnreadable ask key archive = IsMessageUnreadable archive ask key ⊎ IsReaderUnreadable archive ask

-- what a route leads to: nothing of another list than its own
abbrev pub IsRouteDataUnreadable : (ask_of : List ℕ → Ask) → Route → Archive → Type 0
IsRouteDataUnreadable ask_of lists archive = AreListsUnreadable archive
IsRouteDataUnreadable ask_of (message list key) archive = IsMessageDataUnreadable (ask_of list) key archive
IsRouteDataUnreadable ask_of (month list text) archive = IsListDataUnreadable (ask_of list) archive
IsRouteDataUnreadable ask_of (threads list) archive = IsListDataUnreadable (ask_of list) archive
IsRouteDataUnreadable ask_of (thread list key) archive = IsListDataUnreadable (ask_of list) archive
IsRouteDataUnreadable ask_of (author list key) archive = IsListDataUnreadable (ask_of list) archive
IsRouteDataUnreadable ask_of (mbox list) archive = IsListDataUnreadable (ask_of list) archive

-- what a path leads to, where a route fits it
abbrev pub IsPathDataUnreadable : List Rule → (day : ℤ) → (path : List ℕ) → (reader : Option (List ℕ)) → Archive → Type 0
IsPathDataUnreadable rules day path reader archive = IsSomeAnd (route_of path) (λ route. IsRouteDataUnreadable (ask_of_reader rules day reader) route archive)

-- the name of the person who has a token, or what the path leads that person to
abbrev pub IsTokenDataUnreadable : List Rule → (day : ℤ) → (token path : List ℕ) → Archive → Type 0
IsTokenDataUnreadable rules day token path archive = IsTokenHolderUnreadable archive token
    ⊎ IsSomeAnd (person_of_token archive token) (λ name. IsPathDataUnreadable rules day path (Some name) archive)

-- what a request asks for
abbrev pub IsRequestDataUnreadable : List Rule → (day : ℤ) → Request → Archive → Type 0
IsRequestDataUnreadable rules day bad archive = ⊥
IsRequestDataUnreadable rules day other_method archive = ⊥
IsRequestDataUnreadable rules day unauthorized archive = ⊥
IsRequestDataUnreadable rules day (asks None path) archive = IsPathDataUnreadable rules day path None archive
IsRequestDataUnreadable rules day (asks (Some token) path) archive = IsTokenDataUnreadable rules day token path archive

-- what was read of a head
abbrev pub IsReadRequestDataUnreadable : List Rule → (day : ℤ) → RequestRead → Archive → Type 0
IsReadRequestDataUnreadable rules day (Whole request) archive = IsRequestDataUnreadable rules day (model_request request) archive
IsReadRequestDataUnreadable rules day Malformed archive = ⊥
IsReadRequestDataUnreadable rules day TooLarge archive = ⊥

-- what a head asks for with which the bytes begin that an input told in between
pub record IsInputDataUnreadable (told_before told_after : List ℕ) (rules : List Rule) (day : ℤ) (archive : Archive) : Type 0 where
  pub input_read : List ℕ
  pub input_is_given : told_after ≡ told_before ++ input_read
  pub head : RequestHead
  pub begins_with_head : BeginsWithHead input_read head
  pub data_is_unreadable : IsRequestDataUnreadable rules day (request_of head) archive

-- this is so of the archive, or who asks is nobody whom it knows
abbrev pub IsUnreadableOrReaderUnknown : (Archive → Type 0) → (reader : Option (List ℕ)) → Archive → Type 0
IsUnreadableOrReaderUnknown Unread reader archive = Unread archive ⊎ IsSomeAnd reader (λ name. has_person archive name ≡ false)

module _ {S W : Type 0} (g : Ghosts S W) (old new : S) where
  -- Memory was refused once more in that call, and was counted; or, where the disk has returned what was written to it, the tables
  -- are an archive's and no limit is set on the steps of a query: the disk failed once more, or this is so of the archive. Of a store
  -- that was shut nothing is said, since of it this was not so.
  abbrev pub Has503Cause : (Archive → Type 0) → Type 0
  Has503Cause Unread = MemoryWasRefused g old new
      ⊎ (StoreHasCleanDisk g new → HoldsTables g old → HasNoStepLimit g old → DiskHasFailed g old new ⊎ Unread (archive_in g old))

  -- What a call is that finds nothing: it has such a cause. The count of refused memory never falls.
  abbrev pub FindsOrHasCause : {A F : Type 0} → Result A F → (Archive → Type 0) → Type 0
  FindsOrHasCause result Unread = (memory_refusal_count g old ≤ memory_refusal_count g new) × IfErr result (λ _. Has503Cause Unread)

  -- The same of a reply: 503 and S3 have such a cause.
  abbrev pub ServesOr503 : Result ℕ ServeFault → (Archive → Type 0) → Type 0
  ServesOr503 result Unread = (memory_refusal_count g old ≤ memory_refusal_count g new) × (Sent503OrBrokeOff result → Has503Cause Unread)
