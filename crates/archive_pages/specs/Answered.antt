-- What a call that answers a request says.
use Rattle.std.specs.Prelude.{◌≡◌, ◌≤◌, ◌<◌, ◌+◌, ◌++◌, ◌⊎◌, ℕ, ℤ, List, length, take, IfSome, Result, Ok, Err}
use Rattle.archive_port.specs.declared.state.ArchiveState.{Ghosts}
use Rattle.httparse.specs.Grammar.{RequestHead, HasNoRequest}
use Rattle.httparse.specs.Spans.{RequestExceeds}
use Rattle.policy_core.specs.Rules.{Rule}
use Rattle.archive_desk.specs.Holding.{RelatesTableArchives}
use Rattle.archive_requests.specs.Heads.{BeginsWithHead, BeginsWithTooManyFields, CanBecomeHead}
use Rattle.archive_pages.specs.Replies.{SendsReply, bad_request, head_too_large}
use Rattle.archive_requests.specs.Requests.{request_of}
use Rattle.archive_pages.specs.Answers.{reply_of, pathless_reply, unrouted_reply}
use Rattle.archive_pages.specs.Serving.{ServesFromArchive}
use Rattle.archive_pages.specs.declared.faults.ServeFault.{ServeFault}
use Rattle.archive_pages.specs.declared.faults.ServeFault.TheVariants.{Read, Write, Broken}

-- What goes out to an input whose bytes are all of these, of which the given ones came.
pub record IsAnsweredFromStore {S W : Type 0} (g : Ghosts S W) (old new : S) (rules : List Rule) (day : ℤ) (given all : List ℕ)
    (told_before told_after : List ℕ) (result : Result ℕ ServeFault) : Type 0 where
  -- to the head that the input begins with, the reply of the definition, or 503; or a beginning of it, where it is an mbox that
  -- broke off (S3)
  pub head : (h : RequestHead) → BeginsWithHead all h
      → ServesFromArchive g old new (λ a reply. reply ≡ reply_of a rules day h) told_before told_after result
  -- to a head that asks for no path just the reply of the definition, whatever the store: never 503
  pub direct : (h : RequestHead) → BeginsWithHead all h → IfSome (pathless_reply (request_of h)) (λ wanted. SendsReply (λ reply. reply ≡ wanted) told_before told_after result)
  -- to no such head 400 or 431, without a look at the store
  pub none : ((h : RequestHead) → ¬ BeginsWithHead all h) → RelatesTableArchives g old new (λ a b. b ≡ a)
      × SendsReply (λ reply. (reply ≡ bad_request) ⊎ (reply ≡ head_too_large)) told_before told_after result
  -- 431 to a head of more than 64 fields within 8,192 bytes
  pub many : (h : RequestHead) → BeginsWithTooManyFields all h → SendsReply (λ reply. reply ≡ head_too_large) told_before told_after result
  -- 431 to 8,192 bytes that hold no head and could still become one
  pub long : 8192 ≤ length all → HasNoRequest (take 8192 all) → CanBecomeHead (take 8192 all)
      → SendsReply (λ reply. reply ≡ head_too_large) told_before told_after result
  -- 400 else where fewer bytes came, and no more than 64 whole fields
  pub few : ((h : RequestHead) → ¬ BeginsWithHead all h) → length given < 8192 → ¬ RequestExceeds 64 given
      → SendsReply (λ reply. reply ≡ bad_request) told_before told_after result

-- With routes that were made before, 404 to nobody who asks for a path that no route fits, whatever the store: never 503.
abbrev pub Sends404IfUnrouted : (all told_before told_after : List ℕ) → Result ℕ ServeFault → Type 0
Sends404IfUnrouted all told_before told_after result =
    (h : RequestHead) → BeginsWithHead all h → IfSome (unrouted_reply (request_of h)) (λ wanted. SendsReply (λ reply. reply ≡ wanted) told_before told_after result)

-- The input told some bytes, and was read to its end; or what came settles the answer, whatever bytes would follow.
abbrev pub ReadsRequestInput : (told_before told_after : List ℕ) → (ends_before ends_after : ℕ) → (List ℕ → List ℕ → Type 0) → Type 0
ReadsRequestInput told_before told_after ends_before ends_after Says = (given : List ℕ) × (told_after ≡ told_before ++ given)
    × (((ends_after ≡ ends_before + 1) × Says given given)
    ⊎ ((ends_after ≡ ends_before) × ((more : List ℕ) → Says given (given ++ more))))

-- one fact of what was answered, whole or in part, and one of an input that failed
abbrev pub IfAnsweredOrUnread : Result ℕ ServeFault → (answered unread : Type 0) → Type 0
IfAnsweredOrUnread (Ok status) answered unread = answered
IfAnsweredOrUnread (Err (Write written)) answered unread = answered
IfAnsweredOrUnread (Err (Broken written)) answered unread = answered
IfAnsweredOrUnread (Err Read) answered unread = unread

-- What a call that answers one request says of the bytes that the input told and of those that went out; or the input failed before it told a
-- whole head, nothing went out, and the store is left as it was.
abbrev pub AnswersRequestFromStore : {S W : Type 0} (g : Ghosts S W) (old new : S) → List Rule → (day : ℤ) → (read_before read_after : List ℕ)
    → (ends_before ends_after : ℕ) → (told_before told_after : List ℕ) → Result ℕ ServeFault → Type 0
AnswersRequestFromStore g old new rules day read_before read_after ends_before ends_after told_before told_after result = IfAnsweredOrUnread result
    (ReadsRequestInput read_before read_after ends_before ends_after
    (λ given all. IsAnsweredFromStore g old new rules day given all told_before told_after result))
    ((given : List ℕ) × (read_after ≡ read_before ++ given) × HasNoRequest given × (told_after ≡ told_before) × RelatesTableArchives g old new (λ a b. b ≡ a))
