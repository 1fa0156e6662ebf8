-- What a call that carries commands out and then answers a request says.
use Rattle.std.specs.Prelude.{◌≡◌, ◌≤◌, ◌<◌, ◌++◌, ◌⊎◌, ℕ, ℤ, List, length, take, IfSome, Result}
use Rattle.httparse.specs.Grammar.{RequestHead, HasNoRequest}
use Rattle.httparse.specs.Spans.{RequestExceeds}
use Rattle.policy_core.specs.Rules.{Rule}
use Rattle.archive_model.specs.Records.{Archive}
use Rattle.archive_requests.specs.Heads.{BeginsWithHead, BeginsWithTooManyFields, CanBecomeHead}
use Rattle.archive_pages.specs.Replies.{SendsReply, BreaksOffMbox, IsReplyOr503, IsReplyBrokenOff, bad_request, head_too_large}
use Rattle.archive_requests.specs.Requests.{request_of}
use Rattle.archive_pages.specs.Answers.{reply_of, pathless_reply}
use Rattle.archive_pages.specs.Answered.{IfAnsweredOrUnread, ReadsRequestInput}
use Rattle.archive_pages.specs.declared.faults.ServeFault.{ServeFault}

-- What goes out of this archive to an input whose bytes are all of these, of which the given ones came. It is `IsAnsweredFromStore`
-- without a store.
pub record IsAnsweredFromArchive (archive : Archive) (rules : List Rule) (day : ℤ) (given all : List ℕ)
    (told_before told_after : List ℕ) (result : Result ℕ ServeFault) : Type 0 where
  -- to the head that the input begins with, the reply of the definition, or 503; or exactly the first bytes of it, at least
  -- one, where it is an mbox that broke off (S3)
  pub head : (h : RequestHead) → BeginsWithHead all h
      → SendsReply (IsReplyOr503 (reply_of archive rules day h)) told_before told_after result
      ⊎ IsReplyBrokenOff result (BreaksOffMbox (λ reply. reply ≡ reply_of archive rules day h) told_before told_after)
  -- to a head that asks for no path just the reply of the definition: never 503
  pub direct : (h : RequestHead) → BeginsWithHead all h → IfSome (pathless_reply (request_of h)) (λ wanted. SendsReply (λ reply. reply ≡ wanted) told_before told_after result)
  -- to no such head 400 or 431
  pub none : ((h : RequestHead) → ¬ BeginsWithHead all h)
      → SendsReply (λ reply. (reply ≡ bad_request) ⊎ (reply ≡ head_too_large)) told_before told_after result
  -- 431 to a head of more than 64 fields within 8,192 bytes
  pub many : (h : RequestHead) → BeginsWithTooManyFields all h → SendsReply (λ reply. reply ≡ head_too_large) told_before told_after result
  -- 431 to 8,192 bytes that hold no head and could still become one
  pub long : 8192 ≤ length all → HasNoRequest (take 8192 all) → CanBecomeHead (take 8192 all)
      → SendsReply (λ reply. reply ≡ head_too_large) told_before told_after result
  -- 400 else where fewer bytes came, and no more than 64 whole fields
  pub few : ((h : RequestHead) → ¬ BeginsWithHead all h) → length given < 8192 → ¬ RequestExceeds 64 given
      → SendsReply (λ reply. reply ≡ bad_request) told_before told_after result

-- What a call that answers one request out of this archive says: of the bytes that the input told and of those that went out;
-- or the input failed before it told a whole head, and nothing went out.
abbrev pub AnswersRequestFromArchive : Archive → List Rule → (day : ℤ) → (read_before read_after : List ℕ) → (ends_before ends_after : ℕ)
    → (told_before told_after : List ℕ) → Result ℕ ServeFault → Type 0
AnswersRequestFromArchive archive rules day read_before read_after ends_before ends_after told_before told_after result = IfAnsweredOrUnread result
    (ReadsRequestInput read_before read_after ends_before ends_after
    (λ given all. IsAnsweredFromArchive archive rules day given all told_before told_after result))
    ((given : List ℕ) × (read_after ≡ read_before ++ given) × HasNoRequest given × (told_after ≡ told_before))
