-- Replies, and their bytes (RFC 9112).
use Rattle.std.specs.Prelude.{◌≡◌, ◌<◌, ◌^◌, ◌⊎◌, ℕ, Bool, true, false, List, [], ◌∷◌, ◌++◌, length, flat_map, if◌then◌else◌, codes, decimal, Result, Ok, Err, MatchResult}
use Rattle.http.specs.StatusCode.{status_text}
use Rattle.mbox_core.specs.Written.{AppendsPrefixOfText}
use Rattle.archive_desk.specs.Exporting.{HasWrittenBytes}
use Rattle.archive_pages.specs.declared.faults.ServeFault.{ServeFault}
use Rattle.archive_pages.specs.declared.faults.ServeFault.TheVariants.{Read, Write, Broken}

-- A reply. `reply_with_length`: the length of its body stands in the head; without it the body ends with the connection. `more`: further
-- lines of the head.
pub record Reply : Type 0 where
  pub status : ℕ
  pub content_type : List ℕ
  pub has_content_length : Bool
  pub extra_headers : List (List ℕ)
  pub body : List ℕ

-- ---- its bytes

-- a line of the head ends with CR LF
abbrev pub head_line : List ℕ → List ℕ
head_line text = text ++ codes "\r\n"

abbrev pub content_length_lines : Reply → List (List ℕ)
content_length_lines r = if r.has_content_length then (codes "Content-Length: " ++ decimal (length r.body)) ∷ [] else []

-- the status with its canonical phrase, and the fields of the head, in this order
abbrev pub head_lines : Reply → List (List ℕ)
head_lines r =
    (codes "HTTP/1.1 " ++ status_text r.status) ∷ (codes "Content-Type: " ++ r.content_type) ∷ content_length_lines r
    ++ r.extra_headers ++ codes "Connection: close" ∷ []

-- the head ends with an empty line
unfoldable pub head_bytes : Reply → List ℕ
head_bytes r = flat_map head_line (head_lines r) ++ codes "\r\n"

abbrev pub reply_bytes : Reply → List ℕ
reply_bytes r = head_bytes r ++ r.body

-- ---- replies that tell their length

abbrev pub reply_with_length : (status : ℕ) → (content_type body : List ℕ) → Reply
reply_with_length status content_type body = record { status = status; content_type = content_type; has_content_length = true; extra_headers = []; body = body }

-- ---- status 200

abbrev pub page_reply : (page : List ℕ) → Reply
page_reply page = reply_with_length 200 (codes "text/html; charset=us-ascii") page

-- a message (RFC 5322): its whole text
abbrev pub message_reply : (text : List ℕ) → Reply
message_reply text = reply_with_length 200 (codes "message/rfc822") text

-- an mbox (RFC 4155): it ends with the connection
abbrev pub mbox_reply : (text : List ℕ) → Reply
mbox_reply text = record { status = 200; content_type = codes "application/mbox"; has_content_length = false; extra_headers = []; body = text }

-- ---- every other status

abbrev pub plain_text_reply : (status : ℕ) → (more : List (List ℕ)) → (body : List ℕ) → Reply
plain_text_reply status more body =
    record { status = status; content_type = codes "text/plain; charset=us-ascii"; has_content_length = true; extra_headers = more; body = body }

-- its body is the status in words
abbrev pub status_text_reply : (status : ℕ) → (more : List (List ℕ)) → Reply
status_text_reply status more = plain_text_reply status more (status_text status ++ codes "\n")

abbrev pub bad_request : Reply
bad_request = status_text_reply 400 []

abbrev pub unauthorized : Reply
unauthorized = status_text_reply 401 (codes "WWW-Authenticate: Bearer realm=\"archive\"" ∷ [])

-- with the name of the rule that denies
abbrev pub forbidden : (rule : List ℕ) → Reply
forbidden rule = plain_text_reply 403 [] (status_text 403 ++ codes ": " ++ rule ++ codes "\n")

abbrev pub not_found : Reply
not_found = status_text_reply 404 []

abbrev pub method_not_allowed : Reply
method_not_allowed = status_text_reply 405 (codes "Allow: GET" ∷ [])

abbrev pub head_too_large : Reply
head_too_large = status_text_reply 431 []

abbrev pub unavailable : Reply
unavailable = status_text_reply 503 []

-- ---- a reply on its way out

-- exactly the first `written` bytes of it went out, where the writer told fewer than 2^64 bytes
abbrev pub IsReplyPrefix : (told_before told_after : List ℕ) → Reply → (written : ℕ) → Type 0
IsReplyPrefix before after reply written = length after < 2 ^ 64 → AppendsPrefixOfText before after (reply_bytes reply) written

-- S2: a part of it. It stops by no other fault.
abbrev pub IsReplyCutOff : (told_before told_after : List ℕ) → Reply → ServeFault → Type 0
IsReplyCutOff before after reply Read = ⊥
IsReplyCutOff before after reply (Write written) = IsReplyPrefix before after reply written
IsReplyCutOff before after reply (Broken written) = ⊥

-- A reply of which this holds went out whole, with its status; or the output failed (S2), and exactly the first `written` bytes
-- of it went out.
abbrev pub SendsReply : (Reply → Type 0) → (told_before told_after : List ℕ) → Result ℕ ServeFault → Type 0
SendsReply IsRight before after result = (reply : Reply) × IsRight reply × MatchResult result
    (λ status. (status ≡ reply.status) × (after ≡ before ++ reply_bytes reply)) (IsReplyCutOff before after reply)

-- this reply, or that for want of memory or the database
abbrev pub IsReplyOr503 : Reply → Reply → Type 0
IsReplyOr503 wanted reply = (reply ≡ wanted) ⊎ (reply ≡ unavailable)

-- ---- a reply that breaks off

-- it is S3, and this holds of the bytes that it counts
abbrev pub IsReplyBrokenOff : Result ℕ ServeFault → (ℕ → Type 0) → Type 0
IsReplyBrokenOff (Ok status) Says = ⊥
IsReplyBrokenOff (Err Read) Says = ⊥
IsReplyBrokenOff (Err (Write written)) Says = ⊥
IsReplyBrokenOff (Err (Broken written)) Says = Says written

-- Of an mbox of which this holds exactly the first `written` bytes went out, and at least one. No other reply breaks off.
abbrev pub BreaksOffMbox : (Reply → Type 0) → (told_before told_after : List ℕ) → (written : ℕ) → Type 0
BreaksOffMbox IsRight before after written =
    (text : List ℕ) × IsRight (mbox_reply text) × (0 < written) × IsReplyPrefix before after (mbox_reply text) written

-- ---- why a reply stops

-- S2: the output failed. S3: it did not, and so many bytes went out, at least one. S1 comes before a reply.
abbrev pub HasReplyFaultCause : (told_before told_after : List ℕ) → (status_text_reply fails : ℕ) → ServeFault → Type 0
HasReplyFaultCause before after status_text_reply fails Read = ⊥
HasReplyFaultCause before after status_text_reply fails (Write written) = status_text_reply < fails
HasReplyFaultCause before after status_text_reply fails (Broken written) = (fails ≡ status_text_reply) × (0 < written) × HasWrittenBytes before after written

-- S1: the input failed, and the output did not. S2 and S3: the input did not.
abbrev pub HasServeFaultCause : (told_before told_after : List ℕ) → (read_failed read_fails status_text_reply fails : ℕ) → ServeFault → Type 0
HasServeFaultCause before after read_failed read_fails status_text_reply fails Read = (read_failed < read_fails) × (fails ≡ status_text_reply)
HasServeFaultCause before after read_failed read_fails status_text_reply fails (Write written) =
    (read_fails ≡ read_failed) × HasReplyFaultCause before after status_text_reply fails (Write written)
HasServeFaultCause before after read_failed read_fails status_text_reply fails (Broken written) =
    (read_fails ≡ read_failed) × HasReplyFaultCause before after status_text_reply fails (Broken written)
