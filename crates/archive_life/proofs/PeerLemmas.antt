-- What was sent to a peer from whom a message is hidden is an answer out of the archive in which it never came.
use Rattle.std.proofs.Common.{◌≡◌, ◌⊎◌, ◌+◌, inl, inr, subst, append-nil, ℕ, ℤ, List, [], ◌++◌, Result, Ok, Err}
use Rattle.httparse.specs.Grammar.{RequestHead}
use Rattle.policy_core.specs.Rules.{Rule}
use Rattle.archive_model.specs.Records.{Archive}
use Rattle.archive_results.specs.Promise.{without_message}
use Rattle.archive_requests.specs.Heads.{BeginsWithHead}
use Rattle.archive_pages.specs.Answers.{reply_of}
use Rattle.archive_pages.specs.Headline.{AnswersRequestFromArchive, IsAnsweredFromArchive}
use Rattle.archive_pages.specs.Replies.{BreaksOffMbox, IsReplyBrokenOff, IsReplyOr503, SendsReply}
use Rattle.archive_pages.specs.declared.faults.ServeFault.{ServeFault}
use Rattle.archive_pages.specs.declared.faults.ServeFault.TheVariants.{Read, Write, Broken}
use Rattle.archive_life.specs.Peers.{HiddenMessageReachesNoPeer}

module _ (a b : Archive) (rules : List Rule) (day : ℤ) where
  -- two archives reply alike to each head that these bytes begin with
  abbrev pub RepliesAlike : List ℕ → Type 0
  RepliesAlike all = (h : RequestHead) → BeginsWithHead all h → reply_of a rules day h ≡ reply_of b rules day h

  answered_alike : (given all written : List ℕ) (result : Result ℕ ServeFault) → RepliesAlike all → IsAnsweredFromArchive a rules day given all [] written result
      → IsAnsweredFromArchive b rules day given all [] written result
  answered_alike given all written result alike it = record {
    head = λ h begins.
        subst (λ wanted. SendsReply (IsReplyOr503 wanted) [] written result ⊎ IsReplyBrokenOff result (BreaksOffMbox (λ reply. reply ≡ wanted) [] written))
        (alike h begins) (it.head h begins);
    direct = it.direct;
    none = it.none;
    many = it.many;
    long = it.long;
    few = it.few;
  }

  -- whatever the peer would have sent after what was read
  abbrev pub RepliesAlikeTo : List ℕ → Type 0
  RepliesAlikeTo read = (more : List ℕ) → RepliesAlike (read ++ more)

  request_alike : (read written : List ℕ) (ends : ℕ) (result : Result ℕ ServeFault) → RepliesAlikeTo read
      → (given : List ℕ) × (read ≡ given) × (((ends ≡ 0 + 1) × IsAnsweredFromArchive a rules day given given [] written result)
      ⊎ ((ends ≡ 0) × ((more : List ℕ) → IsAnsweredFromArchive a rules day given (given ++ more) [] written result)))
      → (given : List ℕ) × (read ≡ given) × (((ends ≡ 0 + 1) × IsAnsweredFromArchive b rules day given given [] written result)
      ⊎ ((ends ≡ 0) × ((more : List ℕ) → IsAnsweredFromArchive b rules day given (given ++ more) [] written result)))
  request_alike read written ends result alike (given, is, inl (met, it)) = (
    given,
    is,
    inl (met, answered_alike given given written result (subst RepliesAlike (append-nil given) (subst RepliesAlikeTo is alike [])) it),
  )
  request_alike read written ends result alike (given, is, inr (unmet, it)) =
      (given, is, inr (unmet, λ more. answered_alike given (given ++ more) written result (subst RepliesAlikeTo is alike more) (it more)))

  answers_alike : (read written : List ℕ) (ends : ℕ) (result : Result ℕ ServeFault) → RepliesAlikeTo read → AnswersRequestFromArchive a rules day [] read 0 ends [] written result
      → AnswersRequestFromArchive b rules day [] read 0 ends [] written result
  answers_alike read written ends (Ok status) alike it = request_alike read written ends (Ok status) alike it
  answers_alike read written ends (Err (Write n)) alike it = request_alike read written ends (Err (Write n)) alike it
  answers_alike read written ends (Err (Broken n)) alike it = request_alike read written ends (Err (Broken n)) alike it
  answers_alike read written ends (Err Read) alike it = it

pub reaches_no_peer : HiddenMessageReachesNoPeer
reaches_no_peer by archive list key rules day outcome over hidden it others = record {
  result = it.result;
  ends = it.ends;
  written = it.written;
  answers_request = answers_alike archive (without_message archive list key) rules day over.read it.written it.ends it.result
      (λ more h begins. let asked = others more h begins in hidden rules day h asked.0 asked.1) it.answers_request;
  made = it.made;
  bytes_passed = it.bytes_passed;
  client_receives = it.client_receives;
}
