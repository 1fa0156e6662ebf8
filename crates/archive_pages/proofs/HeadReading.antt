-- What is answered to what was read of a request.
use Rattle.std.proofs.Common.{◌≡◌, ◌≤◌, ◌<◌, ◌++◌, ◌⊎◌, inl, inr, ℕ, ℤ, List, [], length, Result, Ok, Err, refl, sym, subst, arith, append-nil}
use Rattle.std.specs.Prelude.{IfErr, IfSome, OnOk}
use Rattle.archive_port.specs.declared.state.ArchiveState.{Ghosts}
use Rattle.httparse.specs.Grammar.{RequestHead}
use Rattle.httparse.specs.Spans.{RequestExceeds}
use Rattle.httparse.proofs.GrammarLemmas.{ReadsRequest-append}
use Rattle.policy_core.specs.Rules.{Rule}
use Rattle.archive_model.specs.Records.{Archive}
use Rattle.archive_port.specs.Told.{HoldsTables}
use Rattle.archive_port.proofs.Joins.{stays_there_in}
use Rattle.archive_requests.specs.Asked.{model_request}
use Rattle.archive_requests.specs.Heads.{BeginsWithHead}
use Rattle.archive_requests.specs.Reading.{IsRequestOfGivenHead, IsRequestReadOfInput, IsRequestReadFinal}
use Rattle.archive_requests.specs.declared.requests.Request.{Request as Asked}
use Rattle.archive_requests.specs.declared.reading.RequestRead.{RequestRead}
use Rattle.archive_requests.specs.declared.reading.RequestRead.TheVariants.{Whole, Malformed, TooLarge}
use Rattle.archive_pages.specs.Replies.{SendsReply, HasReplyFaultCause, HasServeFaultCause, bad_request, head_too_large}
use Rattle.archive_pages.specs.Answers.{request_reply, pathless_reply}
use Rattle.archive_pages.specs.Answered.{IfAnsweredOrUnread, IsAnsweredFromStore}
use Rattle.archive_pages.specs.Causes.{IsReadRequestDataUnreadable, IsRequestDataUnreadable, IsInputDataUnreadable}
use Rattle.archive_pages.specs.declared.faults.ServeFault.{ServeFault}
use Rattle.archive_pages.specs.declared.faults.ServeFault.TheVariants.{Read, Write, Broken}
use Rattle.archive_pages.specs.Serving.{ServesFromArchive}
use Rattle.archive_pages.proofs.ServingLemmas.{sends_as}

whole_large : (request : Asked) → Whole request ≡ TooLarge → ⊥
whole_large request is = absurd (cc)

bad_large : Malformed ≡ TooLarge → ⊥
bad_large is = absurd (cc)

module _ {S W : Type 0} (g : Ghosts S W) (rules : List Rule) (day : ℤ) (given all before after : List ℕ) (result : Result ℕ ServeFault) where
  module _ (store : S) where
    pub to_bad : IsRequestReadOfInput given all Malformed → SendsReply (λ r. r ≡ bad_request) before after result → IsAnsweredFromStore g store store rules day given all before after result
    to_bad is sent = record {
      head = λ h begins. absurd (is.when_head h begins);
      direct = λ h begins. absurd (is.when_head h begins);
      none = λ nothing. (stays_there_in g (HoldsTables g) store, sends_as (λ r. r ≡ bad_request) (λ r. (r ≡ bad_request) ⊎ (r ≡ head_too_large)) before after result (λ r e. inl e) sent);
      many = λ h exceeds. absurd (bad_large (is.when_too_many_fields h exceeds));
      long = λ enough nothing could. absurd (bad_large (is.when_too_long enough nothing could));
      few = λ nothing less fields. sent;
    }

    large_cases : length given < 8192 → ¬ RequestExceeds 64 given → ((8192 ≤ length given) ⊎ RequestExceeds 64 given) → ⊥
    large_cases less fields (inl enough) = omega arith
    large_cases less fields (inr many) = fields many

    pub to_large : IsRequestReadOfInput given all TooLarge → SendsReply (λ r. r ≡ head_too_large) before after result → IsAnsweredFromStore g store store rules day given all before after result
    to_large is sent = record {
      head = λ h begins. absurd (is.when_head h begins);
      direct = λ h begins. absurd (is.when_head h begins);
      none = λ nothing. (stays_there_in g (HoldsTables g) store, sends_as (λ r. r ≡ head_too_large) (λ r. (r ≡ bad_request) ⊎ (r ≡ head_too_large)) before after result (λ r e. inr e) sent);
      many = λ h exceeds. sent;
      long = λ enough nothing could. sent;
      few = λ nothing less fields. absurd (large_cases less fields (is.too_large_means_too_long refl));
    }

begins_still : (given more : List ℕ) (h : RequestHead) → BeginsWithHead given h → BeginsWithHead (given ++ more) h
begins_still given more h it = record {
  after_head = it.after_head ++ more;
  reads_head = ReadsRequest-append given h it.after_head more it.reads_head;
  at_most_8192 = it.at_most_8192;
  at_most_64_fields = it.at_most_64_fields;
}

module _ {S W : Type 0} (g : Ghosts S W) (rules : List Rule) (day : ℤ) (given more before after : List ℕ) (result : Result ℕ ServeFault) where
  pub to_whole : (old new : S) (request : Asked) → IsRequestReadOfInput given (given ++ more) (Whole request)
      → ServesFromArchive g old new (λ a reply. reply ≡ request_reply a rules day (model_request request)) before after result
      → IfSome (pathless_reply (model_request request)) (λ wanted. SendsReply (λ reply. reply ≡ wanted) before after result)
      → IsAnsweredFromStore g old new rules day given (given ++ more) before after result
  to_whole old new request is sent direct = record {
    head = λ h begins. subst (λ q. ServesFromArchive g old new (λ a reply. reply ≡ request_reply a rules day q) before after result) (is.when_head h begins) sent;
    direct = λ h begins. subst (λ q. IfSome (pathless_reply q) (λ wanted. SendsReply (λ reply. reply ≡ wanted) before after result)) (is.when_head h begins) direct;
    none = λ nothing. absurd (nothing is.when_read.0 (begins_still given more is.when_read.0 is.when_read.1));
    many = λ h exceeds. absurd (whole_large request (is.when_too_many_fields h exceeds));
    long = λ enough nothing could. absurd (whole_large request (is.when_too_long enough nothing could));
    few = λ nothing less fields. absurd (nothing is.when_read.0 (begins_still given more is.when_read.0 is.when_read.1));
  }

-- what of an archive cannot be read that is asked for
pub unread_in : (told_before told_after given : List ℕ) (rules : List Rule) (day : ℤ) (a : Archive) (read : RequestRead) → told_after ≡ told_before ++ given → IsRequestOfGivenHead given read
    → IsReadRequestDataUnreadable rules day read a → IsInputDataUnreadable told_before told_after rules day a
unread_in told_before told_after given rules day a (Whole request) told begun it = record {
  input_read = given;
  input_is_given = told;
  head = begun.0;
  begins_with_head = begun.1;
  data_is_unreadable = subst (λ q. IsRequestDataUnreadable rules day q a) begun.2 it;
}
unread_in told_before told_after given rules day a Malformed told begun it = absurd it
unread_in told_before told_after given rules day a TooLarge told begun it = absurd it

-- ---- what the input told

pub begun_by : (given : List ℕ) (read : RequestRead) (Ended None Open : Type 0) → (Ended × None × IsRequestReadOfInput given given read) ⊎ (Open × IsRequestReadFinal given read)
    → IsRequestOfGivenHead given read
begun_by given read Ended None Open (inl (ended, none, is)) = is.when_read
begun_by given read Ended None Open (inr (still, settled)) = (settled []).when_read

pub said_either : (given : List ℕ) (read : RequestRead) (Ended None Open : Type 0) (Says : List ℕ → Type 0)
    → ((more : List ℕ) → IsRequestReadOfInput given (given ++ more) read → Says (given ++ more))
    → (Ended × None × IsRequestReadOfInput given given read) ⊎ (Open × IsRequestReadFinal given read)
    → (Ended × Says given) ⊎ (Open × ((more : List ℕ) → Says (given ++ more)))
said_either given read Ended None Open Says says (inl (ended, none, is)) =
    inl (ended, subst Says (append-nil given) (says [] (subst (λ all. IsRequestReadOfInput given all read) (sym (append-nil given)) is)))
said_either given read Ended None Open Says says (inr (still, settled)) = inr (still, λ more. says more (settled more))

-- ---- what was answered, whole or in part

pub outcome_answered : (result : Result ℕ ServeFault) (before after : List ℕ) (failed fails : ℕ) (answered unread : Type 0)
    → IfErr result (λ fault. HasReplyFaultCause before after failed fails fault) → answered → IfAnsweredOrUnread result answered unread
outcome_answered (Ok status) before after failed fails answered unread why it = it
outcome_answered (Err Read) before after failed fails answered unread why it = absurd why
outcome_answered (Err (Write written)) before after failed fails answered unread why it = it
outcome_answered (Err (Broken written)) before after failed fails answered unread why it = it

pub outcome_cause : (result : Result ℕ ServeFault) (before after : List ℕ) (read_failed read_fails failed fails : ℕ) → read_fails ≡ read_failed
    → IfErr result (λ fault. HasReplyFaultCause before after failed fails fault)
    → IfErr result (λ fault. HasServeFaultCause before after read_failed read_fails failed fails fault)
outcome_cause (Ok status) before after read_failed read_fails failed fails same why = tt
outcome_cause (Err Read) before after read_failed read_fails failed fails same why = absurd why
outcome_cause (Err (Write written)) before after read_failed read_fails failed fails same why = (same, why)
outcome_cause (Err (Broken written)) before after read_failed read_fails failed fails same why = (same, why)

pub outcome_quiet : (result : Result ℕ ServeFault) (A B : Type 0) → A → OnOk result B → OnOk result (A × B)
outcome_quiet (Ok status) A B same quiet = (same, quiet)
outcome_quiet (Err fault) A B same quiet = tt
