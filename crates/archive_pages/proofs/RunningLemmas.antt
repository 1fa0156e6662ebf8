-- A request after a run of commands, and after another request.
use Rattle.std.proofs.Common.{◌≡◌, ◌++◌, ◌⊎◌, inl, inr, ℕ, ℤ, List, Result, Ok, Err, refl, sym, ◌∙◌, subst}
use Rattle.std.proofs.lemmas.Bool.{cases_Bool}
use Rattle.archive_port.specs.declared.state.ArchiveState.{Ghosts}
use Rattle.httparse.specs.Grammar.{RequestHead, HasNoRequest}
use Rattle.policy_core.specs.Rules.{Rule}
use Rattle.archive_model.specs.Records.{Archive}
use Rattle.archive_port.specs.Told.{IsOpen, HoldsTables, IsStoreClosed, archive_in, StoreHasCleanDisk}
use Rattle.archive_desk.specs.Holding.{RelatesTableArchives}
use Rattle.archive_pages.specs.Replies.{SendsReply, BreaksOffMbox, IsReplyOr503, IsReplyBrokenOff, unavailable}
use Rattle.archive_pages.specs.Answers.{reply_of}
use Rattle.archive_pages.specs.Serving.{SendsFromArchive, ServesFromArchive, StoreKeepsArchive}
use Rattle.archive_pages.specs.Answered.{IsAnsweredFromStore, ReadsRequestInput, IfAnsweredOrUnread}
use Rattle.archive_pages.specs.Headline.{IsAnsweredFromArchive, AnswersRequestFromArchive}
use Rattle.archive_pages.specs.declared.faults.ServeFault.{ServeFault}
use Rattle.archive_pages.specs.declared.faults.ServeFault.TheVariants.{Read, Write, Broken}
use Rattle.archive_pages.proofs.ServingLemmas.{sends_as, broken_as, breaks_as}

by_outcome : (result : Result ℕ ServeFault) {A B X Y : Type 0} → (A → B) → (X → Y) → IfAnsweredOrUnread result A X → IfAnsweredOrUnread result B Y
by_outcome (Ok status) answered unread it = answered it
by_outcome (Err (Write written)) answered unread it = answered it
by_outcome (Err (Broken written)) answered unread it = answered it
by_outcome (Err Read) answered unread it = unread it

reads : (told_before told_after : List ℕ) (ends_before ends_after : ℕ) (P Q : List ℕ → List ℕ → Type 0) → ((given all : List ℕ) → P given all → Q given all)
    → ReadsRequestInput told_before told_after ends_before ends_after P → ReadsRequestInput told_before told_after ends_before ends_after Q
reads told_before told_after ends_before ends_after P Q weaker (given, told, inl (ended, says)) = (given, told, inl (ended, weaker given given says))
reads told_before told_after ends_before ends_after P Q weaker (given, told, inr (unended, says)) = (given, told, inr (unended, (λ more. weaker given (given ++ more) (says more))))

module _ {S W : Type 0} (g : Ghosts S W) (mid new : S) (archive : Archive) (returned : StoreHasCleanDisk g new)
    (ran : StoreHasCleanDisk g mid → HoldsTables g mid × (archive_in g mid ≡ archive)) (rules : List Rule) (day : ℤ) where
  module _ (before after : List ℕ) (result : Result ℕ ServeFault) where
    sent_from : (h : RequestHead) → SendsFromArchive g mid new (λ a reply. reply ≡ reply_of a rules day h) before after result
        → SendsReply (IsReplyOr503 (reply_of archive rules day h)) before after result ⊎ IsReplyBrokenOff result (BreaksOffMbox (λ reply. reply ≡ reply_of archive rules day h) before after)
    sent_from h (inl goes) =
        let it = ran (goes.0.disk_was_clean returned) in
        inl (sends_as (λ reply. reply ≡ reply_of (archive_in g mid) rules day h) (IsReplyOr503 (reply_of archive rules day h)) before after result
        (λ reply is. inl (subst (λ a. reply ≡ reply_of a rules day h) it.1 is)) (goes.1 returned it.0).1.1)
    sent_from h (inr (inl (goes, sent))) =
        inl (sends_as (λ reply. reply ≡ unavailable) (IsReplyOr503 (reply_of archive rules day h)) before after result (λ reply is. inr is) sent)
    sent_from h (inr (inr (goes, broken))) =
        let it = ran (goes.0.disk_was_clean returned) in
        inr (broken_as result (λ n. StoreHasCleanDisk g new → HoldsTables g mid → BreaksOffMbox (λ reply. reply ≡ reply_of (archive_in g mid) rules day h) before after n)
        (BreaksOffMbox (λ reply. reply ≡ reply_of archive rules day h) before after)
        (λ n breaks. breaks_as (λ reply. reply ≡ reply_of (archive_in g mid) rules day h) (λ reply. reply ≡ reply_of archive rules day h) before after n
        (λ reply is. subst (λ a. reply ≡ reply_of a rules day h) it.1 is) (breaks returned it.0)) broken)

    answered_from : (given all : List ℕ) → IsAnsweredFromStore g mid new rules day given all before after result
        → IsAnsweredFromArchive archive rules day given all before after result
    answered_from given all it = record {
      head = λ h begins. sent_from h (it.head h begins).sends_from_archive;
      direct = it.direct;
      none = λ no. (it.none no).1;
      many = it.many;
      long = it.long;
      few = it.few;
    }

  -- `answer` after the run
  pub answers_from : (result : Result ℕ ServeFault) (told_before told_after : List ℕ) (ends_before ends_after : ℕ) (before after : List ℕ)
      → IfAnsweredOrUnread result (ReadsRequestInput told_before told_after ends_before ends_after (λ given all. IsAnsweredFromStore g mid new rules day given all before after result))
      ((given : List ℕ) × (told_after ≡ told_before ++ given) × HasNoRequest given × (after ≡ before) × RelatesTableArchives g mid new (λ a b. b ≡ a))
      → AnswersRequestFromArchive archive rules day told_before told_after ends_before ends_after before after result
  answers_from result told_before told_after ends_before ends_after before after =
      by_outcome result
      (reads told_before told_after ends_before ends_after (λ given all. IsAnsweredFromStore g mid new rules day given all before after result)
      (λ given all. IsAnsweredFromArchive archive rules day given all before after result) (answered_from before after result))
      (λ (given, told, none, silent, goes). (given, told, none, silent))

-- ---- out of a store that is shut

module _ {S W : Type 0} (g : Ghosts S W) (mid new : S) (archive : Archive) (returned : StoreHasCleanDisk g new) (shut : IsStoreClosed g mid) (rules : List Rule) (day : ℤ)
    (before after : List ℕ) (result : Result ℕ ServeFault) where
  shut_sent : (h : RequestHead) → ServesFromArchive g mid new (λ a reply. reply ≡ reply_of a rules day h) before after result
      → SendsReply (IsReplyOr503 (reply_of archive rules day h)) before after result ⊎ IsReplyBrokenOff result (BreaksOffMbox (λ reply. reply ≡ reply_of archive rules day h) before after)
  shut_sent h serves = inl (sends_as (λ r. (r ≡ unavailable) ⊎ ((a : Archive) → r ≡ reply_of a rules day h)) (IsReplyOr503 (reply_of archive rules day h)) before after result
      (λ r it. elim it [ inl none ↦ inr none | inr every ↦ inl (every archive) ]) (serves.when_store_closed returned shut))

  shut_answered : (given all : List ℕ) → IsAnsweredFromStore g mid new rules day given all before after result
      → IsAnsweredFromArchive archive rules day given all before after result
  shut_answered given all it = record {
    head = λ h begins. shut_sent h (it.head h begins);
    direct = it.direct;
    none = λ no. (it.none no).1;
    many = it.many;
    long = it.long;
    few = it.few;
  }

  -- of any archive
  pub answers_shut : (told_before told_after : List ℕ) (ends_before ends_after : ℕ)
      → IfAnsweredOrUnread result (ReadsRequestInput told_before told_after ends_before ends_after (λ given all. IsAnsweredFromStore g mid new rules day given all before after result))
      ((given : List ℕ) × (told_after ≡ told_before ++ given) × HasNoRequest given × (after ≡ before) × RelatesTableArchives g mid new (λ a b. b ≡ a))
      → AnswersRequestFromArchive archive rules day told_before told_after ends_before ends_after before after result
  answers_shut told_before told_after ends_before ends_after =
      by_outcome result
      (reads told_before told_after ends_before ends_after (λ given all. IsAnsweredFromStore g mid new rules day given all before after result)
      (λ given all. IsAnsweredFromArchive archive rules day given all before after result) shut_answered)
      (λ (given, told, none, silent, goes). (given, told, none, silent))

-- ---- a store that was left as it was, or is shut

module _ {S W : Type 0} (g : Ghosts S W) (mid new : S) (archive : Archive) (returned : StoreHasCleanDisk g new)
    (left : IsOpen g mid → HoldsTables g mid × (archive_in g mid ≡ archive)) (rules : List Rule) (day : ℤ) (result : Result ℕ ServeFault)
    (told_before told_after : List ℕ) (ends_before ends_after : ℕ) (before after : List ℕ)
    (said : IfAnsweredOrUnread result (ReadsRequestInput told_before told_after ends_before ends_after (λ given all. IsAnsweredFromStore g mid new rules day given all before after result))
    ((given : List ℕ) × (told_after ≡ told_before ++ given) × HasNoRequest given × (after ≡ before) × RelatesTableArchives g mid new (λ a b. b ≡ a))) where
  pub answers_left : AnswersRequestFromArchive archive rules day told_before told_after ends_before ends_after before after result
  answers_left = elim (cases_Bool (g.is_open mid)) [
    | inl up ↦ answers_from g mid new archive returned (λ was. left up) rules day result told_before told_after ends_before ends_after before after said
    | inr down ↦ answers_shut g mid new archive returned (λ up. let it = sym up ∙ down in absurd (cc)) rules day before after result told_before told_after ends_before ends_after said
  ]

-- ---- two requests

module _ {S W : Type 0} (g : Ghosts S W) (old mid new : S) (first : Result ℕ ServeFault) (left : StoreKeepsArchive g old mid first) (rules : List Rule) (day : ℤ)
    (result : Result ℕ ServeFault) (told_before told_after : List ℕ) (ends_before ends_after : ℕ) (before after : List ℕ) where
  -- of a store that remembers what it remembered before the first of them, or is shut
  pub answers_second : StoreHasCleanDisk g mid → StoreHasCleanDisk g new → HoldsTables g old
      → IfAnsweredOrUnread result (ReadsRequestInput told_before told_after ends_before ends_after (λ given all. IsAnsweredFromStore g mid new rules day given all before after result))
      ((given : List ℕ) × (told_after ≡ told_before ++ given) × HasNoRequest given × (after ≡ before) × RelatesTableArchives g mid new (λ a b. b ≡ a))
      → AnswersRequestFromArchive (archive_in g old) rules day told_before told_after ends_before ends_after before after result
  answers_second was returned held said = answers_left g mid new (archive_in g old) returned (λ up. left.archive_is_same.1 was held up) rules day result
      told_before told_after ends_before ends_after before after said

pub answers_first : {S W : Type 0} (g : Ghosts S W) (old mid : S) → StoreHasCleanDisk g mid → HoldsTables g old → (rules : List Rule) (day : ℤ)
    (result : Result ℕ ServeFault) (told_before told_after : List ℕ) (ends_before ends_after : ℕ) (before after : List ℕ)
    → IfAnsweredOrUnread result (ReadsRequestInput told_before told_after ends_before ends_after (λ given all. IsAnsweredFromStore g old mid rules day given all before after result))
    ((given : List ℕ) × (told_after ≡ told_before ++ given) × HasNoRequest given × (after ≡ before) × RelatesTableArchives g old mid (λ a b. b ≡ a))
    → AnswersRequestFromArchive (archive_in g old) rules day told_before told_after ends_before ends_after before after result
answers_first g old mid returned held rules day result told_before told_after ends_before ends_after before after said =
    answers_from g old mid (archive_in g old) returned (λ was. (held, refl)) rules day result told_before told_after ends_before ends_after before after said
