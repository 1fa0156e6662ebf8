-- What is found in a store, and then written.
use Rattle.std.proofs.Common.{◌≡◌, ◌∙◌, inl, inr, ℕ, List, Option, Some, None, Result, Ok, Err, refl, sym, ap, subst}
use Rattle.std.specs.Prelude.{◌≢◌, ◌⊎◌, MatchResult, IfOk}
use Rattle.archive_port.specs.declared.state.ArchiveState.{Ghosts}
use Rattle.archive_model.specs.Records.{Archive}
use Rattle.archive_model.specs.Commands.{Refusal}
use Rattle.archive_port.proofs.LastLemmas.{lasts_then}
use Rattle.archive_port.specs.Replies.{refusal_of_fault}
use Rattle.archive_port.specs.Told.{AnswersStoreQuestion, StoreHasCleanDisk, IsOpen, HoldsTables, StaysOpenUnlessDiskFails, archive_in}
use Rattle.archive_desk.specs.Holding.{RelatesTableArchives, RelatesTableArchivesIfOpen}
use Rattle.archive_port.specs.declared.faults.StoreFault.{StoreFault}
use Rattle.archive_port.proofs.Joins.{asked_in, ask_refused_in, ask_failed_in, stays_there_in, goes_on_in, goes_on_in_if_open, goes_in_as, goes_in_as_if_open}
use Rattle.archive_pages.specs.Replies.{Reply, SendsReply, BreaksOffMbox, IsReplyOr503, IsReplyBrokenOff, mbox_reply, unavailable}
use Rattle.archive_pages.specs.Serving.{IsTrueOfEveryArchive, SendsFromArchive, ServesFromArchive, StoreKeepsArchive}
use Rattle.archive_pages.specs.declared.faults.ServeFault.{ServeFault}
use Rattle.archive_pages.specs.declared.faults.ServeFault.TheVariants.{Read, Write, Broken}

-- ---- a reply of which more is known

pub sends_as : (P Q : Reply → Type 0) (before after : List ℕ) (result : Result ℕ ServeFault) → ((r : Reply) → P r → Q r)
    → SendsReply P before after result → SendsReply Q before after result
sends_as P Q before after result weaker (reply, right, told) = (reply, weaker reply right, told)

-- and one that broke off
pub broken_as : (result : Result ℕ ServeFault) (P Q : ℕ → Type 0) → ((n : ℕ) → P n → Q n) → IsReplyBrokenOff result P → IsReplyBrokenOff result Q
broken_as (Ok status) P Q weaker it = absurd it
broken_as (Err Read) P Q weaker it = absurd it
broken_as (Err (Write written)) P Q weaker it = absurd it
broken_as (Err (Broken written)) P Q weaker it = weaker written it

pub breaks_as : (P Q : Reply → Type 0) (before after : List ℕ) (written : ℕ) → ((r : Reply) → P r → Q r)
    → BreaksOffMbox P before after written → BreaksOffMbox Q before after written
breaks_as P Q before after written weaker (text, right, some, part) = (text, weaker (mbox_reply text) right, some, part)

module _ {S W : Type 0} (g : Ghosts S W) where
  -- what goes so, goes so if the connection is open
  pub if_open : (old new : S) (R : Archive → Archive → Type 0) → RelatesTableArchives g old new R → RelatesTableArchivesIfOpen g old new R
  if_open old new R goes = (goes.0, (λ returned held up. goes.1 returned held))

  -- a question of the store that is never refused
  pub found : (old new : S) {A : Type 0} (result : Result A StoreFault) (answer : A) (Says : Archive → A → Type 0) → result ≡ Ok answer
      → StaysOpenUnlessDiskFails g old new → AnswersStoreQuestion g old new result (λ _. None) Says
      → RelatesTableArchives g old new (λ a b. (b ≡ a) × Says a answer)
  found old new result answer Says is lasts clause =
      goes_in_as g (HoldsTables g) old new (λ a b. (b ≡ a) × (◌≡◌ {A = Option Refusal} None None) × Says a answer) (λ a b. (b ≡ a) × Says a answer)
      (λ a b h. (h.0, h.2)) (asked_in g old new lasts result answer (λ _. None) Says is clause)

  not_found_by : (old new : S) {A : Type 0} (result : Result A StoreFault) (fault : StoreFault) (Says : Archive → A → Type 0) (o : Option Refusal)
      → refusal_of_fault fault ≡ o → result ≡ Err fault → StaysOpenUnlessDiskFails g old new → AnswersStoreQuestion g old new result (λ _. None) Says
      → RelatesTableArchivesIfOpen g old new (λ a b. b ≡ a)
  not_found_by old new result fault Says None told is lasts clause = ask_failed_in g old new lasts result fault (λ _. None) Says is told clause
  not_found_by old new result fault Says (Some why) told is lasts clause =
      if_open old new (λ a b. b ≡ a) (goes_in_as g (HoldsTables g) old new (λ a b. (b ≡ a) × (◌≡◌ {A = Option Refusal} None (Some why))) (λ a b. b ≡ a) (λ a b h. h.0)
      (ask_refused_in g old new lasts result fault why (λ _. None) Says is told clause))

  pub not_found : (old new : S) {A : Type 0} (result : Result A StoreFault) (fault : StoreFault) (Says : Archive → A → Type 0) → result ≡ Err fault
      → StaysOpenUnlessDiskFails g old new → AnswersStoreQuestion g old new result (λ _. None) Says → RelatesTableArchivesIfOpen g old new (λ a b. b ≡ a)
  not_found old new result fault Says is lasts clause = not_found_by old new result fault Says (refusal_of_fault fault) refl is lasts clause

  -- ---- what is written

  -- what was asked of an open store says nothing of a shut one
  pub asked_open : (old new : S) (Says : Archive → Type 0) → (StoreHasCleanDisk g new → IsOpen g old) → IsTrueOfEveryArchive g old new Says
  asked_open old new Says up = λ returned shut a. absurd (shut (up returned))

  module _ (before after : List ℕ) (result : Result ℕ ServeFault) where
    -- what goes out of a store that is shut
    abbrev OfShut : (Archive → Reply → Type 0) → Type 0
    OfShut Says = SendsReply (λ reply. (reply ≡ unavailable) ⊎ ((a : Archive) → Says a reply)) before after result

    pub of_shut_when : (Says Says' : Archive → Reply → Type 0) (P : Archive → Type 0) → ((a : Archive) (r : Reply) → P a → Says a r → Says' a r) → ((a : Archive) → P a)
        → OfShut Says → OfShut Says'
    of_shut_when Says Says' P says every sent = sends_as (λ r. (r ≡ unavailable) ⊎ ((a : Archive) → Says a r)) (λ r. (r ≡ unavailable) ⊎ ((a : Archive) → Says' a r)) before after result
        (λ r it. elim it [ inl none ↦ inl none | inr all ↦ inr (λ a. says a r (every a) (all a)) ]) sent

    -- a reply that no store is asked about
    pub serves_at_once : (store : S) (made : Reply) (Says : Archive → Reply → Type 0) → ((a : Archive) → Says a made)
        → SendsReply (λ r. r ≡ made) before after result → ServesFromArchive g store store Says before after result
    serves_at_once store made Says says sent = record {
      sends_from_archive = inl (goes_in_as g (HoldsTables g) store store (λ a b. b ≡ a) (λ a b. (b ≡ a) × SendsReply (Says a) before after result)
          (λ a b same. (same, sends_as (λ r. r ≡ made) (Says a) before after result (λ r is. subst (Says a) (sym is) (says a)) sent)) (stays_there_in g (HoldsTables g) store));
      when_store_closed = λ returned shut. sends_as (λ r. r ≡ made) (λ r. (r ≡ unavailable) ⊎ ((a : Archive) → Says a r)) before after result
          (λ r is. inr (λ a. subst (Says a) (sym is) (says a))) sent;
    }

    -- one that was made of what was found
    pub found_sent : (old new : S) (made : Reply) (Says : Archive → Reply → Type 0) → RelatesTableArchives g old new (λ a b. (b ≡ a) × Says a made)
        → SendsReply (IsReplyOr503 made) before after result
        → SendsFromArchive g old new Says before after result
    found_sent old new made Says goes (reply, inl is, told) = inl (goes_in_as g (HoldsTables g) old new (λ a b. (b ≡ a) × Says a made) (λ a b. (b ≡ a) × SendsReply (Says a) before after result)
        (λ a b h. (h.0, (reply, subst (Says a) (sym is) h.1, told))) goes)
    found_sent old new made Says goes (reply, inr is, told) =
        inr (inl (if_open old new (λ a b. b ≡ a) (goes_in_as g (HoldsTables g) old new (λ a b. (b ≡ a) × Says a made) (λ a b. b ≡ a) (λ a b h. h.0) goes), (reply, is, told)))

    pub serves_found : (old new : S) (made : Reply) (Says : Archive → Reply → Type 0)
        → RelatesTableArchives g old new (λ a b. (b ≡ a) × Says a made) × IsTrueOfEveryArchive g old new (λ a. Says a made)
        → SendsReply (IsReplyOr503 made) before after result → ServesFromArchive g old new Says before after result
    serves_found old new made Says goes sent = record {
      sends_from_archive = found_sent old new made Says goes.0 sent;
      when_store_closed = λ returned shut. sends_as (IsReplyOr503 made) (λ r. (r ≡ unavailable) ⊎ ((a : Archive) → Says a r)) before after result
          (λ r it. elim it [ inl is ↦ inr (λ a. subst (Says a) (sym is) (goes.1 returned shut a)) | inr none ↦ inl none ]) sent;
    }

    -- one that was not made, for want of memory or the database
    pub serves_none : (old new : S) (Says : Archive → Reply → Type 0) → RelatesTableArchivesIfOpen g old new (λ a b. b ≡ a)
        → SendsReply (λ r. r ≡ unavailable) before after result → ServesFromArchive g old new Says before after result
    serves_none old new Says goes sent = record {
      sends_from_archive = inr (inl (goes, sent));
      when_store_closed = λ returned shut. sends_as (λ r. r ≡ unavailable) (λ r. (r ≡ unavailable) ⊎ ((a : Archive) → Says a r)) before after result (λ r is. inl is) sent;
    }

    -- whatever was served, the store lasts
    pub serves_lasts : (old new : S) (Says : Archive → Reply → Type 0) → ServesFromArchive g old new Says before after result → StaysOpenUnlessDiskFails g old new
    serves_lasts old new Says serves = elim serves.sends_from_archive [ inl goes ↦ goes.0 | inr other ↦ elim other [ inl it ↦ it.0.0 | inr it ↦ it.0.0 ] ]

    -- a question before
    left_after : (old mid new : S) (P : Archive → Type 0) → RelatesTableArchives g old mid (λ a b. (b ≡ a) × P a) → RelatesTableArchivesIfOpen g mid new (λ a b. b ≡ a)
        → RelatesTableArchivesIfOpen g old new (λ a b. b ≡ a)
    left_after old mid new P first second = goes_in_as_if_open g (HoldsTables g) old new (λ a c. (b : Archive) × ((b ≡ a) × P a) × (c ≡ b)) (λ a c. c ≡ a) (λ a c (b, h, k). k ∙ h.0)
        (goes_on_in_if_open g (HoldsTables g) old mid new (λ a b. (b ≡ a) × P a) (λ b c. c ≡ b) first second)

    module _ (old mid new : S) (P : Archive → Type 0) (Says Says' : Archive → Reply → Type 0) (first : RelatesTableArchives g old mid (λ a b. (b ≡ a) × P a))
        (says : (a : Archive) (r : Reply) → P a → Says a r → Says' a r) where
      pub sent_after : SendsFromArchive g mid new Says before after result → SendsFromArchive g old new Says' before after result
      sent_after (inl second) =
          inl (goes_in_as g (HoldsTables g) old new (λ a c. (b : Archive) × ((b ≡ a) × P a) × ((c ≡ b) × SendsReply (Says b) before after result))
          (λ a c. (c ≡ a) × SendsReply (Says' a) before after result)
          (λ a c (b, h, k). (k.0 ∙ h.0, sends_as (Says a) (Says' a) before after result (λ r it. says a r h.1 it) (subst (λ x. SendsReply (Says x) before after result) h.0 k.1)))
          (goes_on_in g (HoldsTables g) old mid new (λ a b. (b ≡ a) × P a) (λ b c. (c ≡ b) × SendsReply (Says b) before after result) first second))
      sent_after (inr (inl (second, sent))) = inr (inl (left_after old mid new P first second, sent))
      sent_after (inr (inr (second, broken))) = inr (inr (
        left_after old mid new P first second,
        broken_as result (λ n. StoreHasCleanDisk g new → HoldsTables g mid → BreaksOffMbox (Says (archive_in g mid)) before after n)
            (λ n. StoreHasCleanDisk g new → HoldsTables g old → BreaksOffMbox (Says' (archive_in g old)) before after n)
            (λ n breaks returned held.
            let there = first.1 (second.0.disk_was_clean returned) held in
            breaks_as (Says (archive_in g mid)) (Says' (archive_in g old)) before after n
            (λ r it. says (archive_in g old) r there.1.1 (subst (λ x. Says x r) there.1.0 it)) (breaks returned there.0)) broken,
      ))

      pub serves_after : IsTrueOfEveryArchive g old mid P → ServesFromArchive g mid new Says before after result → ServesFromArchive g old new Says' before after result
      serves_after every second = record {
        sends_from_archive = sent_after second.sends_from_archive;
        when_store_closed = λ returned shut.
            let was = (serves_lasts mid new Says second).disk_was_clean returned in
            of_shut_when Says Says' P says (every was shut) (second.when_store_closed returned (λ up. shut (first.0.closed_stays_closed was up)));
      }

    -- what was found, or 503
    pub serves_either : (old new : S) {A F : Type 0} (search_result : Result A F) (made : A → Reply) (Holds : Archive → A → Type 0) (Says : Archive → Reply → Type 0)
        → MatchResult search_result (λ x. RelatesTableArchives g old new (λ a b. (b ≡ a) × Holds a x) × IsTrueOfEveryArchive g old new (λ a. Holds a x))
        (λ _. RelatesTableArchivesIfOpen g old new (λ a b. b ≡ a))
        → ((a : Archive) (x : A) → Holds a x → Says a (made x))
        → MatchResult search_result (λ x. SendsReply (IsReplyOr503 (made x)) before after result) (λ _. SendsReply (λ r. r ≡ unavailable) before after result)
        → ServesFromArchive g old new Says before after result
    serves_either old new (Ok x) made Holds Says goes says sent = serves_found old new (made x) Says (
      goes_in_as g (HoldsTables g) old new (λ a b. (b ≡ a) × Holds a x) (λ a b. (b ≡ a) × Says a (made x)) (λ a b h. (h.0, says a x h.1)) goes.0,
      (λ returned shut a. says a x (goes.1 returned shut a)),
    ) sent
    serves_either old new (Err e) made Holds Says goes says sent = serves_none old new Says goes sent

-- ---- what is left of the store

module _ {S W : Type 0} (g : Ghosts S W) where
  ready_at : (store : S) (result : Result ℕ ServeFault) → IfOk result (λ status. status ≢ 503 → RelatesTableArchives g store store (λ a b. b ≡ a))
  ready_at store (Ok status) = λ other. stays_there_in g (HoldsTables g) store
  ready_at store (Err e) = tt

  -- a store that nobody asked
  pub stays_unasked : (store : S) (result : Result ℕ ServeFault) → StoreKeepsArchive g store store result
  stays_unasked store result = record { archive_is_same = if_open g store store (λ a b. b ≡ a) (stays_there_in g (HoldsTables g) store); ready_unless_503 = ready_at store result }

  module _ (before after : List ℕ) (old new : S) (Says : Archive → Reply → Type 0) where
    same_left : (result : Result ℕ ServeFault) → ServesFromArchive g old new Says before after result → RelatesTableArchivesIfOpen g old new (λ a b. b ≡ a)
    same_left result serves = elim serves.sends_from_archive [
      | inl goes ↦ if_open g old new (λ a b. b ≡ a) (goes_in_as g (HoldsTables g) old new (λ a b. (b ≡ a) × SendsReply (Says a) before after result) (λ a b. b ≡ a) (λ a b h. h.0) goes)
      | inr other ↦ elim other [ inl it ↦ it.0 | inr it ↦ it.0 ]
    ]

    ready_left : (result : Result ℕ ServeFault) → ServesFromArchive g old new Says before after result
        → IfOk result (λ status. status ≢ 503 → RelatesTableArchives g old new (λ a b. b ≡ a))
    ready_left (Ok status) serves = λ other. elim serves.sends_from_archive [
      | inl goes ↦ goes_in_as g (HoldsTables g) old new (λ a b. (b ≡ a) × SendsReply (Says a) before after (Ok status)) (λ a b. b ≡ a) (λ a b h. h.0) goes
      | inr none ↦ elim none [ inl it ↦ absurd (other (it.1.2.0 ∙ ap (λ (r : Reply). r.status) it.1.1)) | inr it ↦ absurd it.1 ]
    ]
    ready_left (Err e) serves = tt

    -- one that a reply was made of
    pub stays_served : (result : Result ℕ ServeFault) → ServesFromArchive g old new Says before after result → StoreKeepsArchive g old new result
    stays_served result serves = record { archive_is_same = same_left result serves; ready_unless_503 = ready_left result serves }

  -- a store that was answered out of before
  pub same_after : (old mid new : S) → RelatesTableArchivesIfOpen g old mid (λ a b. b ≡ a) → RelatesTableArchivesIfOpen g mid new (λ a b. b ≡ a)
      → RelatesTableArchivesIfOpen g old new (λ a b. b ≡ a)
  same_after old mid new first second = (
    lasts_then g _ _ _ first.0 second.0,
    λ returned held up.
        let was = second.0.disk_was_clean returned in
        let there = first.1 was held (second.0.closed_stays_closed returned up) in
        let here = second.1 returned there.0 up in
        (here.0, here.1 ∙ there.1),
  )
