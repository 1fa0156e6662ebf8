-- Calls of a store that follow one another: what each says, in the words for the layers above, and how they join.
use Rattle.std.proofs.Common.{◌≡◌, sym, ap, subst, Option, Some, None, Result, Ok, Err}
use Rattle.sqlite.specs.Store.{Ghosts}
use Rattle.archive_model.specs.Records.{Archive}
use Rattle.archive_model.specs.Commands.{Refusal, CommandReply}
use Rattle.archive_model.specs.Machine.{StepOutcome}
use Rattle.archive_model.specs.Sound.{IsIndexedCorrectly, HasSoundMessages}
use Rattle.archive_tables.proofs.LastLemmas.{lasts_then}
use Rattle.archive_store.specs.Held.{store_connection}
use Rattle.archive_store.specs.declared.store.Store.{Store}
use Rattle.archive_port.specs.declared.faults.StoreFault.{StoreFault}
use Rattle.archive_store.specs.Checking.{ChecksArchive}
use Rattle.archive_port.specs.Replies.{refusal_of_fault}
use Rattle.archive_store.specs.Replies.{AnswersStoreQuestion, PerformsModelStep}
use Rattle.archive_store.specs.Told.{StoreHasCleanDisk, HoldsTables, IsReady, StaysOpenUnlessDiskFails, archive_in, RelatesArchivesUnder, RelatesArchivesUnderIfOpen, RelatesReadyArchives}
use Rattle.archive_store.specs.Told.{RelatesReadyArchivesIfOpen}

module _ {S : Type 0} (g : Ghosts S) where
  -- ---- from any columns to right ones

  -- what holds an archive in which what is filed is right
  pub ready_with : (store : Store S) (a : Archive) → HoldsTables g store → archive_in g store ≡ a → IsIndexedCorrectly a → IsReady g store
  ready_with store a held is right = record { is_archive_at_rest = held; is_indexed_correctly = subst IsIndexedCorrectly (sym is) right }

  -- who found a store whole may rely on it: it is ready, and each message is sound
  pub ready_by_check : (old new : Store S) (u : Unit {0}) → ChecksArchive g old new (Ok u) → StoreHasCleanDisk g new → HoldsTables g old → IsReady g new × HasSoundMessages (archive_in g new)
  ready_by_check old new u checks returned held =
      let it = checks.1 returned held in
      let whole = it.1.1 in
      (ready_with new (archive_in g old) it.0 it.1.0 whole.is_indexed_correctly, subst HasSoundMessages (sym it.1.0) whole.messages_are_sound)

  module _ (old new : Store S) where
    module _ (R : Archive → Archive → Type 0) (keeps : (a b : Archive) → R a b → IsIndexedCorrectly a → IsIndexedCorrectly b) where
      pub right_too : RelatesArchivesUnder g (HoldsTables g) old new R → RelatesReadyArchives g old new R
      right_too goes = (
        goes.0,
        λ returned ready.
            let it = goes.1 returned ready.is_archive_at_rest in
            (record { is_archive_at_rest = it.0; is_indexed_correctly = keeps _ _ it.1 ready.is_indexed_correctly }, it.1),
      )

      pub right_too_if_open : RelatesArchivesUnderIfOpen g (HoldsTables g) old new R → RelatesReadyArchivesIfOpen g old new R
      right_too_if_open goes = (
        goes.0,
        λ returned ready up.
            let it = goes.1 returned ready.is_archive_at_rest up in
            (record { is_archive_at_rest = it.0; is_indexed_correctly = keeps _ _ it.1 ready.is_indexed_correctly }, it.1),
      )

    -- what leaves the archive leaves it right
    module _ (R : Archive → Archive → Type 0) (same : (a b : Archive) → R a b → b ≡ a) where
      pub sound_too : RelatesArchivesUnder g (HoldsTables g) old new R → RelatesReadyArchives g old new R
      sound_too = right_too R (λ a b it right. subst IsIndexedCorrectly (sym (same a b it)) right)

      pub sound_too_if_open : RelatesArchivesUnderIfOpen g (HoldsTables g) old new R → RelatesReadyArchivesIfOpen g old new R
      sound_too_if_open = right_too_if_open R (λ a b it right. subst IsIndexedCorrectly (sym (same a b it)) right)

  -- ---- what a call of the store says

  module _ (old new : Store S) (lasts : StaysOpenUnlessDiskFails g old new) where
    -- a question that is answered
    pub asked : {A : Type 0} (result : Result A StoreFault) (answer : A) (refuses : Archive → Option Refusal) (Says : Archive → A → Type 0)
        → result ≡ Ok answer → AnswersStoreQuestion g (store_connection old) (store_connection new) result refuses Says
        → RelatesReadyArchives g old new (λ a b. (b ≡ a) × (refuses a ≡ None) × Says a answer)
    asked result answer refuses Says is clause =
        sound_too old new (λ a b. (b ≡ a) × (refuses a ≡ None) × Says a answer) (λ a b it. it.0)
        (lasts, λ returned held. let it = (rw is at clause) returned held in (it.0.0, (it.0.1, it.1, it.2)))

    -- one in which memory or the database was at fault
    pub ask_failed : {A : Type 0} (result : Result A StoreFault) (fault : StoreFault) (refuses : Archive → Option Refusal) (Says : Archive → A → Type 0)
        → result ≡ Err fault → refusal_of_fault fault ≡ None → AnswersStoreQuestion g (store_connection old) (store_connection new) result refuses Says
        → RelatesReadyArchivesIfOpen g old new (λ a b. b ≡ a)
    ask_failed result fault refuses Says is told clause =
        sound_too_if_open old new (λ a b. b ≡ a) (λ a b it. it) (lasts, λ returned held up. ((rw (is, told) at clause) returned held) up)

    -- a command that is answered or refused, where it leaves right what is filed (`RightLemmas`)
    pub stepped : (step : Archive → StepOutcome) (said : Option CommandReply) (reply : CommandReply) → ((a : Archive) → IsIndexedCorrectly a → IsIndexedCorrectly (step a).0) → said ≡ Some reply
        → PerformsModelStep g (store_connection old) (store_connection new) step said → RelatesReadyArchives g old new (λ a b. (b, reply) ≡ step a)
    stepped step said reply keeps is clause =
        right_too old new (λ a b. (b, reply) ≡ step a) (λ a b it right. subst IsIndexedCorrectly (sym (ap (λ (o : StepOutcome). o.0) it)) (keeps a right)) (lasts, (rw is at clause))

  -- ---- one call after the other

  pub goes_on : (old mid new : Store S) (R Q : Archive → Archive → Type 0) → RelatesReadyArchives g old mid R → RelatesReadyArchives g mid new Q
      → RelatesReadyArchives g old new (λ a c. (b : Archive) × R a b × Q b c)
  goes_on old mid new R Q first second = (
    lasts_then _ _ _ first.0 second.0,
    (λ returned held.
        let one = first.1 (second.0.disk_was_clean returned) held in
        let two = second.1 returned one.0 in
        (two.0, (archive_in g mid, one.1, two.1))),
  )

  pub goes_on_if_open : (old mid new : Store S) (R Q : Archive → Archive → Type 0) → RelatesReadyArchives g old mid R → RelatesReadyArchivesIfOpen g mid new Q
      → RelatesReadyArchivesIfOpen g old new (λ a c. (b : Archive) × R a b × Q b c)
  goes_on_if_open old mid new R Q first second = (
    lasts_then _ _ _ first.0 second.0,
    (λ returned held up.
        let one = first.1 (second.0.disk_was_clean returned) held in
        let two = second.1 returned one.0 up in
        (two.0, (archive_in g mid, one.1, two.1))),
  )

  module _ (old new : Store S) (R Q : Archive → Archive → Type 0) (weaker : (a b : Archive) → R a b → Q a b) where
    pub goes_as : RelatesReadyArchives g old new R → RelatesReadyArchives g old new Q
    goes_as goes = (goes.0, (λ returned held. let it = goes.1 returned held in (it.0, weaker _ _ it.1)))

    pub goes_as_if_open : RelatesReadyArchivesIfOpen g old new R → RelatesReadyArchivesIfOpen g old new Q
    goes_as_if_open goes = (goes.0, (λ returned held up. let it = goes.1 returned held up in (it.0, weaker _ _ it.1)))
