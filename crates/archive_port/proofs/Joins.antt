-- Calls that follow one another: what each says, in the words for the layers above, and how they join.
use Rattle.std.proofs.Common.{◌≡◌, refl, sym, ap, subst, Option, Some, None, Result, Ok, Err}
use Rattle.std.specs.Prelude.{MatchOption}
use Rattle.archive_port.specs.declared.state.ArchiveState.{Ghosts}
use Rattle.archive_model.specs.Records.{Archive}
use Rattle.archive_model.specs.Commands.{Refusal, CommandReply}
use Rattle.archive_model.specs.Machine.{StepOutcome}
use Rattle.archive_model.specs.Sound.{IsIndexedCorrectly, HasSoundMessages}
use Rattle.archive_port.proofs.LastLemmas.{lasts_then, lasts_same}
use Rattle.archive_port.specs.declared.faults.StoreFault.{StoreFault}
use Rattle.archive_port.specs.Checking.{ChecksArchive}
use Rattle.archive_port.specs.Replies.{refusal_of_fault}
use Rattle.archive_port.specs.Told.{AnswersStoreQuestion, PerformsModelStep}
use Rattle.archive_port.specs.Told.{StoreHasCleanDisk, HoldsTables, IsReady, StaysOpenUnlessDiskFails, archive_in, RelatesArchivesUnder}
use Rattle.archive_port.specs.Told.{RelatesArchivesUnderIfOpen, CallsStoreUnder, AnswersFromStoreUnder, RelatesReadyArchives, RelatesReadyArchivesIfOpen, CallsReadyStore, AnswersFromReadyStore}

module _ {S W : Type 0} (g : Ghosts S W) where
  -- ---- from any columns to right ones

  -- what holds an archive in which what is filed is right
  pub ready_with : (store : S) (a : Archive) → HoldsTables g store → archive_in g store ≡ a → IsIndexedCorrectly a → IsReady g store
  ready_with store a held is right = record { is_archive_at_rest = held; is_indexed_correctly = subst IsIndexedCorrectly (sym is) right }

  -- who found a store whole may rely on it: it is ready, and each message is sound
  pub ready_by_check : (old new : S) (u : Unit {0}) → ChecksArchive g old new (Ok u) → StoreHasCleanDisk g new → HoldsTables g old → IsReady g new × HasSoundMessages (archive_in g new)
  ready_by_check old new u checks returned held =
      let it = checks.1 returned held in
      let whole = it.1.1 in
      (ready_with new (archive_in g old) it.0 it.1.0 whole.is_indexed_correctly, subst HasSoundMessages (sym it.1.0) whole.messages_are_sound)

  module _ (old new : S) where
    module _ (R : Archive → Archive → Type 0) (keeps : (a b : Archive) → R a b → IsIndexedCorrectly a → IsIndexedCorrectly b) where
      pub right_too : RelatesArchivesUnder g (HoldsTables g) old new R → RelatesReadyArchives g old new R
      right_too goes = (
        goes.0,
        λ returned ready.
            let it = goes.1 returned ready.is_archive_at_rest in
            (record { is_archive_at_rest = it.0; is_indexed_correctly = keeps _ _ it.1 ready.is_indexed_correctly }, it.1),
      )

      pub right_too_if_open : RelatesArchivesUnderIfOpen g (HoldsTables g) old new R → RelatesReadyArchivesIfOpen g old new R
      right_too_if_open goes = (
        goes.0,
        λ returned ready up.
            let it = goes.1 returned ready.is_archive_at_rest up in
            (record { is_archive_at_rest = it.0; is_indexed_correctly = keeps _ _ it.1 ready.is_indexed_correctly }, it.1),
      )

    -- what leaves the archive leaves it right
    module _ (R : Archive → Archive → Type 0) (same : (a b : Archive) → R a b → b ≡ a) where
      pub sound_too : RelatesArchivesUnder g (HoldsTables g) old new R → RelatesReadyArchives g old new R
      sound_too = right_too R (λ a b it right. subst IsIndexedCorrectly (sym (same a b it)) right)

      pub sound_too_if_open : RelatesArchivesUnderIfOpen g (HoldsTables g) old new R → RelatesReadyArchivesIfOpen g old new R
      sound_too_if_open = right_too_if_open R (λ a b it right. subst IsIndexedCorrectly (sym (same a b it)) right)

    module _ {A F R : Type 0} (reason : F → Option R) (Says : Archive → Archive → A → Type 0) (Refuses : Archive → Archive → R → Type 0)
        (Stops : Archive → Archive → F → Type 0) (says : (a b : Archive) (answer : A) → Says a b answer → b ≡ a)
        (refuses : (a b : Archive) (why : R) → Refuses a b why → b ≡ a) (stops : (a b : Archive) (fault : F) → Stops a b fault → b ≡ a) where
      pub calls_too : (result : Result A F) → CallsStoreUnder g (HoldsTables g) old new reason result Says Refuses Stops → CallsReadyStore g old new reason result Says Refuses Stops
      calls_too (Ok answer) call = sound_too (λ a b. Says a b answer) (λ a b it. says a b answer it) call
      calls_too (Err fault) call = by_reason (reason fault) call
        where
          by_reason : (r : Option R)
              → MatchOption r (RelatesArchivesUnderIfOpen g (HoldsTables g) old new (λ a b. Stops a b fault)) (λ why. RelatesArchivesUnder g (HoldsTables g) old new (λ a b. Refuses a b why))
              → MatchOption r (RelatesReadyArchivesIfOpen g old new (λ a b. Stops a b fault)) (λ why. RelatesReadyArchives g old new (λ a b. Refuses a b why))
          by_reason None goes = sound_too_if_open (λ a b. Stops a b fault) (λ a b it. stops a b fault it) goes
          by_reason (Some why) goes = sound_too (λ a b. Refuses a b why) (λ a b it. refuses a b why it) goes

    -- a question
    pub asks_too : {A F R : Type 0} (reason : F → Option R) (result : Result A F) (refuses : Archive → Option R) (Says : Archive → A → Type 0)
        → AnswersFromStoreUnder g (HoldsTables g) old new reason result refuses Says → AnswersFromReadyStore g old new reason result refuses Says
    asks_too reason result refuses Says asks =
        calls_too reason (λ a b answer. (b ≡ a) × (refuses a ≡ None) × Says a answer) (λ a b why. (b ≡ a) × (refuses a ≡ Some why)) (λ a b _. b ≡ a)
        (λ a b answer it. it.0) (λ a b why it. it.0) (λ a b fault it. it) result asks

  -- ---- what a call of the store says

  module _ (old new : S) (lasts : StaysOpenUnlessDiskFails g old new) where
    -- a question that is answered, whatever is filed
    pub asked_in : {A : Type 0} (result : Result A StoreFault) (answer : A) (refuses : Archive → Option Refusal) (Says : Archive → A → Type 0)
        → result ≡ Ok answer → AnswersStoreQuestion g old new result refuses Says
        → RelatesArchivesUnder g (HoldsTables g) old new (λ a b. (b ≡ a) × (refuses a ≡ None) × Says a answer)
    asked_in result answer refuses Says is clause = (
      lasts,
      λ returned held.
          let it = (rw is at clause) returned held in
          (it.0.0, (it.0.1, it.1, it.2)),
    )

    -- one that is refused
    pub ask_refused_in : {A : Type 0} (result : Result A StoreFault) (fault : StoreFault) (why : Refusal) (refuses : Archive → Option Refusal) (Says : Archive → A → Type 0)
        → result ≡ Err fault → refusal_of_fault fault ≡ Some why → AnswersStoreQuestion g old new result refuses Says
        → RelatesArchivesUnder g (HoldsTables g) old new (λ a b. (b ≡ a) × (refuses a ≡ Some why))
    ask_refused_in result fault why refuses Says is told clause = (
      lasts,
      λ returned held.
          let it = (rw (is, told) at clause) returned held in
          (it.0.0, (it.0.1, it.1)),
    )

    -- one in which memory or the disk was at fault
    pub ask_failed_in : {A : Type 0} (result : Result A StoreFault) (fault : StoreFault) (refuses : Archive → Option Refusal) (Says : Archive → A → Type 0)
        → result ≡ Err fault → refusal_of_fault fault ≡ None → AnswersStoreQuestion g old new result refuses Says
        → RelatesArchivesUnderIfOpen g (HoldsTables g) old new (λ a b. b ≡ a)
    ask_failed_in result fault refuses Says is told clause = (lasts, λ returned held up. ((rw (is, told) at clause) returned held) up)

    -- the same of a store that is ready
    pub asked : {A : Type 0} (result : Result A StoreFault) (answer : A) (refuses : Archive → Option Refusal) (Says : Archive → A → Type 0)
        → result ≡ Ok answer → AnswersStoreQuestion g old new result refuses Says
        → RelatesReadyArchives g old new (λ a b. (b ≡ a) × (refuses a ≡ None) × Says a answer)
    asked result answer refuses Says is clause =
        sound_too old new (λ a b. (b ≡ a) × (refuses a ≡ None) × Says a answer) (λ a b it. it.0) (asked_in result answer refuses Says is clause)

    pub ask_refused : {A : Type 0} (result : Result A StoreFault) (fault : StoreFault) (why : Refusal) (refuses : Archive → Option Refusal) (Says : Archive → A → Type 0)
        → result ≡ Err fault → refusal_of_fault fault ≡ Some why → AnswersStoreQuestion g old new result refuses Says
        → RelatesReadyArchives g old new (λ a b. (b ≡ a) × (refuses a ≡ Some why))
    ask_refused result fault why refuses Says is told clause =
        sound_too old new (λ a b. (b ≡ a) × (refuses a ≡ Some why)) (λ a b it. it.0) (ask_refused_in result fault why refuses Says is told clause)

    pub ask_failed : {A : Type 0} (result : Result A StoreFault) (fault : StoreFault) (refuses : Archive → Option Refusal) (Says : Archive → A → Type 0)
        → result ≡ Err fault → refusal_of_fault fault ≡ None → AnswersStoreQuestion g old new result refuses Says
        → RelatesReadyArchivesIfOpen g old new (λ a b. b ≡ a)
    ask_failed result fault refuses Says is told clause =
        sound_too_if_open old new (λ a b. b ≡ a) (λ a b it. it) (ask_failed_in result fault refuses Says is told clause)

    -- a command that is answered or refused, where it leaves right what is filed (`RightLemmas`)
    pub stepped : (step : Archive → StepOutcome) (said : Option CommandReply) (reply : CommandReply) → ((a : Archive) → IsIndexedCorrectly a → IsIndexedCorrectly (step a).0) → said ≡ Some reply
        → PerformsModelStep g old new step said → RelatesReadyArchives g old new (λ a b. (b, reply) ≡ step a)
    stepped step said reply keeps is clause =
        right_too old new (λ a b. (b, reply) ≡ step a) (λ a b it right. subst IsIndexedCorrectly (sym (ap (λ (o : StepOutcome). o.0) it)) (keeps a right)) (lasts, (rw is at clause))

    -- one in which memory or the disk was at fault
    pub step_failed : (step : Archive → StepOutcome) (said : Option CommandReply) → said ≡ None → PerformsModelStep g old new step said
        → RelatesReadyArchivesIfOpen g old new (λ a b. b ≡ a)
    step_failed step said is clause = sound_too_if_open old new (λ a b. b ≡ a) (λ a b it. it) (lasts, λ returned held up. let it = (rw is at clause) returned held up in (it.0, it.1))

  -- ---- one call after the other, under a premise

  module _ (Premise : S → Type 0) where
    pub stays_there_in : (store : S) → RelatesArchivesUnder g Premise store store (λ a b. b ≡ a)
    stays_there_in store = (lasts_same g store, (λ returned held. (held, refl)))

    pub goes_on_in : (old mid new : S) (R Q : Archive → Archive → Type 0) → RelatesArchivesUnder g Premise old mid R → RelatesArchivesUnder g Premise mid new Q
        → RelatesArchivesUnder g Premise old new (λ a c. (b : Archive) × R a b × Q b c)
    goes_on_in old mid new R Q first second = (
      lasts_then g old mid new first.0 second.0,
      (λ returned held.
          let one = first.1 (second.0.disk_was_clean returned) held in
          let two = second.1 returned one.0 in
          (two.0, (archive_in g mid, one.1, two.1))),
    )

    pub goes_on_in_if_open : (old mid new : S) (R Q : Archive → Archive → Type 0) → RelatesArchivesUnder g Premise old mid R → RelatesArchivesUnderIfOpen g Premise mid new Q
        → RelatesArchivesUnderIfOpen g Premise old new (λ a c. (b : Archive) × R a b × Q b c)
    goes_on_in_if_open old mid new R Q first second = (
      lasts_then g old mid new first.0 second.0,
      (λ returned held up.
          let one = first.1 (second.0.disk_was_clean returned) held in
          let two = second.1 returned one.0 up in
          (two.0, (archive_in g mid, one.1, two.1))),
    )

    module _ (old new : S) (R Q : Archive → Archive → Type 0) (weaker : (a b : Archive) → R a b → Q a b) where
      pub goes_in_as : RelatesArchivesUnder g Premise old new R → RelatesArchivesUnder g Premise old new Q
      goes_in_as goes = (goes.0, (λ returned held. let it = goes.1 returned held in (it.0, weaker _ _ it.1)))

      pub goes_in_as_if_open : RelatesArchivesUnderIfOpen g Premise old new R → RelatesArchivesUnderIfOpen g Premise old new Q
      goes_in_as_if_open goes = (goes.0, (λ returned held up. let it = goes.1 returned held up in (it.0, weaker _ _ it.1)))

  -- ---- the same of a store that is ready

  pub stays_there : (store : S) → RelatesReadyArchives g store store (λ a b. b ≡ a)
  stays_there store = stays_there_in (IsReady g) store

  pub goes_on : (old mid new : S) (R Q : Archive → Archive → Type 0) → RelatesReadyArchives g old mid R → RelatesReadyArchives g mid new Q
      → RelatesReadyArchives g old new (λ a c. (b : Archive) × R a b × Q b c)
  goes_on old mid new R Q first second = goes_on_in (IsReady g) old mid new R Q first second

  pub goes_on_if_open : (old mid new : S) (R Q : Archive → Archive → Type 0) → RelatesReadyArchives g old mid R → RelatesReadyArchivesIfOpen g mid new Q
      → RelatesReadyArchivesIfOpen g old new (λ a c. (b : Archive) × R a b × Q b c)
  goes_on_if_open old mid new R Q first second = goes_on_in_if_open (IsReady g) old mid new R Q first second

  module _ (old new : S) (R Q : Archive → Archive → Type 0) (weaker : (a b : Archive) → R a b → Q a b) where
    pub goes_as : RelatesReadyArchives g old new R → RelatesReadyArchives g old new Q
    goes_as goes = goes_in_as (IsReady g) old new R Q weaker goes

    pub goes_as_if_open : RelatesReadyArchivesIfOpen g old new R → RelatesReadyArchivesIfOpen g old new Q
    goes_as_if_open goes = goes_in_as_if_open (IsReady g) old new R Q weaker goes

  -- ---- a fault that has a reason, and one that has none

  module _ (old new : S) {A F R : Type 0} (reason : F → Option R) (fault : F) (Says : Archive → Archive → A → Type 0)
      (Refuses : Archive → Archive → R → Type 0) (Stops : Archive → Archive → F → Type 0) where
    pub calls_refused : (why : R) → reason fault ≡ Some why → RelatesReadyArchives g old new (λ a b. Refuses a b why) → CallsReadyStore g old new {A = A} reason (Err fault) Says Refuses Stops
    calls_refused why is goes = rw is goes

    pub calls_failed : reason fault ≡ None → RelatesReadyArchivesIfOpen g old new (λ a b. Stops a b fault) → CallsReadyStore g old new {A = A} reason (Err fault) Says Refuses Stops
    calls_failed is goes = rw is goes
