-- Calls that follow one another, whatever they answer.
use Rattle.std.proofs.Common.{◌≡◌, ◌∙◌, refl, sym, subst, Option, Some, None, Result, Ok, Err}
use Rattle.std.specs.Prelude.{⊤, MatchOption, option_map}
use Rattle.archive_port.specs.declared.state.ArchiveState.{Ghosts}
use Rattle.archive_model.specs.Records.{Archive}
use Rattle.archive_model.specs.Commands.{Refusal}
use Rattle.archive_model.specs.Sound.{IsIndexedCorrectly}
use Rattle.archive_port.specs.declared.faults.StoreFault.{StoreFault}
use Rattle.archive_port.specs.Replies.{refusal_of_fault}
use Rattle.archive_port.specs.Told.{AnswersStoreQuestion, HoldsTables, StoreHasCleanDisk, IsOpen, StaysOpenUnlessDiskFails, WasOpen, RelatesArchivesUnder, CallsStoreUnder, AnswersFromStoreUnder}
use Rattle.archive_port.specs.Told.{CallsReadyStore, AnswersFromReadyStore}
use Rattle.archive_port.proofs.Joins.{asked_in, asks_too, goes_on_in, goes_on_in_if_open, goes_in_as, goes_in_as_if_open, right_too, right_too_if_open}
use Rattle.archive_desk.specs.Holding.{CallsStoreWithTables}

-- ---- a fault that has a reason, and one that has none

-- what follows of either
pub by_reason : {R N X : Type 0} (r : Option R) {P : R → Type 0} → MatchOption r N P → (N → X) → ((why : R) → P why → X) → X
by_reason None it none some = none it
by_reason (Some why) it none some = some why it

-- what follows of each
pub each_reason : {R N N' : Type 0} (r : Option R) {P P' : R → Type 0} → MatchOption r N P → (N → N') → ((why : R) → P why → P' why) → MatchOption r N' P'
each_reason None it none some = none it
each_reason (Some why) it none some = some why it

-- the same, in the reasons of a layer above
pub reason_above : {R Q N N' : Type 0} (r : Option R) (say : R → Q) {P : R → Type 0} (P' : Q → Type 0) → MatchOption r N P → (N → N') → ((why : R) → P why → P' (say why))
    → MatchOption (option_map say r) N' P'
reason_above None say P' it none some = none it
reason_above (Some why) say P' it none some = some why it

-- what is told of either under two premises
pub reason_told : {R C H : Type 0} (r : Option R) (N : Type 0) (P : R → Type 0) → (C → H → MatchOption r N P) → MatchOption r (C → H → N) (λ why. C → H → P why)
reason_told None N P it = it
reason_told (Some why) N P it = it

-- what calls leave of the archive, of all that they say
pub unchanged : {L C H K E X Y : Type 0} → L × (C → H → K × (E × X × Y)) → L × (C → H → K × E)
unchanged it = (it.0, λ returned held. let there = it.1 returned held in (there.0, there.1.0))

module _ {S W : Type 0} (g : Ghosts S W) where
  -- a question of the store, whatever is filed, in the words for the layers above
  pub store_asked : {A : Type 0} (old new : S) (result : Result A StoreFault) (refuses : Archive → Option Refusal) (Says : Archive → A → Type 0)
      → StaysOpenUnlessDiskFails g old new → AnswersStoreQuestion g old new result refuses Says
      → AnswersFromStoreUnder g (HoldsTables g) old new refusal_of_fault result refuses Says
  store_asked old new (Ok answer) refuses Says lasts clause = asked_in g old new lasts (Ok answer) answer refuses Says refl clause
  store_asked old new (Err fault) refuses Says lasts clause = each_reason (refusal_of_fault fault) (reason_told (refusal_of_fault fault) _ _ clause) (λ it. (lasts, it))
      (λ why it. (lasts, λ returned held. let there = it returned held in (there.0.0, (there.0.1, there.1))))

  module _ (Premise : S → Type 0) (old mid new : S) {A F R : Type 0} (reason : F → Option R) (Before : Archive → Archive → Type 0)
      (Says Says' : Archive → Archive → A → Type 0) (Refuses Refuses' : Archive → Archive → R → Type 0) (Stops Stops' : Archive → Archive → F → Type 0)
      (says : (a b c : Archive) (answer : A) → Before a b → Says b c answer → Says' a c answer)
      (refuses : (a b c : Archive) (why : R) → Before a b → Refuses b c why → Refuses' a c why)
      (stops : (a b c : Archive) (fault : F) → Before a b → Stops b c fault → Stops' a c fault) where
    -- a call after others
    pub calls_after : (result : Result A F) → RelatesArchivesUnder g Premise old mid Before → CallsStoreUnder g Premise mid new reason result Says Refuses Stops
        → CallsStoreUnder g Premise old new reason result Says' Refuses' Stops'
    calls_after (Ok answer) before call =
        goes_in_as g Premise old new (λ a c. (b : Archive) × Before a b × Says b c answer) (λ a c. Says' a c answer) (λ a c h. says a h.0 c answer h.1 h.2)
        (goes_on_in g Premise old mid new Before (λ b c. Says b c answer) before call)
    calls_after (Err fault) before call = each_reason (reason fault) call
        (λ last. goes_in_as_if_open g Premise old new (λ a c. (b : Archive) × Before a b × Stops b c fault) (λ a c. Stops' a c fault) (λ a c h. stops a h.0 c fault h.1 h.2)
        (goes_on_in_if_open g Premise old mid new Before (λ b c. Stops b c fault) before last))
        (λ why last. goes_in_as g Premise old new (λ a c. (b : Archive) × Before a b × Refuses b c why) (λ a c. Refuses' a c why) (λ a c h. refuses a h.0 c why h.1 h.2)
        (goes_on_in g Premise old mid new Before (λ b c. Refuses b c why) before last))

  module _ (Premise : S → Type 0) (old mid new : S) {A F R : Type 0} (reason : F → Option R) (There First : Archive → Type 0) (refuses refuses' : Archive → Option R)
      (Says Says' : Archive → A → Type 0) (none : (a : Archive) → There a → First a → refuses a ≡ None → refuses' a ≡ None)
      (some : (a : Archive) (why : R) → There a → First a → refuses a ≡ Some why → refuses' a ≡ Some why)
      (says : (a : Archive) (answer : A) → There a → First a → Says a answer → Says' a answer) where
    -- a question after calls that left the archive, and found two things of it
    pub asks_after : (result : Result A F) → RelatesArchivesUnder g Premise old mid (λ a b. (b ≡ a) × There a × First a) → AnswersFromStoreUnder g Premise mid new reason result refuses Says
        → AnswersFromStoreUnder g Premise old new reason result refuses' Says'
    asks_after =
        calls_after Premise old mid new reason (λ a b. (b ≡ a) × There a × First a) (λ a b answer. (b ≡ a) × (refuses a ≡ None) × Says a answer)
        (λ a b answer. (b ≡ a) × (refuses' a ≡ None) × Says' a answer) (λ a b why. (b ≡ a) × (refuses a ≡ Some why)) (λ a b why. (b ≡ a) × (refuses' a ≡ Some why)) (λ a b _. b ≡ a) (λ a b _. b ≡ a)
        (λ a b c answer first it. (
          it.0 ∙ first.0,
          none a first.1 first.2 (subst (λ x. refuses x ≡ None) first.0 it.1),
          says a answer first.1 first.2 (subst (λ x. Says x answer) first.0 it.2),
        ))
        (λ a b c why first it. (it.0 ∙ first.0, some a why first.1 first.2 (subst (λ x. refuses x ≡ Some why) first.0 it.1))) (λ a b c fault first it. it ∙ first.0)

  -- ---- a store that was open

  module _ (Premise : S → Type 0) (old new : S) {A F R : Type 0} (reason : F → Option R) (Says : Archive → Archive → A → Type 0)
      (Refuses : Archive → Archive → R → Type 0) (Stops : Archive → Archive → F → Type 0) where
    -- whatever a call answers, the store lasts
    pub calls_last : (result : Result A F) → CallsStoreUnder g Premise old new reason result Says Refuses Stops → StaysOpenUnlessDiskFails g old new
    calls_last (Ok answer) it = it.0
    calls_last (Err fault) it = by_reason (reason fault) it (λ last. last.0) (λ why last. last.0)

  pub asks_last : (Premise : S → Type 0) (old new : S) {A F R : Type 0} (reason : F → Option R) (refuses : Archive → Option R) (Says : Archive → A → Type 0)
      (result : Result A F) → AnswersFromStoreUnder g Premise old new reason result refuses Says → StaysOpenUnlessDiskFails g old new
  asks_last Premise old new reason refuses Says result it = calls_last Premise old new reason
      (λ a b answer. (b ≡ a) × (refuses a ≡ None) × Says a answer) (λ a b why. (b ≡ a) × (refuses a ≡ Some why)) (λ a b _. b ≡ a) result it

  pub was_open_by : (old new : S) {A F R : Type 0} (reason : F → Option R) (result : Result A F) → (StoreHasCleanDisk g new → IsOpen g old) → WasOpen g old new reason result
  was_open_by old new reason (Ok answer) up = up
  was_open_by old new {R = R} reason (Err fault) up = λ returned. where_told (reason fault) (up returned)
    where
      where_told : (r : Option R) → IsOpen g old → MatchOption r ⊤ (λ _. IsOpen g old)
      where_told None it = tt
      where_told (Some why) it = it

  -- the fault of a layer above, which has a reason where this one has
  pub was_open_as : (old new : S) (A B : Type 0) {F G R Q : Type 0} (reason : F → Option R) (above : G → Option Q) (say : R → Q) (fault : F) (told : G)
      → above told ≡ option_map say (reason fault) → WasOpen g old new {A = A} reason (Err fault) → WasOpen g old new {A = B} above (Err told)
  was_open_as old new A B reason above say fault told is it = λ returned. rw is (reason_above (reason fault) say (λ _. IsOpen g old) (it returned) (λ up. up) (λ why up. up))

  -- ---- of a store that is ready

  -- a call that leaves right what is filed
  module _ (old new : S) {A F R : Type 0} (reason : F → Option R) (Says : Archive → Archive → A → Type 0) (Refuses : Archive → Archive → R → Type 0)
      (Stops : Archive → Archive → F → Type 0) (says : (a b : Archive) (answer : A) → Says a b answer → IsIndexedCorrectly a → IsIndexedCorrectly b)
      (refuses : (a b : Archive) (why : R) → Refuses a b why → IsIndexedCorrectly a → IsIndexedCorrectly b)
      (stops : (a b : Archive) (fault : F) → Stops a b fault → IsIndexedCorrectly a → IsIndexedCorrectly b) where
    pub calls_right : (result : Result A F) → CallsStoreWithTables g old new reason result Says Refuses Stops → CallsReadyStore g old new reason result Says Refuses Stops
    calls_right (Ok answer) call = right_too g old new (λ a b. Says a b answer) (λ a b it. says a b answer it) call
    calls_right (Err fault) call = each_reason (reason fault) call (right_too_if_open g old new (λ a b. Stops a b fault) (λ a b it. stops a b fault it))
        (λ why. right_too g old new (λ a b. Refuses a b why) (λ a b it. refuses a b why it))

  -- a question, where what is filed is right
  module _ (old new : S) {A F R : Type 0} (reason : F → Option R) (refuses : Archive → Option R) (Says Says' : Archive → A → Type 0)
      (says : (a : Archive) (answer : A) → IsIndexedCorrectly a → Says a answer → Says' a answer) where
    pub asks_right : (result : Result A F) → AnswersFromStoreUnder g (HoldsTables g) old new reason result refuses Says → AnswersFromReadyStore g old new reason result refuses Says'
    asks_right (Ok answer) it = (
      it.0,
      λ returned ready.
          let here = it.1 returned ready.is_archive_at_rest in (
            record { is_archive_at_rest = here.0; is_indexed_correctly = subst IsIndexedCorrectly (sym here.1.0) ready.is_indexed_correctly },
            (here.1.0, here.1.1, says _ answer ready.is_indexed_correctly here.1.2),
          ),
    )
    asks_right (Err fault) it = asks_too g old new reason (Err fault) refuses Says it
