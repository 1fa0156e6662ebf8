-- Worked examples of calls that follow one another: they name neither tables nor a database.
use Rattle.std.proofs.Common.{◌≡◌, ap, subst, ◌∙◌, Option, Some, None, Result, Ok, Err}
use Rattle.sqlite.specs.Store.{Ghosts}
use Rattle.archive_model.specs.Records.{Archive}
use Rattle.archive_model.specs.Commands.{Refusal, CommandReply}
use Rattle.archive_model.specs.Machine.{StepOutcome}
use Rattle.archive_model.specs.Sound.{IsIndexedCorrectly}
use Rattle.archive_store.specs.Held.{store_connection}
use Rattle.archive_store.specs.declared.store.Store.{Store}
use Rattle.archive_port.specs.declared.faults.StoreFault.{StoreFault}
use Rattle.archive_port.specs.Replies.{refusal_of_fault}
use Rattle.archive_store.specs.Replies.{AnswersStoreQuestion, PerformsModelStep}
use Rattle.archive_store.specs.Told.{StaysOpenUnlessDiskFails, RelatesReadyArchives, RelatesReadyArchivesIfOpen}
use Rattle.archive_store.proofs.Joins.{asked, ask_failed, stepped, goes_on, goes_on_if_open, goes_as, goes_as_if_open}

abbrev NotRefused : Type 0
NotRefused = ◌≡◌ {A = Option Refusal} None None

module _ {S : Type 0} (g : Ghosts S) (old mid new : Store S) {A B : Type 0} (first : Result A StoreFault) (second : Result B StoreFault)
    (SaysFirst : Archive → A → Type 0) (SaysSecond : Archive → B → Type 0)
    (lasts_first : StaysOpenUnlessDiskFails g old mid) (lasts_second : StaysOpenUnlessDiskFails g mid new)
    (asks_second : AnswersStoreQuestion g (store_connection mid) (store_connection new) second (λ _. None) SaysSecond) where
  -- two questions that are answered
  two_questions : (a : A) (b : B) → first ≡ Ok a → second ≡ Ok b → AnswersStoreQuestion g (store_connection old) (store_connection mid) first (λ _. None) SaysFirst
      → RelatesReadyArchives g old new (λ x z. (z ≡ x) × SaysFirst x a × SaysSecond x b)
  two_questions a b is_a is_b asks_first =
      goes_as g old new (λ x z. (y : Archive) × ((y ≡ x) × NotRefused × SaysFirst x a) × ((z ≡ y) × NotRefused × SaysSecond y b)) (λ x z. (z ≡ x) × SaysFirst x a × SaysSecond x b)
      (λ x z h. (h.2.0 ∙ h.1.0, h.1.2, subst (λ y. SaysSecond y b) h.1.0 h.2.2))
      (goes_on g old mid new (λ x y. (y ≡ x) × NotRefused × SaysFirst x a) (λ y z. (z ≡ y) × NotRefused × SaysSecond y b)
      (asked g old mid lasts_first first a (λ _. None) SaysFirst is_a asks_first) (asked g mid new lasts_second second b (λ _. None) SaysSecond is_b asks_second))

  -- a command, and then a question that is answered from what it made
  command_and_question : (step : Archive → StepOutcome) (said : Option CommandReply) (reply : CommandReply) (b : B) → ((x : Archive) → IsIndexedCorrectly x → IsIndexedCorrectly (step x).0)
      → said ≡ Some reply → second ≡ Ok b → PerformsModelStep g (store_connection old) (store_connection mid) step said
      → RelatesReadyArchives g old new (λ x z. (z ≡ (step x).0) × SaysSecond (step x).0 b)
  command_and_question step said reply b keeps is_said is_b does =
      goes_as g old new (λ x z. (y : Archive) × ((y, reply) ≡ step x) × ((z ≡ y) × NotRefused × SaysSecond y b)) (λ x z. (z ≡ (step x).0) × SaysSecond (step x).0 b)
      (λ x z h. let made = ap (λ (o : StepOutcome). o.0) h.1 in (h.2.0 ∙ made, subst (λ y. SaysSecond y b) made h.2.2))
      (goes_on g old mid new (λ x y. (y, reply) ≡ step x) (λ y z. (z ≡ y) × NotRefused × SaysSecond y b)
      (stepped g old mid lasts_first step said reply keeps is_said does) (asked g mid new lasts_second second b (λ _. None) SaysSecond is_b asks_second))

  -- a question that is answered, and one in which memory or the database was at fault
  question_and_fault : (a : A) (fault : StoreFault) → first ≡ Ok a → second ≡ Err fault → refusal_of_fault fault ≡ None
      → AnswersStoreQuestion g (store_connection old) (store_connection mid) first (λ _. None) SaysFirst
      → RelatesReadyArchivesIfOpen g old new (λ x z. z ≡ x)
  question_and_fault a fault is_a is_fault told asks_first =
      goes_as_if_open g old new (λ x z. (y : Archive) × ((y ≡ x) × NotRefused × SaysFirst x a) × (z ≡ y)) (λ x z. z ≡ x) (λ x z h. h.2 ∙ h.1.0)
      (goes_on_if_open g old mid new (λ x y. (y ≡ x) × NotRefused × SaysFirst x a) (λ y z. z ≡ y)
      (asked g old mid lasts_first first a (λ _. None) SaysFirst is_a asks_first) (ask_failed g mid new lasts_second second fault (λ _. None) SaysSecond is_fault told asks_second))
