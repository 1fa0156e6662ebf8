-- Two requests behind a withdrawal, over a store in memory.
use Rattle.std.proofs.Common.{◌≡◌, ◌<◌, ◌⊎◌, inl, inr, ℕ, ℤ, List, refl, sym, ap, subst, arith, Result}
use Rattle.std.specs.List.{All}
use Rattle.sqlite.specs.Steps.{over_memory}
use Rattle.sqlite.proofs.Callers.{memory_is_clean}
use Rattle.sqlite_trees.specs.declared.memory.MemStore.{MemStore}
use Rattle.byte_device.specs.declared.devices.Sink.{Ghosts as Takes}
use Rattle.byte_device.specs.declared.devices.Source.{Ghosts as Gives}
use Rattle.mbox_core.specs.Division.{Item, DividesIntoItems}
use Rattle.mbox_core.specs.Written.{IsItem}
use Rattle.policy_core.specs.Rules.{Rule}
use Rattle.archive_model.specs.Records.{Archive}
use Rattle.archive_model.specs.Commands.{Command as Told}
use Rattle.archive_model.specs.Machine.{StepOutcome, step}
use Rattle.archive_model.specs.Runs.{taken}
use Rattle.archive_store.specs.Held.{store_connection, memory_refusal_count}
use Rattle.archive_port.specs.Told.{HasNoStepLimit, HoldsTables, IsReady, MemoryWasRefused, archive_in}
use Rattle.archive_store.specs.State.{state_of}
use Rattle.archive_store.specs.declared.store.Store.{Store}
use Rattle.archive_desk.specs.Holding.{RelatesTableArchives}
use Rattle.archive_desk.specs.Readable.{CanBeRead, IsWellFormedCommand}
use Rattle.archive_desk.specs.declared.importing.Report.{Report}
use Rattle.archive_pages.specs.Causes.{IsInputDataUnreadable, Sent503OrBrokeOff, ServesOr503}
use Rattle.archive_pages.specs.Serving.{StoreKeepsArchive}
use Rattle.archive_pages.specs.declared.faults.ServeFault.{ServeFault}
use Rattle.archive_pages.specs.declared.pages.Client.{Client}
use Rattle.example_reopened.specs.Withdrawing.{EndsAnswersAfterWithdrawal, ImportsAndWithdraws, withdraw_command_of}
use Rattle.example_reopened.specs.declared.withdrawing.TwoAnswers.{TwoAnswers}
use Rattle.example_reopened.specs.declared.withdrawing.Withdrawal.{Withdrawal}

-- ---- what was withdrawn can be read

-- what the laws say: an import and a command leave an archive that can be read, and what a file divides into can be written
abbrev pub TakesIn : Type 0
TakesIn = (a : Archive) (list : List ℕ) (items : List Item) → All IsItem items → CanBeRead a → CanBeRead (taken a list items).archive

abbrev pub StepsOn : Type 0
StepsOn = (a : Archive) (command : Told) → IsWellFormedCommand command → CanBeRead a → CanBeRead (step a command).0

abbrev pub AreItems : Type 0
AreItems = (bytes : List ℕ) (items : List Item) → DividesIntoItems bytes items → All IsItem items

pub can_be_read : TakesIn → StepsOn → AreItems → (it : Withdrawal) (a b : Archive) (report : Report) → ImportsAndWithdraws it a b report → CanBeRead a → CanBeRead b
can_be_read takes steps items it a b report made can =
    let here = subst CanBeRead (sym made.is_imported.adds_all.archive_is)
    (takes a it.list.now made.is_imported.items (items it.mbox.now made.is_imported.items made.is_imported.divides_into_items) can) in
    subst CanBeRead (sym (ap (λ (o : StepOutcome). o.0) made.withdraws)) (steps made.imported (withdraw_command_of it) (it.by, refl) here)

-- ---- 503

abbrev pub IsRefused : Type 0
IsRefused = (old new : Store MemStore) (result : Result ℕ ServeFault) (told_before told_after : List ℕ) (rules : List Rule) (day : ℤ)
    → HoldsTables (state_of over_memory) old → HasNoStepLimit (state_of over_memory) old → CanBeRead (archive_in (state_of over_memory) old)
    → ServesOr503 (state_of over_memory) old new result (IsInputDataUnreadable told_before told_after rules day) → Sent503OrBrokeOff result → MemoryWasRefused (state_of over_memory) old new

abbrev pub IsFollowed : Type 0
IsFollowed = (old new : Store MemStore) (result : Result ℕ ServeFault) → StoreKeepsArchive (state_of over_memory) old new result → RelatesTableArchives (state_of over_memory) old new (λ a b. b ≡ a)

module _ (refused : IsRefused) (followed : IsFollowed) (takes : TakesIn) (steps : StepsOn) (items : AreItems) where
  module _ {R W : Type 0} (gives : Gives R) (sinks : Takes W) (rules : List Rule) (day : ℤ) (old new : Store MemStore) (it : Withdrawal) (first first' second second' : Client R W)
      (report : Report) (answered : TwoAnswers) where
    pub wanting : IsReady (state_of over_memory) old → HasNoStepLimit (state_of over_memory) old → CanBeRead (archive_in (state_of over_memory) old)
        → EndsAnswersAfterWithdrawal gives sinks (state_of over_memory) rules day old new it first first' second second' report answered
        → Sent503OrBrokeOff answered.first ⊎ Sent503OrBrokeOff answered.second → 0 < memory_refusal_count new
    wanting ready free can behind bad =
        let made = behind.withdrawn.1 (memory_is_clean (store_connection behind.found)) ready in
        let readable = can_be_read takes steps items it (archive_in (state_of over_memory) old) (archive_in (state_of over_memory) behind.found) report made.1 can in
        let unlimited : HasNoStepLimit (state_of over_memory) behind.found = behind.withdrawn.0.sets_no_limit free in
        let on = followed behind.found behind.ends.store_between answered.first behind.ends.first_ends.stays in
        let later = on.1 (memory_is_clean (store_connection behind.ends.store_between)) made.0.is_archive_at_rest in
        let grown = behind.ends.second_error_cause.0 in
        elim bad [
          | inl one ↦ let more = refused behind.found behind.ends.store_between answered.first (gives.told first.input)
              (gives.told first'.input) rules day made.0.is_archive_at_rest
              unlimited readable behind.ends.first_error_cause one in omega (arith, more, grown)
          | inr other ↦ let more = refused behind.ends.store_between new answered.second (gives.told second.input) (gives.told second'.input) rules day later.0
              (on.0.sets_no_limit unlimited) (subst CanBeRead (sym later.1) readable)
              behind.ends.second_error_cause other in omega (arith, more)
        ]
