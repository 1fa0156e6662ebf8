-- How an import ends, from how its calls end.
use Rattle.std.proofs.Common.{◌≡◌, ◌≤◌, ◌⊎◌, ◌∙◌, inl, inr, ap, sym, subst, ℕ, List, Result, Err}
use Rattle.archive_port.specs.declared.state.ArchiveState.{Ghosts}
use Rattle.archive_model.specs.Records.{Archive}
use Rattle.archive_model.specs.Commands.{Refusal}
use Rattle.archive_port.specs.Told.{memory_refusal_count, CountsRefusals, EndsWithCause, RelatesArchivesUnder, DiskHasFailed, HoldsTables, StaysOpenUnlessDiskFails}
use Rattle.archive_port.specs.Wanting.{IsMemoryRefusal}
use Rattle.archive_port.specs.declared.faults.StoreFault.{StoreFault}
use Rattle.archive_port.specs.declared.faults.StoreFault.TheVariants as faults
use Rattle.archive_port.proofs.LastLemmas.{more_since}
use Rattle.archive_port.proofs.WantLemmas.{raises_after}
use Rattle.archive_desk.specs.Causes.{HasPartialCallCause}
use Rattle.archive_desk.specs.Ending.{EndsImport}
use Rattle.archive_desk.specs.Importing.{IsImportDatabaseFault, IsImportStoreMemoryRefusal}
use Rattle.archive_desk.specs.declared.importing.ImportError.{ImportError}
use Rattle.archive_desk.specs.declared.importing.ImportError.TheVariants.{Store as Stored}
use Rattle.archive_desk.specs.declared.importing.ImportStop.{ImportStop}
use Rattle.archive_desk.proofs.CauseLemmas.{each_fault}

-- of the faults of the store E14 alone
pub wanted_by : (fault : StoreFault) → IsImportStoreMemoryRefusal (Stored fault) → IsMemoryRefusal fault
wanted_by fault it = cc

module _ {S W : Type 0} (g : Ghosts S W) (Premise : S → Type 0) (IsStopWant : ImportError → Type 0) where
  -- ---- behind other calls: the faults of the disk never get fewer, and no limit was set

  module _ (old mid new : S) (Before : Archive → Archive → Type 0) (before : RelatesArchivesUnder g Premise old mid Before) (last : StaysOpenUnlessDiskFails g mid new)
      (grows : memory_refusal_count g old ≤ memory_refusal_count g mid) (Stops Stops' : Archive → ℕ → S → Type 0)
      (implies : (a b : Archive) (done : ℕ) (db : S) → Before a b → Stops b done db → Stops' a done db) where
    cause_after : (done : ℕ) → HasPartialCallCause g mid new Premise (λ a db. Stops a done db) → HasPartialCallCause g old new Premise (λ a db. Stops' a done db)
    cause_after done why = λ returned held free.
        let there = before.1 (last.disk_was_clean returned) held in
        elim (why returned there.0 (before.0.sets_no_limit free)) [
          | inl more ↦ inl (more_since g old mid new before.0 more)
          | inr stops ↦ inr (implies _ _ done _ there.1 stops)
        ]

    pub import_ends_after : {A : Type 0} (result : Result A ImportStop) → EndsImport g mid new Premise IsStopWant result Stops → EndsImport g old new Premise IsStopWant result Stops'
    import_ends_after result it = record {
      fault_has_cause = each_fault (λ (stop : ImportStop). IsImportDatabaseFault stop.fault → HasPartialCallCause g mid new Premise (λ a db. Stops a stop.done db))
          (λ (stop : ImportStop). IsImportDatabaseFault stop.fault → HasPartialCallCause g old new Premise (λ a db. Stops' a stop.done db))
          (λ stop why bad. cause_after stop.done (why bad)) result it.fault_has_cause;
      refusals_counted = raises_after (λ (stop : ImportStop). IsStopWant stop.fault) (memory_refusal_count g old) (memory_refusal_count g mid) (memory_refusal_count g new) result grows
          it.refusals_counted;
    }

  module _ (old new : S) (A B : Type 0) (Stops : Archive → ℕ → S → Type 0) where
    -- ---- a stop that is not E15

    pub import_unbroken : (done : ℕ) (fault : ImportError) (stop : ImportStop) → (IsImportDatabaseFault fault → ⊥) → stop ≡ record { done = done; fault = fault }
        → CountsRefusals g {A = A} (λ (s : ImportStop). IsStopWant s.fault) old new (Err stop) → EndsImport g old new Premise IsStopWant {A = A} (Err stop) Stops
    import_unbroken done fault stop off is counted =
        record { fault_has_cause = λ bad. absurd (off (sym (ap (λ (s : ImportStop). s.fault) is) ∙ bad)); refusals_counted = counted }

    -- ---- the same stop in other words

    pub import_stops_as : (Stops' : Archive → ℕ → S → Type 0) (stop : ImportStop) → ((a : Archive) (db : S) → Stops a stop.done db → Stops' a stop.done db)
        → EndsImport g old new Premise IsStopWant {A = A} (Err stop) Stops → EndsImport g old new Premise IsStopWant {A = B} (Err stop) Stops'
    import_stops_as Stops' stop implies it = record {
      fault_has_cause = λ bad returned held free. elim (it.fault_has_cause bad returned held free) [ inl more ↦ inl more | inr stops ↦ inr (implies _ _ stops) ];
      refusals_counted = it.refusals_counted;
    }

    -- ---- a call of the store failed

    module _ (holds : (store : S) → Premise store → HoldsTables g store) (wants : (fault : StoreFault) → IsStopWant (Stored fault) → IsMemoryRefusal fault) where
      pub import_stopped : (Cause : Type 0) (fault : StoreFault) (reasons : List Refusal) (done : ℕ) (stop : ImportStop) → stop ≡ record { done = done; fault = Stored fault }
          → (Cause → DiskHasFailed g old new ⊎ ((a : Archive) → Stops a done new)) → EndsWithCause g old new Cause {A = A} (Err fault) reasons
          → EndsImport g old new Premise IsStopWant {A = B} (Err stop) Stops
      import_stopped Cause fault reasons done stop is why it = subst (λ s. EndsImport g old new Premise IsStopWant {A = B} (Err s) Stops) (sym is) (record {
        fault_has_cause = λ bad returned ready free.
            let broken : fault ≡ faults.Store = cc in
            elim (why (it.fault_has_cause returned (holds old ready) free broken)) [ inl more ↦ inl more | inr stops ↦ inr (stops _) ];
        refusals_counted = (it.refusals_counted.0, (λ want. it.refusals_counted.1 (wants fault want)));
      })
