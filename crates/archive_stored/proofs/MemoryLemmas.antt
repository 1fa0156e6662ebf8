-- Memory never fails as a disk does.
use Rattle.std.proofs.Common.{inl, inr, arith}
use Rattle.sqlite.specs.Steps.{over_memory}
use Rattle.sqlite.proofs.Callers.{memory_is_clean}
use Rattle.sqlite_trees.specs.declared.memory.MemStore.{MemStore}
use Rattle.archive_model.specs.Records.{Archive}
use Rattle.archive_port.specs.Told.{IsOpen, MemoryWasRefused, MoreFaults, StaysOpenUnlessDiskFails}
use Rattle.archive_store.specs.Held.{store_connection}
use Rattle.archive_store.specs.State.{state_of}
use Rattle.archive_store.specs.Told.{HasNoStepLimit, HoldsTables, archive_in}
use Rattle.archive_store.specs.declared.store.Store.{Store}
use Rattle.archive_desk.specs.Readable.{IsFullyReadableStore, MeetsNoDiskFault}
use Rattle.archive_pages.specs.Causes.{Has503Cause}

never_more : MoreFaults 0 0 → ⊥
never_more more = absurd (omega (arith, more))

pub memory_refused : (old new : Store MemStore) → HoldsTables over_memory old → HasNoStepLimit over_memory old → (Unread : Archive → Type 0) → ¬ Unread (archive_in over_memory old)
    → Has503Cause (state_of over_memory) old new Unread → MemoryWasRefused (state_of over_memory) old new
memory_refused old new held free Unread read it = elim it [
  | inl more ↦ more
  | inr why ↦ elim (why (memory_is_clean (store_connection new)) held free) [ inl more ↦ absurd (never_more more) | inr bad ↦ absurd (read bad) ]
]

pub memory_is_untroubled : (old new : Store MemStore) → IsFullyReadableStore (state_of over_memory) old → MeetsNoDiskFault (state_of over_memory) old new
memory_is_untroubled old new fully_readable = record { fully_readable = fully_readable; no_disk_failure = never_more; disk_is_clean = memory_is_clean (store_connection new) }

-- so what is open there stays open
pub memory_stays_open : (old new : Store MemStore) → StaysOpenUnlessDiskFails (state_of over_memory) old new → IsOpen (state_of over_memory) old → IsOpen (state_of over_memory) new
memory_stays_open old new lasts up = elim (lasts.closes_only_by_fault.stays_open (memory_is_clean (store_connection new)) up) [ inl still ↦ still | inr more ↦ absurd (never_more more) ]
