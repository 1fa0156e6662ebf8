-- Want of memory in an import, counted from call to call.
use Rattle.std.proofs.Common.{◌≡◌, ◌≤◌, ap, subst, inl, inr, ℕ, Err}
use Rattle.mbox_core.specs.declared.faults.MboxFault.{MboxFault}
use Rattle.mbox_core.specs.declared.faults.MboxFault.TheVariants.{Memory as NoRoom, Read}
use Rattle.archive_port.specs.Wanting.{IsMemoryRefusal, RaisesRefusalCount}
use Rattle.archive_port.specs.declared.faults.StoreFault.{StoreFault}
use Rattle.archive_desk.specs.declared.importing.ImportStop.{ImportStop}
use Rattle.archive_desk.specs.declared.importing.ImportError.TheVariants.{Mbox, Store as Stored}
use Rattle.archive_import.specs.Streaming.{IsImportMemoryRefusal}

-- an import that stopped for want of memory
abbrev pub IsStopWanting : ImportStop → Type 0
IsStopWanting stop = IsImportMemoryRefusal stop.fault

-- of the faults of a store E14 alone
pub store_want : (fault : StoreFault) → IsImportMemoryRefusal (Stored fault) → IsMemoryRefusal fault
store_want fault (inl want) = cc
store_want fault (inr none) = absurd cc

-- of those of the stream M3 alone
pub uncut_want : (fault : MboxFault) → IsImportMemoryRefusal (Mbox fault) → fault ≡ NoRoom
uncut_want fault (inl none) = absurd cc
uncut_want fault (inr want) = cc

unread_want : IsImportMemoryRefusal (Mbox Read) → ⊥
unread_want it = absurd (let none : Read ≡ NoRoom = uncut_want Read it in cc)

-- M2 is none
pub unread_unwanted : (A : Type 0) (a b done : ℕ) (stop : ImportStop) → a ≤ b → stop ≡ record { done = done; fault = Mbox Read }
    → RaisesRefusalCount {A = A} IsStopWanting a b (Err stop)
unread_unwanted A a b done stop grows is = (grows, (λ want. absurd (unread_want (subst IsImportMemoryRefusal (ap (λ (s : ImportStop). s.fault) is) want))))
