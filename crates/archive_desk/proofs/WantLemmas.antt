-- Want of memory, counted from call to call.
use Rattle.std.proofs.Common.{ℕ, Err, arith}
use Rattle.archive_port.specs.Wanting.{IsMemoryRefusal, RaisesRefusalCount}
use Rattle.archive_port.specs.declared.faults.StoreFault.{StoreFault}
use Rattle.archive_port.proofs.WantLemmas.{raises_as}
use Rattle.archive_desk.specs.Causes.{IsDeskMemoryRefusal}
use Rattle.archive_desk.specs.Faults.{desk_error_of}

-- of the faults of the store E14 alone
pub wanting_by : (fault : StoreFault) → IsDeskMemoryRefusal (desk_error_of fault) → IsMemoryRefusal fault
wanting_by fault it = grind arith

module _ (A B : Type 0) (a b : ℕ) (fault : StoreFault) (it : RaisesRefusalCount {A = A} IsMemoryRefusal a b (Err fault)) where
  -- a fault of the store, as one of the desk
  pub wants_of_store : RaisesRefusalCount {A = B} IsDeskMemoryRefusal a b (Err (desk_error_of fault))
  wants_of_store = raises_as A B IsMemoryRefusal IsDeskMemoryRefusal a b fault (desk_error_of fault) (wanting_by fault) it
