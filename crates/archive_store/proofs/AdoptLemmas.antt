-- Why a connection was not taken over, and memory, which never fails as a disk does.
use Rattle.std.proofs.Common.{◌≡◌, ◌⊎◌, inl, inr, ℕ, zero, suc, Result, Err, None, refl, sym, ap, subst, ◌∙◌, arith}
use Rattle.sqlite_trees.specs.declared.memory.MemStore.{MemStore}
use Rattle.sqlite_disk.specs.Disk.{MoreFaults}
use Rattle.sqlite.specs.Schema.{Schema}
use Rattle.sqlite.specs.Effect.{Database}
use Rattle.sqlite.specs.Held.{Held, IsNew, state}
use Rattle.sqlite.specs.Steps.{IsEmpty, over_memory}
use Rattle.sqlite.specs.State.{State}
use Rattle.sqlite.proofs.Callers.{memory_is_clean}
use Rattle.archive_tables.specs.Schema.{empty_schema, schema_of_version}
use Rattle.archive_tables.specs.Tables.{IsKnownVersion}
use Rattle.archive_tables.specs.Making.{IsIdle}
use Rattle.archive_database.specs.Adopting.{IsSchemaOfSomeVersion, IsEmptyOrArchiveSchema, IsOlderVersion, IsAdoptionRefused}
use Rattle.archive_store.specs.Adopting.{IsNotAdopted}
use Rattle.archive_port.specs.Replies.{refusal_of_fault}
use Rattle.archive_port.specs.declared.faults.StoreFault.{StoreFault}
use Rattle.archive_store.specs.declared.adopting.AdoptStop.{AdoptStop}
use Rattle.archive_port.specs.declared.faults.StoreFault.TheVariants as faults
use Rattle.archive_database.specs.Faults.{FailsByDiskOr}
use Rattle.archive_database.specs.declared.faults.DatabaseError.{DatabaseError}
use Rattle.archive_database.specs.declared.faults.DatabaseError.TheVariants as inner
use Rattle.archive_store.specs.Held.{store_connection}
use Rattle.archive_store.specs.Told.{IsOpen, StaysOpenUnlessDiskFails}
use Rattle.archive_store.specs.declared.store.Store.{Store}

pub refused_by : {A : Type 0} (old new : State) (done : Result A DatabaseError) (fault : DatabaseError) (Refused : Type 0) → done ≡ Err fault → FailsByDiskOr old new done Refused
    → fault ≡ inner.Database
    → MoreFaults old.faults new.faults ⊎ Refused
refused_by old new done fault Refused is fails it = subst (λ r. FailsByDiskOr old new r Refused) is fails it

pub has_version : {schema : Schema} → ¬ (schema ≡ empty_schema) → IsEmptyOrArchiveSchema schema → IsSchemaOfSomeVersion schema
has_version some (inl empty) = absurd (some empty)
has_version some (inr it) = it

-- ---- in memory

never_more : MoreFaults 0 0 → ⊥
never_more more = absurd (omega (arith, more))

pub memory_stays_open : (old new : Store MemStore) → StaysOpenUnlessDiskFails over_memory old new → IsOpen over_memory old → IsOpen over_memory new
memory_stays_open old new lasts up = elim (lasts.closes_only_by_fault.stays_open (memory_is_clean (store_connection new)) up) [
  | inl still ↦ still
  | inr more ↦ absurd (never_more more)
]

is_some : (number : ℕ) → IsKnownVersion number → schema_of_version number ≡ empty_schema → ⊥
is_some zero known is = absurd (omega (arith, known.at_least_one))
is_some (suc zero) known is = absurd (let tables = ap (λ (s : Schema). s.tables) is in cc)
is_some (suc (suc zero)) known is = absurd (let tables = ap (λ (s : Schema). s.tables) is in cc)
is_some (suc (suc (suc zero))) known is = absurd (let tables = ap (λ (s : Schema). s.tables) is in cc)
is_some (suc (suc (suc (suc n)))) known is = absurd (omega (arith, known.at_most_newest))

is_known : (number : ℕ) → IsOlderVersion number → IsKnownVersion number
is_known number older = record { at_least_one = older.at_least_one; at_most_newest = omega (arith, older.below_newest) }

always_taken : (db : Database) → db.schema ≡ empty_schema → ¬ IsAdoptionRefused db
always_taken db empty (inl (number, known, schema, other)) = is_some number known (sym schema ∙ empty)
always_taken db empty (inr (number, older, schema, refused)) = is_some number (is_known number older) (sym schema ∙ empty)

only_memory : (fault : StoreFault) → refusal_of_fault fault ≡ None → ¬ (fault ≡ faults.Store) → fault ≡ faults.Memory
only_memory faults.Memory none other = refl
only_memory faults.Store none other = absurd (other refl)
only_memory _ none other = absurd cc

pub memory_refuses : (connection : Held MemStore) (stop : AdoptStop MemStore) → IsEmpty (state over_memory connection) → IsNew connection → IsNotAdopted over_memory connection stop
    → stop.fault ≡ faults.Memory
memory_refuses connection stop empty new left = only_memory stop.fault left.fault_is_no_refusal (λ store.
    let s = state over_memory connection in
    let idle : IsIdle s = record { is_open = empty.0.is_open; autocommit = empty.0.autocommit; committed_is_now = sym empty.0.clean } in
    elim (left.fault_has_cause (memory_is_clean stop.connection) idle (inl empty.2) new.unlimited store) [
      | inl more ↦ never_more more
      | inr it ↦ always_taken s.now empty.2 it
    ])
