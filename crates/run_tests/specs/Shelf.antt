-- The one database of a shelf, which is kept in memory while it is not open.
use Rattle.std.proofs.Common.{◌≡◌, ◌∙◌, inl, inr, ap, refl, subst, sym, arith, Option, Some, None}
use Rattle.std.specs.Prelude.{◌⊎◌, MatchOption}
use Rattle.sqlite.specs.Effect.{Database}
use Rattle.sqlite.specs.Held.{Held, state}
use Rattle.sqlite.specs.State.{HasCleanDisk}
use Rattle.sqlite.specs.Steps.{over_memory}
use Rattle.sqlite_trees.specs.declared.memory.MemStore.{MemStore}
use Rattle.archive_model.specs.Records.{Archive}
use Rattle.archive_tables.specs.Making.{empty_archive}
use Rattle.archive_tables.specs.Tables.{IsArchiveAtRest, archive_in_trees, archive_of}
use Rattle.archive_store.specs.Adopting.{IsAdopted, IsNotAdopted}
use Rattle.archive_store.specs.Held.{store_connection}
use Rattle.archive_store.specs.Told.{HasNoStepLimit, HoldsTables, archive_in}
use Rattle.archive_store.specs.declared.adopting.AdoptStop.{AdoptStop}
use Rattle.archive_store.specs.State.{state_of}
use Rattle.archive_store.specs.declared.store.Store.{Store}
use Rattle.archive_port.specs.Remembering.{StoreHoldsArchive}

-- The archive of the database that is kept, or the empty one where there is none.
abbrev pub KeptDatabaseHoldsArchive : Option (Held MemStore) → Archive → Type 0
KeptDatabaseHoldsArchive kept archive = MatchOption kept (archive ≡ empty_archive)
    (λ was. HasCleanDisk (state over_memory was) → IsArchiveAtRest (state over_memory was) × (archive_of (state over_memory was) ≡ archive))

-- What is opened is the database that was kept, whose connection was taken over again; or an empty one if there was none.
abbrev pub OpensKeptOrEmptyDatabase : Option (Held MemStore) → Store MemStore → Type 0
OpensKeptOrEmptyDatabase kept store = MatchOption kept (StoreHoldsArchive (state_of over_memory) store empty_archive × HasNoStepLimit over_memory store)
    (λ was. IsAdopted over_memory was store)

-- Nothing was opened: the same is kept, or the connection that was not taken over.
abbrev pub KeepsUnopenedDatabase : (kept left : Option (Held MemStore)) → Type 0
KeepsUnopenedDatabase kept left =
    (left ≡ kept) ⊎ ((was : Held MemStore) × (kept ≡ Some was) × (stop : AdoptStop MemStore) × IsNotAdopted over_memory was stop × (left ≡ Some stop.connection))

-- ---- the laws of the shelf

pub reopened_test_store_remembers : (kept : Option (Held MemStore)) (store : Store MemStore) (archive : Archive) → KeptDatabaseHoldsArchive kept archive → OpensKeptOrEmptyDatabase kept store
    → StoreHoldsArchive (state_of over_memory) store archive × HasNoStepLimit over_memory store
reopened_test_store_remembers None store archive empty made = (λ returned. (let it = made.0 returned in (it.0, it.1 ∙ sym empty)), made.1)
reopened_test_store_remembers (Some was) store archive remembers adopted = (
  λ returned.
      let held = remembers (adopted.disk_was_clean returned) in
      let it = adopted.archive_at_rest_is_same returned held.0 in
      (it.0, it.1 ∙ held.1),
  adopted.has_no_step_limit,
)

pub closed_store_holds_its_archive : (kept : Option (Held MemStore)) (store : Store MemStore) → kept ≡ Some (store_connection store) → HoldsTables over_memory store
    → KeptDatabaseHoldsArchive kept (archive_in over_memory store)
closed_store_holds_its_archive kept store is tables =
    subst (λ (k : Option (Held MemStore)). KeptDatabaseHoldsArchive k (archive_in over_memory store)) (sym is) (λ returned. (tables, refl))

-- a disk in memory never fails, so nothing shuts a connection to it
refused_connection_holds : (was : Held MemStore) (stop : AdoptStop MemStore) (archive : Archive) → IsNotAdopted over_memory was stop → KeptDatabaseHoldsArchive (Some was) archive
    → KeptDatabaseHoldsArchive (Some stop.connection) archive
refused_connection_holds was stop archive refused remembers = λ returned.
    let held = remembers (refused.disk_was_clean returned) in
    elim (refused.remains_open.closes_only_by_fault.stays_open returned held.0.is_open) [
      | inl up ↦
          let same = refused.keeps_rows returned held.0 up in
          (same.0, ap (λ (d : Database). archive_in_trees d.trees) same.1 ∙ held.1)
      | inr more ↦ absurd (omega (arith, more))
    ]

pub unopened_database_is_kept : (kept left : Option (Held MemStore)) (archive : Archive) → KeepsUnopenedDatabase kept left → KeptDatabaseHoldsArchive kept archive
    → KeptDatabaseHoldsArchive left archive
unopened_database_is_kept kept left archive (inl same) held = subst (λ (k : Option (Held MemStore)). KeptDatabaseHoldsArchive k archive) (sym same) held
unopened_database_is_kept kept left archive (inr (was, is, stop, refused, now)) held =
    subst (λ (k : Option (Held MemStore)). KeptDatabaseHoldsArchive k archive) (sym now)
    (refused_connection_holds was stop archive refused (subst (λ (k : Option (Held MemStore)). KeptDatabaseHoldsArchive k archive) is held))
