-- Statements one after the other: what refuses the first of them, or those behind it.
use Rattle.std.proofs.Common.{◌⊎◌, inl, inr, List, [], ◌∷◌, ◌++◌, refl, subst, arith}
use Rattle.sqlite.specs.declared.error.Error.{Error}
use Rattle.sqlite.specs.Effect.{Database}
use Rattle.sqlite.specs.State.{State}
use Rattle.archive_tables.specs.Calls.{KeepsConnectionUnlessDiskFails, IsMemoryOrDiskError}
use Rattle.archive_tables.specs.Statements.{Statement, IsStatementRefused, StatementExecutesTo, IsAnyStatementRefused, StatementsExecuteTo}

pub carried_then : (first rest : List Statement) (a b c : Database) → StatementsExecuteTo first a b → StatementsExecuteTo rest b c → StatementsExecuteTo (first ++ rest) a c
carried_then [] rest a b c is then = subst (λ d. StatementsExecuteTo rest d c) is then
carried_then (st ∷ first) rest a b c it then = (it.0, it.1, carried_then first rest it.0 b c it.2 then)

pub refused_first : (first rest : List Statement) (a : Database) → IsAnyStatementRefused first a → IsAnyStatementRefused (first ++ rest) a
refused_first [] rest a it = absurd it
refused_first (st ∷ first) rest a (inl it) = inl it
refused_first (st ∷ first) rest a (inr it) = inr (it.0, it.1, refused_first first rest it.0 it.2)

pub refused_then : (first rest : List Statement) (a b : Database) → StatementsExecuteTo first a b → IsAnyStatementRefused rest b → IsAnyStatementRefused (first ++ rest) a
refused_then [] rest a b is it = subst (IsAnyStatementRefused rest) is it
refused_then (st ∷ first) rest a b carried it = inr (carried.0, carried.1, refused_then first rest carried.0 b carried.2 it)

-- one statement alone
pub one_carried : (st : Statement) (a b : Database) → StatementExecutesTo st a b → StatementsExecuteTo (st ∷ []) a b
one_carried st a b it = (b, it, refl)

-- ---- why some steps failed: those behind the first ones, and the first ones themselves

caused_later : (old mid new : State) (e : Error) → KeepsConnectionUnlessDiskFails old mid → IsMemoryOrDiskError mid new e → IsMemoryOrDiskError old new e
caused_later old mid new e before (inl none) = inl none
caused_later old mid new e before (inr more) = inr (omega (arith, more, before.closes_only_by_fault.faults_never_fall))

module _ (e : Error) (first rest : List Statement) (old mid new : State) where
  pub turn_first : IsMemoryOrDiskError old new e ⊎ IsAnyStatementRefused first old.now → IsMemoryOrDiskError old new e ⊎ IsAnyStatementRefused (first ++ rest) old.now
  turn_first (inl why) = inl why
  turn_first (inr it) = inr (refused_first first rest old.now it)

  pub turn_then : KeepsConnectionUnlessDiskFails old mid → StatementsExecuteTo first old.now mid.now → IsMemoryOrDiskError mid new e ⊎ IsAnyStatementRefused rest mid.now
      → IsMemoryOrDiskError old new e ⊎ IsAnyStatementRefused (first ++ rest) old.now
  turn_then before carried (inl why) = inl (caused_later old mid new e before why)
  turn_then before carried (inr it) = inr (refused_then first rest old.now mid.now carried it)

-- a step's own statement is one in turn
pub in_turn : (old new : State) (e : Error) (st : Statement) → IsMemoryOrDiskError old new e ⊎ IsStatementRefused st old.now → IsMemoryOrDiskError old new e ⊎ IsAnyStatementRefused (st ∷ []) old.now
in_turn old new e st (inl why) = inl why
in_turn old new e st (inr it) = inr (inl it)
