-- Worked examples of what a call does to a connection.
use Rattle.std.proofs.Common.{inl, inr, true, false, None, refl, arith}
use Rattle.sqlite.specs.State.{State, HasCleanDisk}
use Rattle.archive_tables.specs.Calls.{KeepsConnectionUnlessDiskFails}

-- with so many faults of the disk
abbrev open_at : State → State
open_at s = record s { is_open = true; is_clean = true; faults = 3; step_limit = None }

abbrev shut_at_4 : State → State
shut_at_4 s = record s { is_open = false; is_clean = true; faults = 4; step_limit = None }

abbrev shut_at_3 : State → State
shut_at_3 s = record s { is_open = false; is_clean = true; faults = 3; step_limit = None }

nothing_happens : (s : State) → KeepsConnectionUnlessDiskFails (open_at s) (open_at s)
nothing_happens s = record {
  disk_was_clean = λ clean. clean;
  closes_only_by_fault = record { faults_never_fall = omega arith; stays_open = λ clean up. inl up };
  closed_stays_closed = λ clean up. up;
  step_limit_is_same = refl;
}

a_fault_shuts_it : (s : State) → KeepsConnectionUnlessDiskFails (open_at s) (shut_at_4 s)
a_fault_shuts_it s = record {
  disk_was_clean = λ clean. clean;
  closes_only_by_fault = record { faults_never_fall = omega arith; stays_open = λ clean up. inr (omega arith) };
  closed_stays_closed = λ clean up. absurd cc;
  step_limit_is_same = refl;
}

nothing_else_does : (s : State) → HasCleanDisk (shut_at_3 s) → KeepsConnectionUnlessDiskFails (open_at s) (shut_at_3 s) → ⊥
nothing_else_does s clean lasts = elim (lasts.closes_only_by_fault.stays_open clean refl) [ inl up ↦ absurd cc | inr more ↦ absurd (omega (arith, more)) ]

nothing_opens_it : (s : State) → HasCleanDisk (open_at s) → KeepsConnectionUnlessDiskFails (shut_at_3 s) (open_at s) → ⊥
nothing_opens_it s clean lasts = let up = lasts.closed_stays_closed clean refl in absurd cc

no_fault_is_forgotten : (s : State) → KeepsConnectionUnlessDiskFails (shut_at_4 s) (shut_at_3 s) → ⊥
no_fault_is_forgotten s lasts = let few = lasts.closes_only_by_fault.faults_never_fall in absurd (omega (arith, few))
