-- Worked examples of what a stop of the machine may leave of commands and messages: a beginning of them, and nothing else.
use Rattle.std.proofs.Common.{◌≡◌, ◌≤◌, ℕ, zero, suc, List, [], ◌∷◌, take, refl, arith, codes, ap}
use Rattle.mbox_items.specs.Division.{Item}
use Rattle.archive_model.specs.Records.{Archive}
use Rattle.archive_model.specs.Commands.{Command, add, list_add}
use Rattle.archive_model.specs.Machine.{step}
use Rattle.archive_model.specs.Runs.{run}
use Rattle.archive_tables.specs.Making.{empty_archive}
use Rattle.archive_port.specs.Adding.{HasAddedAtLeast}
use Rattle.archive_store.specs.Crashes.{HasRunCommands}

-- ---- commands

abbrev two_lists : List Command
two_lists = list_add (codes "soc") ∷ list_add (codes "a") ∷ []

none_of_them : HasRunCommands two_lists 0 2 empty_archive empty_archive
unfolding run
none_of_them = (0, omega arith, omega arith, refl)

the_first : HasRunCommands two_lists 0 2 empty_archive (step empty_archive (list_add (codes "soc"))).0
unfolding run
the_first = (1, omega arith, omega arith, refl)

-- the second without the first
never_the_second : HasRunCommands two_lists 0 2 empty_archive (step empty_archive (list_add (codes "a"))).0 → ⊥
unfolding run
never_the_second it = by_number it.0 it.2 it.3
  where
    by_number : (n : ℕ) → n ≤ 2 → (step empty_archive (list_add (codes "a"))).0 ≡ (run empty_archive (take n two_lists)).archive → ⊥
    by_number zero most is = absurd (let lists : codes "a" ∷ [] ≡ [] = ap (λ (a : Archive). a.lists) is in cc)
    by_number (suc zero) most is = absurd (let lists : codes "a" ∷ [] ≡ codes "soc" ∷ [] = ap (λ (a : Archive). a.lists) is in cc)
    by_number (suc (suc zero)) most is = absurd (let lists : codes "a" ∷ [] ≡ codes "soc" ∷ codes "a" ∷ [] = ap (λ (a : Archive). a.lists) is in cc)
    by_number (suc (suc (suc n))) most is = absurd (omega (arith, most))

-- a command more than there are
never_another : HasRunCommands (list_add (codes "soc") ∷ []) 0 1 empty_archive (run empty_archive two_lists).archive → ⊥
unfolding run
never_another it = by_number it.0 it.2 it.3
  where
    by_number : (n : ℕ) → n ≤ 1 → (run empty_archive two_lists).archive ≡ (run empty_archive (take n (list_add (codes "soc") ∷ []))).archive → ⊥
    by_number zero most is = absurd (let lists : codes "soc" ∷ codes "a" ∷ [] ≡ [] = ap (λ (a : Archive). a.lists) is in cc)
    by_number (suc zero) most is = absurd (let lists : codes "soc" ∷ codes "a" ∷ [] ≡ codes "soc" ∷ [] = ap (λ (a : Archive). a.lists) is in cc)
    by_number (suc (suc n)) most is = absurd (omega (arith, most))

-- ---- messages

module _ (a : Archive) (list : List ℕ) (one other : Item) where
  no_message : HasAddedAtLeast list (one ∷ other ∷ []) 0 a a
  unfolding run
  no_message = (0, omega arith, (omega arith, refl))

  one_message : HasAddedAtLeast list (one ∷ other ∷ []) 1 a (step a (add list one)).0
  unfolding run
  one_message = (1, omega arith, (omega arith, refl))
