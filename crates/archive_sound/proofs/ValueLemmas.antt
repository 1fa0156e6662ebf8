-- Values that a CHECK lets pass, and rows that can be stored.
use Rattle.std.proofs.Common.{◌≡◌, ◌≤◌, ◌<◌, ◌≤ℤ◌, ◌+◌, ℕ, ℤ, pos, negsuc, length, refl, sym, ap, ◌∙◌, false, true, Bool, not, Some, arith}
use Rattle.std.specs.Prelude.{◌&&◌, ◌||◌, sum_by}
use Rattle.std.specs.List.{AllByRecursion}
use Rattle.std.specs.Ordering.{int_cmp, is_ge, is_le}
use Rattle.std.specs.Float.{NotNan}
use Rattle.std.proofs.lemmas.Bool.Decides.{nat_tests}
use Rattle.std.proofs.lemmas.Int.{ints}
use Rattle.std.proofs.lemmas.Nat.Bits.{bit_at-zero}
use Rattle.std.proofs.lemmas.List.Elements.{All-from_recursion}
use Rattle.sqlite.specs.declared.types.Value.{Value}
use Rattle.sqlite.specs.declared.types.Value.TheVariants.{Null, Int}
use Rattle.sqlite.specs.Collation.TheVariants.{Binary}
use Rattle.sqlite.specs.Order.{Row, bytes, number}
use Rattle.sqlite.specs.Ops.{binary, is_false, from_truth, and3, truth}
use Rattle.sqlite_sql.specs.declared.ops.BinaryOp.TheVariants.{And, Compare}
use Rattle.sqlite_sql.specs.declared.ops.CompareOp.TheVariants.{Ge, Le}
use Rattle.sqlite_trees.specs.View.{IsStorable}
use Rattle.sqlite_value.proofs.OrderLemmas.{value_cmp-Int}

-- ---- checks

-- NULL, or a number from one to another
abbrev pub is_within : ℤ → ℤ → Value → Bool
is_within low high v = not (is_false (binary And (binary (Compare Ge Binary) v (Int low)) (binary (Compare Le Binary) v (Int high))))

pub within_none : (low high : ℤ) → is_within low high Null ≡ true
unfolding binary
within_none low high = refl

pub within_range : (low high n : ℤ) → low ≤ℤ n → n ≤ℤ high → is_within low high (Int n) ≡ true
unfolding binary
within_range low high n above below = both _ _ (ap is_ge (value_cmp-Int n low) ∙ not_below above) (ap is_le (value_cmp-Int n high) ∙ not_above below)
  where
    both : (a b : Bool) → a ≡ true → b ≡ true → not (is_false (from_truth (and3 (truth (from_truth (Some a))) (truth (from_truth (Some b)))))) ≡ true
    both true true p q = refl
    both true false p q = absurd cc
    both false b p q = absurd cc

    not_below : low ≤ℤ n → is_ge (int_cmp n low) ≡ true
    not_below above = grind (arith, ints, nat_tests)

    not_above : n ≤ℤ high → is_le (int_cmp n high) ≡ true
    not_above below = grind (arith, ints, nat_tests)

-- ---- a row that can be stored

pub integer : (n : ℤ) → NotNan (number (Int n))
unfolding lib.Ieee.is_nan
integer (pos n) = tt
integer (negsuc n) = tt

pub storable : (reals : ℕ) (row : Row) → reals ≡ 0 → 0 < length row → length row ≤ 2001 → AllByRecursion (λ v. NotNan (number v)) row → sum_by (λ v. 18 + length (bytes v)) row ≤ 1_000_000_000
    → IsStorable reals row
storable reals row none some few numbers short = record {
  typed = λ c h. absurd (let zero = bit_at-zero c in let bad = sym zero ∙ rw none at h in cc);
  columns = (some, few);
  numbers = All-from_recursion (λ (v : Value). NotNan (number v)) row numbers;
  short = omega (arith, short);
}

-- ---- tests

pub parts : (a b : Bool) → (a && b) ≡ true → (a ≡ true) × (b ≡ true)
parts true b h = (refl, h)
parts false b h = absurd cc

pub both : (a b : Bool) → a ≡ true → b ≡ true → (a && b) ≡ true
both true b p q = q
both false b p q = p

pub none_of : (a b : Bool) → (a || b) ≡ false → (a ≡ false) × (b ≡ false)
none_of true b h = absurd cc
none_of false b h = (refl, h)

-- ---- one before another

-- the first is not above the second
abbrev pub is_ordered : ℤ → ℤ → Bool
is_ordered a b = not (is_false (binary (Compare Le Binary) (Int a) (Int b)))

pub ordered : (a b : ℤ) → a ≤ℤ b → is_ordered a b ≡ true
unfolding binary
ordered a b h = one _ (ap is_le (value_cmp-Int a b) ∙ not_above h)
  where
    one : (x : Bool) → x ≡ true → not (is_false (from_truth (Some x))) ≡ true
    one true p = refl
    one false p = absurd cc

    not_above : a ≤ℤ b → is_le (int_cmp a b) ≡ true
    not_above below = grind (arith, ints, nat_tests)
