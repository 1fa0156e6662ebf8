-- Rows that strictly rise are in the one order that ORDER BY allows.
use Rattle.std.proofs.Common.{◌≡◌, inl, inr, suc, ◌+◌, false, List, [], ◌∷◌, get_or, refl, sym, ap, ap₂, subst, ◌∙◌, arith}
use Rattle.std.specs.Cmp.{IsTotalOrder}
use Rattle.std.specs.Ordering.{is_lt, is_eq, eq_by_cmp, ordering_reverse}
use Rattle.std.specs.declared.cmp.Ordering.{Ordering}
use Rattle.std.specs.declared.cmp.Ordering.TheVariants.{Less, Equal, Greater}
use Rattle.std.specs.List.{AllByRecursion, IsDistinct}
use Rattle.std.specs.List.Sorted.{IsPermutation, IsSorted, IsStrictlySortedBy}
use Rattle.std.proofs.lemmas.List.Sorted.{IsPermutation-sym, Contains-permutation}
use Rattle.std.proofs.lemmas.Map.Keys.{IsDistinct-from_sorted, IsDistinct-IsPermutation}
use Rattle.sqlite_trees.proofs.ListLemmas.{all_weaker}
use Rattle.sqlite_rules.specs.Lists.{Has}
use Rattle.sqlite_rules.proofs.ListLemmas.{all_has, has_contained, contains_had}

module _ {K : Type 0} {cmp : K → K → Ordering} (total : IsTotalOrder cmp) where
  pub ties_flip : (x y : K) → eq_by_cmp cmp x y ≡ eq_by_cmp cmp y x
  ties_flip x y = ap is_eq (total.antisymm x y) ∙ flipped (cmp y x)
    where
      flipped : (o : Ordering) → is_eq (ordering_reverse o) ≡ is_eq o
      flipped Less = refl
      flipped Equal = refl
      flipped Greater = refl

  below : (x y : K) → is_lt (cmp y x) ≡ false → is_eq (cmp x y) ≡ false → cmp x y ≡ Less
  below x y no_less no_tie = by_case (cmp x y) refl no_tie
    where
      by_case : (o : Ordering) → cmp x y ≡ o → is_eq o ≡ false → o ≡ Less
      by_case Less e n = refl
      by_case Equal e n = absurd cc
      by_case Greater e n = absurd (let back = total.antisymm y x ∙ ap ordering_reverse e in let less = ap is_lt back in cc)

  tail_sorted : (y : K) (ys : List K) → IsSorted cmp (y ∷ ys) → IsSorted cmp ys
  tail_sorted y ys sorted at d low within =
      let moved : suc at + 1 ≡ suc (at + 1) = omega arith in
      subst (λ n. is_lt (cmp (get_or (y ∷ ys) n d) (get_or ys at d)) ≡ false) moved (sorted (suc at) d (omega arith) (omega arith))

  strictly : (ys : List K) → IsSorted cmp ys → IsDistinct (eq_by_cmp cmp) ys → IsStrictlySortedBy cmp ys
  unfolding IsStrictlySortedBy IsDistinct
  strictly [] sorted apart = tt
  strictly (y ∷ []) sorted apart = (tt, tt)
  strictly (y ∷ z ∷ more) sorted apart =
      let rest = strictly (z ∷ more) (tail_sorted y (z ∷ more) sorted) apart.1 in
      let first : cmp y z ≡ Less = below y z (sorted 0 y (omega arith) (omega arith)) apart.0.0 in
      ((first, all_weaker _ (λ x. cmp y x ≡ Less) (λ x after. total.trans y z x first after) more rest.0), rest)

  not_both : (a b : K) → cmp a b ≡ Less → cmp b a ≡ Less → ⊥
  not_both a b p q = let flipped = total.antisymm a b ∙ ap ordering_reverse q in cc

  same_list : (xs ys : List K) → IsStrictlySortedBy cmp xs → IsStrictlySortedBy cmp ys → ((x : K) → Has xs x → Has ys x) → ((x : K) → Has ys x → Has xs x) → xs ≡ ys
  unfolding IsStrictlySortedBy
  same_list [] [] p q there back = refl
  same_list [] (y ∷ ys) p q there back = absurd (back y (inl refl))
  same_list (x ∷ xs) [] p q there back = absurd (there x (inl refl))
  same_list (x ∷ xs) (y ∷ ys) p q there back =
      let first : x ≡ y = elim (there x (inl refl)) [
        | inl same ↦ same
        | inr later ↦ elim (back y (inl refl)) [ inl same ↦ sym same | inr also ↦ absurd (not_both x y (all_has _ xs y p.0 also) (all_has _ ys x q.0 later)) ]
      ] in
      let past = λ (z : K) (zs : List K) (up : AllByRecursion (λ r. cmp z r ≡ Less) zs) (r : K) (has : Has zs r) (e : r ≡ z).
      let lower = rw e at (all_has _ zs r up has) in not_both z z lower lower in
      ap₂ ◌∷◌ first (same_list xs ys p.1 q.1
      (λ r has. elim (there r (inr has)) [ inl e ↦ absurd (past x xs p.0 r has (e ∙ sym first)) | inr it ↦ it ])
      (λ r has. elim (back r (inr has)) [ inl e ↦ absurd (past y ys q.0 r has (e ∙ first)) | inr it ↦ it ]))

  pub one_order : (xs ys : List K) → IsStrictlySortedBy cmp xs → IsPermutation xs ys → IsSorted cmp ys → ys ≡ xs
  one_order xs ys up same sorted =
      let strict = strictly ys sorted (IsDistinct-IsPermutation (eq_by_cmp cmp) ties_flip xs ys same (IsDistinct-from_sorted cmp xs up)) in
      sym (same_list xs ys up strict
      (λ x has. has_contained ys x (Contains-permutation xs ys x same (contains_had xs x has)))
      (λ x has. has_contained xs x (Contains-permutation ys xs x (IsPermutation-sym xs ys same) (contains_had ys x has))))
