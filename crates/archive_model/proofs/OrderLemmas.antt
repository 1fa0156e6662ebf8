-- The one order of names by their bytes.
use Rattle.std.proofs.Common.{◌≡◌, inl, inr, ℕ, zero, suc, ◌+◌, ◌≤◌, true, false, List, [], ◌∷◌, get_or, refl, sym, ap, ap₂, subst, ◌∙◌, arith}
use Rattle.std.specs.Prelude.{⊤, bytes_eq, if◌then◌else◌}
use Rattle.std.specs.List.{sum_by}
use Rattle.std.specs.List.Sorted.{IsPermutation, IsSorted}
use Rattle.std.specs.Cmp.Lexicographic.{slice_cmp, nat_list_cmp_total}
use Rattle.std.specs.Ordering.{is_lt, is_eq, nat_cmp, ordering_reverse}
use Rattle.std.specs.declared.cmp.Ordering.{Ordering}
use Rattle.std.specs.declared.cmp.Ordering.TheVariants.{Less, Equal, Greater}
use Rattle.std.proofs.lemmas.Bool.{cases_Bool}
use Rattle.std.proofs.lemmas.List.Sums.{sum_by-cons}
use Rattle.std.proofs.lemmas.List.Sorted.{IsPermutation-refl, IsPermutation-trans, IsPermutation-cons, IsPermutation-middle, sum_by-IsPermutation}
use Rattle.std.proofs.lemmas.Map.Text.{is_eq-slice_cmp}
use Rattle.std.proofs.lemmas.Slice.Eq.{bytes_eq-Decides}
use Rattle.archive_model.specs.Records.{Archive}
use Rattle.archive_model.specs.Questions.{insert_in_byte_order, sort_by_bytes, list_names, AreListNames}

abbrev Name : Type 0
Name = List ℕ

abbrev order : Name → Name → Ordering
order = slice_cmp nat_cmp

-- the second does not come before the first
abbrev IsBefore : Name → Name → Type 0
IsBefore x y = is_lt (order y x) ≡ false

same_name : (x y : Name) → order x y ≡ Equal → x ≡ y
same_name x y e = (bytes_eq-Decides x y).0 (sym (is_eq-slice_cmp x y) ∙ ap is_eq e)

flipped : (x y : Name) (o : Ordering) → order x y ≡ o → order y x ≡ ordering_reverse o
flipped x y o e = nat_list_cmp_total.antisymm y x ∙ ap ordering_reverse e

other_way : (x y : Name) → is_lt (order y x) ≡ true → IsBefore y x
other_way x y less = by_case (order y x) refl less
  where
    by_case : (o : Ordering) → order y x ≡ o → is_lt o ≡ true → IsBefore y x
    by_case Less e h = ap is_lt (flipped y x Less e)
    by_case Equal e h = absurd cc
    by_case Greater e h = absurd cc

both_ways : (x y : Name) → IsBefore x y → IsBefore y x → x ≡ y
both_ways x y p q = by_case (order x y) refl q
  where
    by_case : (o : Ordering) → order x y ≡ o → is_lt o ≡ false → x ≡ y
    by_case Less e h = absurd cc
    by_case Equal e h = same_name x y e
    by_case Greater e h = absurd (let back = ap is_lt (flipped x y Greater e) in cc)

before_both : (x y z : Name) → IsBefore x y → IsBefore y z → IsBefore x z
before_both x y z p q = first (order y x) refl p
  where
    second : order x y ≡ Less → (o : Ordering) → order z y ≡ o → is_lt o ≡ false → IsBefore x z
    second less Less e h = absurd cc
    second less Equal e h = subst (λ w. IsBefore x w) (sym (same_name z y e)) p
    second less Greater e h = ap is_lt (flipped x z Less (nat_list_cmp_total.trans x y z less (flipped z y Greater e)))

    first : (o : Ordering) → order y x ≡ o → is_lt o ≡ false → IsBefore x z
    first Less e h = absurd cc
    first Equal e h = subst (λ w. IsBefore w z) (same_name y x e) q
    first Greater e h = second (flipped y x Greater e) (order z y) refl q

-- ---- names that rise, each before all that come after it

abbrev AllAfter : Name → List Name → Type 0
AllAfter x [] = ⊤
AllAfter x (y ∷ ys) = IsBefore x y × AllAfter x ys

abbrev Rises : List Name → Type 0
Rises [] = ⊤
Rises (x ∷ xs) = AllAfter x xs × Rises xs

all_after : (x y : Name) (ys : List Name) → IsBefore x y → AllAfter y ys → AllAfter x ys
all_after x y [] p all = tt
all_after x y (z ∷ zs) p all = (before_both x y z p all.0, all_after x y zs p all.1)

after_more : (x name : Name) (ys : List Name) → IsBefore x name → AllAfter x ys → AllAfter x (insert_in_byte_order name ys)
after_more x name [] p all = (p, tt)
after_more x name (y ∷ ys) p all = elim (cases_Bool (is_lt (order y name))) [
  | inl less ↦ rw less (all.0, after_more x name ys p all.1)
  | inr not_less ↦ rw not_less (p, all)
]

rises_more : (name : Name) (ys : List Name) → Rises ys → Rises (insert_in_byte_order name ys)
rises_more name [] up = (tt, tt)
rises_more name (y ∷ ys) up = elim (cases_Bool (is_lt (order y name))) [
  | inl less ↦ rw less (after_more y name ys (other_way name y less) up.0, rises_more name ys up.1)
  | inr not_less ↦ rw not_less ((not_less, all_after name y ys not_less up.0), up)
]

rises : (names : List Name) → Rises (sort_by_bytes names)
rises [] = tt
rises (name ∷ names) = rises_more name (sort_by_bytes names) (rises names)

more_same : (name : Name) (ys : List Name) → IsPermutation (name ∷ ys) (insert_in_byte_order name ys)
more_same name [] = IsPermutation-refl (name ∷ [])
more_same name (y ∷ ys) = elim (cases_Bool (is_lt (order y name))) [
  | inl less ↦ rw less (IsPermutation-trans (name ∷ y ∷ ys) (y ∷ name ∷ ys) (y ∷ insert_in_byte_order name ys) (IsPermutation-middle (name ∷ []) y ys)
      (IsPermutation-cons y (name ∷ ys) (insert_in_byte_order name ys) (more_same name ys)))
  | inr not_less ↦ rw not_less (IsPermutation-refl (name ∷ y ∷ ys))
]

same_names : (names : List Name) → IsPermutation names (sort_by_bytes names)
same_names [] = IsPermutation-refl []
same_names (name ∷ names) =
    IsPermutation-trans (name ∷ names) (name ∷ sort_by_bytes names) (insert_in_byte_order name (sort_by_bytes names))
    (IsPermutation-cons name names (sort_by_bytes names) (same_names names)) (more_same name (sort_by_bytes names))

-- ---- the same as no name comes before the one before it

next_of : (x : Name) (xs : List Name) (at : ℕ) (d : Name) → is_lt (order (get_or (x ∷ xs) (suc (at + 1)) d) (get_or xs at d)) ≡ false
    → is_lt (order (get_or (x ∷ xs) (suc at + 1) d) (get_or xs at d)) ≡ false
next_of x xs at d h =
    let moved : suc (at + 1) ≡ suc at + 1 = omega arith in
    subst (λ n. is_lt (order (get_or (x ∷ xs) n d) (get_or xs at d)) ≡ false) moved h

sorted : (xs : List Name) → Rises xs → IsSorted order xs
sorted [] up at d low within = absurd (omega (arith, within))
sorted (x ∷ []) up at d low within = absurd (omega (arith, within))
sorted (x ∷ y ∷ ys) up zero d low within = up.0.0
sorted (x ∷ y ∷ ys) up (suc at) d low within = next_of x (y ∷ ys) at d (sorted (y ∷ ys) up.1 at d (omega arith) (omega (arith, within)))

tail_sorted : (x : Name) (xs : List Name) → IsSorted order (x ∷ xs) → IsSorted order xs
tail_sorted x xs up at d low within =
    let moved : suc at + 1 ≡ suc (at + 1) = omega arith in
    subst (λ n. is_lt (order (get_or (x ∷ xs) n d) (get_or xs at d)) ≡ false) moved (up (suc at) d (omega arith) (omega (arith, within)))

risen : (xs : List Name) → IsSorted order xs → Rises xs
risen [] up = tt
risen (x ∷ []) up = (tt, tt)
risen (x ∷ y ∷ ys) up =
    let rest = risen (y ∷ ys) (tail_sorted x (y ∷ ys) up) in
    let first : IsBefore x y = up 0 y (omega arith) (omega arith) in
    ((first, all_after x y ys first rest.0), rest)

-- ---- two that rise and have the same names are one

abbrev one : Name → Name → ℕ
one z w = if bytes_eq z w then 1 else 0

one_same : (z : Name) → one z z ≡ 1
one_same z = rw ((bytes_eq-Decides z z).1 refl) refl

comes_after : (x y : Name) (ys : List Name) → AllAfter y ys → 1 ≤ sum_by (one x) ys → IsBefore y x
comes_after x y [] all some = absurd (omega (arith, some))
comes_after x y (z ∷ zs) all some = elim (cases_Bool (bytes_eq x z)) [
  | inl same ↦ subst (λ w. IsBefore y w) (sym ((bytes_eq-Decides x z).0 same)) all.0
  | inr other ↦
      let more = sum_by-cons (one x) z zs in
      let none : one x z ≡ 0 = rw other refl in
      comes_after x y zs all.1 (omega (arith, some, more, none))
]

itself : (x : Name) → IsBefore x x
itself x = by_case (order x x) refl
  where
    by_case : (o : Ordering) → order x x ≡ o → is_lt o ≡ false
    by_case Less e = absurd (let back = flipped x x Less e in cc)
    by_case Equal e = refl
    by_case Greater e = refl

first_before : (x y : Name) (ys : List Name) → AllAfter y ys → 1 ≤ sum_by (one x) (y ∷ ys) → IsBefore y x
first_before x y ys all some = comes_after x y (y ∷ ys) (itself y, all) some

unique : (xs ys : List Name) → Rises xs → Rises ys → ((z : Name) → sum_by (one z) xs ≡ sum_by (one z) ys) → xs ≡ ys
unique [] [] up down same = refl
unique [] (y ∷ ys) up down same = absurd (omega (arith, same y, sum_by-cons (one y) y ys, one_same y))
unique (x ∷ xs) [] up down same = absurd (omega (arith, same x, sum_by-cons (one x) x xs, one_same x))
unique (x ∷ xs) (y ∷ ys) up down same =
    let first : x ≡ y = both_ways x y
    (first_before y x xs up.0 (omega (arith, same y, sum_by-cons (one y) y ys, one_same y)))
    (first_before x y ys down.0 (omega (arith, same x, sum_by-cons (one x) x xs, one_same x))) in
    ap₂ ◌∷◌ first (unique xs ys up.1 down.1
    (λ z. let ones = ap (one z) first in omega (arith, same z, sum_by-cons (one z) x xs, sum_by-cons (one z) y ys, ones)))

-- ---- the names of all lists

pub are_names : (a : Archive) → AreListNames a (list_names a)
are_names a = record { is_permutation = same_names a.lists; is_sorted = sorted (sort_by_bytes a.lists) (rises a.lists) }

pub names_are : (a : Archive) (names : List Name) → AreListNames a names → names ≡ list_names a
names_are a names h = unique names (sort_by_bytes a.lists) (risen names h.is_sorted) (rises a.lists)
    (λ z. sum_by-IsPermutation (one z) a.lists names h.is_permutation ∙ sym (sum_by-IsPermutation (one z) a.lists (sort_by_bytes a.lists) (same_names a.lists)))
