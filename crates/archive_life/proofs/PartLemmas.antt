-- What parts of a list have of the whole: commands of an order, and runs among others.
use Rattle.std.proofs.Common.{◌≡◌, ap, refl, subst, sym, List, [], ◌∷◌, ◌++◌}
use Rattle.std.specs.List.{All, AllByRecursion, AllZip}
use Rattle.std.proofs.lemmas.List.Elements.{All-append, All-from_recursion, All-nil, recursion_from_All}
use Rattle.archive_model.specs.Commands.{Command}
use Rattle.archive_life.specs.Histories.{CarriesOutOrdered, DatabaseRun, Ending, commands_carried_out, printed, cut_off}

-- ---- parts of a list

module _ {X : Type 0} (P : X → Type 0) where
  pub all_after : (xs ys : List X) → AllByRecursion P (xs ++ ys) → AllByRecursion P ys
  all_after [] ys it = it
  all_after (x ∷ xs) ys it = all_after xs ys it.1

  pub all_before : (xs ys : List X) → AllByRecursion P (xs ++ ys) → AllByRecursion P xs
  all_before [] ys it = tt
  all_before (x ∷ xs) ys it = (it.0, all_before xs ys it.1)

-- ---- two lists, element by element

-- a list that goes with two lists has two parts
record IsCut {X Z : Type 0} (R : X → Z → Type 0) (xs ys : List X) (zs : List Z) : Type 0 where
  pub first : List Z
  pub rest : List Z
  pub parts : zs ≡ first ++ rest
  pub first_go : AllZip R xs first
  pub rest_go : AllZip R ys rest

record IsCutFirst {X Z : Type 0} (R : X → Z → Type 0) (x : X) (xs : List X) (zs : List Z) : Type 0 where
  pub first : Z
  pub rest : List Z
  pub parts : zs ≡ first ∷ rest
  pub first_goes : R x first
  pub rest_go : AllZip R xs rest

module _ {X Z : Type 0} (R : X → Z → Type 0) where
  cut : (xs ys : List X) (zs : List Z) → AllZip R (xs ++ ys) zs → IsCut R xs ys zs
  cut [] ys zs it = record { first = []; rest = zs; parts = refl; first_go = tt; rest_go = it }
  cut (x ∷ xs) ys [] it = absurd it
  cut (x ∷ xs) ys (z ∷ zs) it =
      let c = cut xs ys zs it.1 in
      record { first = z ∷ c.first; rest = c.rest; parts = ap (λ (all : List Z). z ∷ all) c.parts; first_go = (it.0, c.first_go); rest_go = c.rest_go }

  cut_first : (x : X) (xs : List X) (zs : List Z) → AllZip R (x ∷ xs) zs → IsCutFirst R x xs zs
  cut_first x xs [] it = absurd it
  cut_first x xs (z ∷ zs) it = record { first = z; rest = zs; parts = refl; first_goes = it.0; rest_go = it.1 }

  pub all_zipped : (P : X → Type 0) (Q : Z → Type 0) → ((x : X) (z : Z) → R x z → P x → Q z) → (xs : List X) (zs : List Z) → AllZip R xs zs → AllByRecursion P xs → AllByRecursion Q zs
  all_zipped P Q goes [] [] it all = tt
  all_zipped P Q goes [] (z ∷ zs) it all = absurd it
  all_zipped P Q goes (x ∷ xs) [] it all = absurd it
  all_zipped P Q goes (x ∷ xs) (z ∷ zs) it all = (goes x z it.0 all.0, all_zipped P Q goes xs zs it.1 all.1)

joined : {Z : Type 0} (zs first rest between last tail : List Z) (z y : Z) → zs ≡ first ++ rest → rest ≡ z ∷ between → between ≡ last ++ tail → (after : List Z) → tail ≡ y ∷ after
    → zs ≡ first ++ z ∷ (last ++ y ∷ after)
joined zs first rest between last tail z y whole at middle after end = cc

-- two elements among others, and what goes with each
pub record HasTwo {X Z : Type 0} (R : X → Z → Type 0) (x y : X) (between : List X) (zs : List Z) : Type 0 where
  pub before_first : List Z
  pub first : Z
  pub in_between : List Z
  pub second : Z
  pub after_second : List Z
  pub parts : zs ≡ before_first ++ first ∷ (in_between ++ second ∷ after_second)
  pub first_goes : R x first
  pub between_go : AllZip R between in_between
  pub second_goes : R y second

module _ {X Z : Type 0} (R : X → Z → Type 0) (before between after : List X) (x y : X) (zs : List Z) where
  pub two : AllZip R (before ++ x ∷ (between ++ y ∷ after)) zs → HasTwo R x y between zs
  two all =
      let head = cut R before (x ∷ (between ++ y ∷ after)) zs all in
      let there = cut_first R x (between ++ y ∷ after) head.rest head.rest_go in
      let middle = cut R between (y ∷ after) there.rest there.rest_go in
      let last = cut_first R y after middle.rest middle.rest_go in
      record {
        before_first = head.first;
        first = there.first;
        in_between = middle.first;
        second = last.first;
        after_second = last.rest;
        parts = joined zs head.first head.rest there.rest middle.first middle.rest there.first last.first head.parts there.parts middle.parts last.rest last.parts;
        first_goes = there.first_goes;
        between_go = middle.first_go;
        second_goes = last.first_goes;
      }

-- ---- commands that a run carried out are commands of its order

module _ (Q : Command → Type 0) where
  of_order : (ending : Ending) (ordered carried_out : List Command) → CarriesOutOrdered ending ordered carried_out → All Q ordered → All Q carried_out
  of_order printed ordered carried_out it all = subst (All Q) (sym it) all
  of_order cut_off ordered carried_out it all =
      All-from_recursion Q carried_out (all_before Q carried_out it.0 (recursion_from_All Q (carried_out ++ it.0) (subst (All Q) it.1 all)))

  pub of_orders : (runs : List DatabaseRun) → AllByRecursion (λ r. CarriesOutOrdered r.ending r.ordered r.carried_out) runs → AllByRecursion (λ r. All Q r.ordered) runs
      → All Q (commands_carried_out runs)
  of_orders [] each all = All-nil Q
  of_orders (r ∷ runs) each all =
      All-append Q r.carried_out (commands_carried_out runs) (of_order r.ending r.ordered r.carried_out each.0 all.0) (of_orders runs each.1 all.1)
