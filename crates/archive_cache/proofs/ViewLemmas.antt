-- Looking for a view that is kept, and keeping one more.
use Rattle.std.proofs.Common.{◌≡◌, refl, sym, ap, ◌∙◌, inl, inr, ℕ, zero, suc, ◌≤◌, ◌+◌, ◌-◌, ◌^◌, ◌<◌, min, true, List, [], ◌∷◌, length, get_or, slice_get, bytes_eq, Option, Some, None, arith}
use Rattle.std.specs.Prelude.{◌==◌, ◌&&◌, ◌⊎◌, insert, option_map, position}
use Rattle.std.specs.Option.{option_map_or}
use Rattle.std.proofs.lemmas.Bool.{and_parts, eqb-true}
use Rattle.std.proofs.lemmas.List.Quantifiers.{position-Some}
use Rattle.std.proofs.lemmas.List.Edits.{length-insert}
use Rattle.std.proofs.lemmas.List.Sums.{sum_by-insert}
use Rattle.std.proofs.lemmas.Option.{slice_get-get_or}
use Rattle.std.proofs.lemmas.Slice.Eq.{bytes_eq-Decides}
use Rattle.policy_core.specs.declared.access.Standing.{Standing}
use Rattle.policy_core.specs.declared.access.Standing.TheVariants.{Public, Member, Subscriber, Moderator}
use Rattle.policy_core.specs.Facts.{rank_of_standing}
use Rattle.archive_results.specs.Access.{ReaderFacts}
use Rattle.archive_cache.specs.ListIndexes.{ListIndex}
use Rattle.archive_cache.specs.Parts.{ViewPart, whole, month, author, same_part}
use Rattle.archive_cache.specs.Views.{CachedView, CacheState, first_whole_list_place, is_view_of, is_whole_list_view}
use Rattle.archive_cache.specs.Views.{cached_index_at, insertion_place, same_address, same_reader, view_weight, views_weight}

-- ---- readers

ranks_apart : (s t : Standing) → rank_of_standing s ≡ rank_of_standing t → s ≡ t
ranks_apart Public Public e = refl
ranks_apart Public Member e = absurd (omega arith)
ranks_apart Public Subscriber e = absurd (omega arith)
ranks_apart Public Moderator e = absurd (omega arith)
ranks_apart Member Public e = absurd (omega arith)
ranks_apart Member Member e = refl
ranks_apart Member Subscriber e = absurd (omega arith)
ranks_apart Member Moderator e = absurd (omega arith)
ranks_apart Subscriber Public e = absurd (omega arith)
ranks_apart Subscriber Member e = absurd (omega arith)
ranks_apart Subscriber Subscriber e = refl
ranks_apart Subscriber Moderator e = absurd (omega arith)
ranks_apart Moderator Public e = absurd (omega arith)
ranks_apart Moderator Member e = absurd (omega arith)
ranks_apart Moderator Subscriber e = absurd (omega arith)
ranks_apart Moderator Moderator e = refl

addresses_are : (a b : Option (List ℕ)) → same_address a b ≡ true → a ≡ b
addresses_are None None e = refl
addresses_are (Some a) (Some b) e = ap (λ (x : List ℕ). Some x) ((bytes_eq-Decides a b).0 e)
addresses_are None (Some b) e = absurd (cc)
addresses_are (Some a) None e = absurd (cc)

readers_are : (a b : ReaderFacts) → same_reader a b ≡ true → a ≡ b
readers_are a b e =
    let both = and_parts (rank_of_standing a.standing == rank_of_standing b.standing) (same_address a.address b.address) e in
    let standing = ranks_apart a.standing b.standing (eqb-true (rank_of_standing a.standing) (rank_of_standing b.standing) both.0) in
    let address = addresses_are a.address b.address both.1 in
    λ i. record { standing = standing i; address = address i }

-- ---- parts

parts_are : (a b : ViewPart) → same_part a b ≡ true → a ≡ b
parts_are whole whole e = refl
parts_are whole (month n) e = absurd (cc)
parts_are whole (author l) e = absurd (cc)
parts_are (month m) whole e = absurd (cc)
parts_are (month m) (month n) e = ap month (eqb-true m n e)
parts_are (month m) (author l) e = absurd (cc)
parts_are (author k) whole e = absurd (cc)
parts_are (author k) (month n) e = absurd (cc)
parts_are (author k) (author l) e = ap author ((bytes_eq-Decides k l).0 e)

-- ---- looking

-- the view that a search gives is of that part, list and reader
pub record Found (list : List ℕ) (reader : ReaderFacts) (part : ViewPart) (views : List CachedView) (place : ℕ) : Type 0 where
  pub view : CachedView
  pub there : slice_get views place ≡ Some view
  pub list_matches : view.list ≡ list
  pub reader_is : view.reader ≡ reader
  pub part_is : view.part ≡ part

module _ (list : List ℕ) (reader : ReaderFacts) (part : ViewPart) where
  found_by : (views : List CachedView) (place : ℕ) (other : CachedView) → position (is_view_of list reader part) views ≡ Some place → Found list reader part views place
  found_by views place other e =
      let first = position-Some (is_view_of list reader part) views place other e in
      let view = get_or views place other in
      let two = and_parts (same_part view.part part) (bytes_eq view.list list && same_reader view.reader reader) first.1 in
      let both = and_parts (bytes_eq view.list list) (same_reader view.reader reader) two.1 in
      record {
        view = view;
        there = slice_get-get_or views place other first.0;
        list_matches = (bytes_eq-Decides view.list list).0 both.0;
        reader_is = readers_are view.reader reader both.1;
        part_is = parts_are view.part part two.0;
      }

  pub found_view : (views : List CachedView) (place : ℕ) → Some place ≡ position (is_view_of list reader part) views → Found list reader part views place
  found_view [] place e = absurd (cc)
  found_view (v ∷ vs) place e = found_by (v ∷ vs) place v (sym e)

-- ---- one more

-- it has a place
whole_within : (views : List CachedView) → first_whole_list_place views ≤ length views
whole_within [] = omega arith
whole_within (v ∷ vs) = by_test (position is_whole_list_view (v ∷ vs)) refl
  where
    by_test : (o : Option ℕ) → position is_whole_list_view (v ∷ vs) ≡ o → option_map_or (λ n. n) o (length (v ∷ vs)) ≤ length (v ∷ vs)
    by_test None e = omega arith
    by_test (Some n) e = let less = (position-Some is_whole_list_view (v ∷ vs) n v e).0 in omega (arith, less)

pub put_within : (part : ViewPart) (views : List CachedView) → insertion_place part views ≤ length views
put_within whole views = omega arith
put_within (month m) views = whole_within views
put_within (author key) views = whole_within views

put_at : (views : List CachedView) (place : ℕ) (v : CachedView) → place ≤ length views → slice_get (insert views place v) place ≡ Some v
put_at [] zero v upto = refl
put_at [] (suc n) v upto = absurd (omega (arith, upto))
put_at (x ∷ xs) zero v upto = refl
put_at (x ∷ xs) (suc n) v upto = put_at xs n v (omega (arith, upto))

-- what was put stands there
pub outline_put : (kept : CacheState) (views : List CachedView) (v : CachedView) (place : ℕ) → place ≤ length views → kept.views ≡ insert views place v
    → cached_index_at kept place ≡ Some v.outline
outline_put kept views v place upto e =
    ap (λ (vs : List CachedView). option_map (λ (w : CachedView). w.outline) (slice_get vs place)) e
    ∙ ap (option_map (λ (w : CachedView). w.outline)) (put_at views place v upto)

-- what stands at a place that there is
pub some_is : (one other : ListIndex) → Some one ≡ Some other → one ≡ other
some_is one other is = cc

pub stands_at : (views : List CachedView) (place : ℕ) → place < length views → (o : ListIndex) × (option_map (λ (v : CachedView). v.outline) (slice_get views place) ≡ Some o)
stands_at [] place below = absurd (omega (arith, below))
stands_at (v ∷ vs) zero below = (v.outline, refl)
stands_at (v ∷ vs) (suc n) below = stands_at vs n (omega (arith, below))

-- and there are as many more
pub put_there : (part : ViewPart) (rest views : List CachedView) (v : CachedView) (place : ℕ) → place ≡ insertion_place part rest → views ≡ insert rest place v → place < length views
put_there part rest views v place at e =
    let upto = put_within part rest in
    let size = ap (λ (vs : List CachedView). length vs) e ∙ length-insert rest place v (omega (arith, at, upto)) in
    omega (arith, at, upto, size)

-- ---- how much it is

alone : (place : ℕ) (v : CachedView) → length (insert [] place v) ≡ 1
alone zero v = refl
alone (suc n) v = refl

module _ (most weight place : ℕ) (rest views : List CachedView) (v : CachedView) (fits : most < 2 ^ 64) (weighs : weight ≡ min (view_weight v) (2 ^ 64 - 1))
    (put : views ≡ insert rest place v) where
  -- it has room beside the others, or it is alone
  pub bounded_put : (views_weight rest + weight < most) ⊎ (rest ≡ []) → (views_weight views ≤ most) ⊎ (length views ≡ 1)
  bounded_put (inl room) =
      let sum = ap views_weight put ∙ sum_by-insert view_weight rest place v in
      inl (omega (arith, sum, room, weighs, fits))
  bounded_put (inr none) = inr (ap (λ (vs : List CachedView). length vs) put ∙ ap (λ (vs : List CachedView). length (insert vs place v)) none ∙ alone place v)
