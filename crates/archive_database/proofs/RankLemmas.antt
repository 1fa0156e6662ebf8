-- The highest rank of some grants, read row by row.
use Rattle.std.proofs.Common.{◌≡◌, suc, ◌≤◌, ◌-◌, length, take, drop, get_or, arith, ℤ, true, false, ◌&&◌, Bool, List, [], ◌∷◌, Result, Ok, Err, refl, sym, ap, ◌∙◌}
use Rattle.std.specs.Prelude.{IfOk, int_le, map}
use Rattle.std.specs.Int.{int_max}
use Rattle.std.proofs.lemmas.List.{take_all}
use Rattle.sqlite.specs.Order.{Row}
use Rattle.archive_model.specs.Records.{Grant}
use Rattle.archive_model.specs.Questions.{grant_holds_on}
use Rattle.archive_tables.specs.Rows.{grant_result_row, grant_from_result_row}
use Rattle.archive_tables.specs.declared.rows.GrantRow.{GrantRow}
use Rattle.archive_database.specs.Ranks.{highest_rank_on, highest_rank_with_grant}

-- what was read of a grant
pub when_it_holds : (day above : ℤ) (r : GrantRow) (g : Grant) → grant_from_result_row g.person g.list r ≡ g
    → true ≡ (int_le r.from_day day && int_le day r.until_day) → int_max r.rank above ≡ highest_rank_with_grant day g above
when_it_holds day above r g e holds = ap (λ n. int_max n above) (ap (λ g. g.rank) e) ∙ rw (sym (ap (grant_holds_on day) e), sym holds) refl

with_first : (b : Bool) (day : ℤ) (g : Grant) (gs : List Grant) → grant_holds_on day g ≡ b → highest_rank_on day (g ∷ gs) ≡ highest_rank_with_grant day g (highest_rank_on day gs)
with_first true day g gs e = rw e refl
with_first false day g gs e = rw e refl

-- what is so where rows show a grant first, and then some
pub shown_as : (P : List Grant → Type 0) (rows : List Row) (row : Row) (rest : List Row) → rows ≡ row ∷ rest
    → ((g : Grant) (gs : List Grant) → row ≡ grant_result_row g → rest ≡ map grant_result_row gs → P (g ∷ gs)) → (shown : List Grant) → rows ≡ map grant_result_row shown → P shown
shown_as P rows row rest e so [] is = absurd (cc)
shown_as P rows row rest e so (g ∷ gs) is = so g gs (cc) (cc)

-- a row more
pub one_more : (day above rank : ℤ) (rows : List Row) (row : Row) (rest : List Row) → rows ≡ row ∷ rest
    → ((gs : List Grant) → rest ≡ map grant_result_row gs → above ≡ highest_rank_on day gs)
    → ((g : Grant) → row ≡ grant_result_row g → rank ≡ highest_rank_with_grant day g above)
    → (shown : List Grant) → rows ≡ map grant_result_row shown → rank ≡ highest_rank_on day shown
one_more day above rank rows row rest e later first = shown_as (λ shown. rank ≡ highest_rank_on day shown) rows row rest e
    (λ g gs here there. first g here ∙ ap (highest_rank_with_grant day g) (later gs there) ∙ sym (with_first (grant_holds_on day g) day g gs refl))

-- some rows are the first and the others
pub first_and_rest : (rows : List Row) (row : Row) → 1 ≤ length rows → row ≡ get_or rows 0 row → rows ≡ row ∷ take (length rows - 1) (drop 1 rows)
first_and_rest [] row some is = absurd (omega (arith, some))
first_and_rest (x ∷ xs) row some is = ap (λ y. y ∷ xs) (sym is) ∙ ap (λ ys. row ∷ ys) (sym (take_all (suc (length xs) - 1) xs (omega arith)))

pub if_ok : {A E : Type 0} (r : Result A E) (P Q : A → Type 0) → ((a : A) → P a → Q a) → IfOk r P → IfOk r Q
if_ok (Ok a) P Q f p = f a p
if_ok (Err e) P Q f p = tt
