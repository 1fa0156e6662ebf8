-- The page of all lists tells their names.
use Rattle.std.proofs.Common.{◌≡◌, ◌≢◌, ◌∙◌, ℕ, ◌==◌, List, [], ◌∷◌, ◌++◌, flat_map, Bool, true, false, cond, not, refl, sym, ap, arith, codes, decimal, append_assoc}
use Rattle.std.specs.List.{All, list_all}
use Rattle.std.specs.Ordering.{is_lt, nat_cmp}
use Rattle.std.specs.Cmp.Lexicographic.{slice_cmp}
use Rattle.std.proofs.lemmas.Bool.Decides.{nat_tests}
use Rattle.std.proofs.lemmas.List.{append_cancel_left, append_cancel_right}
use Rattle.std.proofs.lemmas.List.Elements.{All-nil, All-cons, All-head, All-tail}
use Rattle.policy_core.specs.Names.{is_name, is_name_byte}
use Rattle.archive_model.specs.Questions.{insert_in_byte_order, sort_by_bytes}
use Rattle.archive_html.specs.Rows.{list_row}
use Rattle.archive_html.specs.Links.{link, list_path}
use Rattle.archive_html.specs.Pages.{lists_page, page_head, page_foot}
use Rattle.archive_laws.proofs.ByteLemmas.{weaker, cut_alike}
use Rattle.archive_laws.proofs.AskingLemmas.{name_bytes}

abbrev pub IsName : List ℕ → Type 0
IsName name = is_name name ≡ true

-- ---- the names in order are names

all_with : (name : List ℕ) (names : List (List ℕ)) → IsName name → All IsName names → All IsName (insert_in_byte_order name names)
all_with name [] is all = All-cons IsName name [] is all
all_with name (other ∷ names) is all = by (is_lt (slice_cmp nat_cmp other name)) (all_with name names is (All-tail IsName other names all))
  where
    by : (t : Bool) → All IsName (insert_in_byte_order name names) → All IsName (cond t (other ∷ insert_in_byte_order name names) (name ∷ other ∷ names))
    by true more = All-cons IsName other (insert_in_byte_order name names) (All-head IsName other names all) more
    by false more = All-cons IsName name (other ∷ names) is all

pub all_in_order : (names : List (List ℕ)) → All IsName names → All IsName (sort_by_bytes names)
all_in_order [] all = All-nil IsName
all_in_order (name ∷ names) all =
    all_with name (sort_by_bytes names) (All-head IsName name names all) (all_in_order names (All-tail IsName name names all))

-- ---- a row, up to its name

abbrev front : List ℕ
front = codes "<div class=\"d" ++ (decimal 0 ++ (codes "\">" ++ (codes "<a href=\"" ++ codes "/l/")))

-- what follows a name and its slash
abbrev back : List ℕ → List ℕ
back name = codes "threads" ++ (codes "\">" ++ (name ++ (codes "</a>" ++ (32 ∷ (link (list_path name (codes "/mbox")) (codes "mbox") ++ codes "</div>\n")))))

in_parts : (name r : List ℕ) → list_row name ++ r ≡ front ++ (name ++ 47 ∷ (back name ++ r))
unfolding list_row
in_parts name r = simp append_assoc

is_other : ℕ → Bool
is_other b = not (b == 47)

no_slash : (name : List ℕ) → IsName name → list_all is_other name ≡ true
unfolding is_other
no_slash name is = weaker is_name_byte is_other other name (name_bytes name is)
  where
    other : (b : ℕ) → is_name_byte b ≡ true → not (b == 47) ≡ true
    other b h = grind (arith, nat_tests, h)

slash_is_none : is_other 47 ≡ false
unfolding is_other
slash_is_none = refl

row_alike : (x y r s : List ℕ) → IsName x → IsName y → list_row x ++ r ≡ list_row y ++ s → (x ≡ y) × (r ≡ s)
row_alike x y r s hx hy e =
    let cut = cut_alike is_other 47 slash_is_none x y (back x ++ r) (back y ++ s) (no_slash x hx) (no_slash y hy)
    (append_cancel_left front (x ++ 47 ∷ (back x ++ r)) (y ++ 47 ∷ (back y ++ s)) (sym (in_parts x r) ∙ e ∙ in_parts y s)) in
    (cut.0, append_cancel_left (back x) r s (cut.1 ∙ ap (λ name. back name ++ s) (sym cut.0)))

some_row : (x r : List ℕ) → list_row x ++ r ≢ []
some_row x r e = nothing (sym (in_parts x r) ∙ e)
  where
    nothing : front ++ (x ++ 47 ∷ (back x ++ r)) ≢ []
    nothing h = grind arith

rows_alike : (xs ys : List (List ℕ)) → All IsName xs → All IsName ys → flat_map list_row xs ≡ flat_map list_row ys → xs ≡ ys
rows_alike [] [] hx hy e = refl
rows_alike [] (y ∷ ys) hx hy e = absurd (some_row y (flat_map list_row ys) (sym e))
rows_alike (x ∷ xs) [] hx hy e = absurd (some_row x (flat_map list_row xs) e)
rows_alike (x ∷ xs) (y ∷ ys) hx hy e =
    let first = row_alike x y (flat_map list_row xs) (flat_map list_row ys) (All-head IsName x xs hx) (All-head IsName y ys hy) e in
    rw (first.0, rows_alike xs ys (All-tail IsName x xs hx) (All-tail IsName y ys hy) first.1) refl

pub page_tells_names : (xs ys : List (List ℕ)) → All IsName xs → All IsName ys → lists_page xs ≡ lists_page ys → xs ≡ ys
page_tells_names xs ys hx hy e = rows_alike xs ys hx hy
    (append_cancel_right (flat_map list_row xs) (flat_map list_row ys) page_foot
    (append_cancel_left (page_head (codes "Lists")) (flat_map list_row xs ++ page_foot) (flat_map list_row ys ++ page_foot) e))
