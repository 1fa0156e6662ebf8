-- The names of all lists, in the order of their bytes.
use Rattle.std.proofs.Common.{◌≡◌, ℕ, ◌+◌, ◌<◌, List, [], ◌∷◌, map, filter, length, get_or, codes, refl, sym, ap, ap₂, subst, ◌∙◌, arith}
use Rattle.std.specs.List.{AllByRecursion}
use Rattle.std.specs.List.Sorted.{IsPermutation, IsSorted}
use Rattle.std.specs.Cmp.Lexicographic.{slice_cmp}
use Rattle.std.specs.Ordering.{is_lt, nat_cmp, ordering_then}
use Rattle.std.specs.declared.cmp.Ordering.{Ordering}
use Rattle.std.specs.declared.cmp.Ordering.TheVariants.{Less, Equal, Greater}
use Rattle.std.proofs.lemmas.List.{length-map, get_or-map, map-id}
use Rattle.std.proofs.lemmas.List.Sorted.{IsPermutation-map}
use Rattle.sqlite.specs.declared.types.Value.TheVariants.{Text}
use Rattle.sqlite.specs.Order.{column, bytes}
use Rattle.sqlite.specs.Term.{Term, col}
use Rattle.sqlite.specs.Collation.TheVariants.{Binary}
use Rattle.sqlite.specs.Query.{Query, Output, output, output_cmp}
use Rattle.sqlite.specs.Listing.{understood}
use Rattle.sqlite_resolve.specs.Compile.{first}
use Rattle.sqlite_tied.specs.Compute.{everything}
use Rattle.sqlite_value.specs.declared.keys.Key.{Key}
use Rattle.sqlite_value.specs.Keys.{ascending}
use Rattle.sqlite_value.proofs.OrderLemmas.{value_cmp-Text}
use Rattle.sqlite_trees.proofs.ListLemmas.{all-permutation, map-map}
use Rattle.archive_tables.specs.Tables.{NumberedRecord, numbered_row, numbered_from_row, list_cells, list_from_row, archive_in_trees}
use Rattle.archive_tables.specs.Rows.{name_result_row}
use Rattle.archive_tables.proofs.RowLemmas.{records_are}
use Rattle.archive_tables.proofs.SelectLemmas.{plain_query, env_of, passes, all_pass}
use Rattle.archive_tables.proofs.AskLemmas.{Question, QuestionText, table_question}

abbrev pub names_text : List ℕ
names_text = codes "SELECT name FROM list ORDER BY name"

abbrev the_name : List Term
the_name = col 1 1 ∷ []

abbrev by_name : List (Term × Key)
by_name = (col 1 1, ascending Binary) ∷ []

abbrev query : Query
query = plain_query 1 [] the_name by_name

names_is : QuestionText names_text query []
unfolding understood first everything
names_is = record { names = _; is = refl; plain = (refl, refl); unlisted = refl; fits = (refl, refl); typed = refl; asks = tt }

-- a name, as it is sorted by and as it is shown
abbrev both : List ℕ → Output
both name = (Text name ∷ [], name_result_row name)

abbrev name_of : Output → List ℕ
name_of o = bytes (column o.1 0)

abbrev IsBoth : Output → Type 0
IsBoth o = o ≡ both (name_of o)

shown_all : (all : List (NumberedRecord (List ℕ))) → map (λ row. output query (env_of [] row)) (map (numbered_row list_cells) all) ≡ map both (map (λ (r : NumberedRecord (List ℕ)). r.content) all)
shown_all all = map-map (λ row. output query (env_of [] row)) (numbered_row list_cells) all ∙ sym (map-map both (λ (r : NumberedRecord (List ℕ)). r.content) all)

all_both : (names : List (List ℕ)) → AllByRecursion IsBoth (map both names)
all_both [] = tt
all_both (name ∷ names) = (refl, all_both names)

are_both : (outs : List Output) → AllByRecursion IsBoth outs → outs ≡ map both (map name_of outs)
are_both [] all = refl
are_both (o ∷ outs) all = ap₂ ◌∷◌ all.0 (are_both outs all.1)

-- ---- the order

tie_last : (o : Ordering) → ordering_then o Equal ≡ o
tie_last Less = refl
tie_last Equal = refl
tie_last Greater = refl

by_bytes : (a b : List ℕ) → output_cmp query (both a) (both b) ≡ slice_cmp nat_cmp a b
by_bytes a b = tie_last _ ∙ value_cmp-Text a b

sorted_names : (names : List (List ℕ)) → IsSorted (output_cmp query) (map both names) → IsSorted (slice_cmp nat_cmp) names
sorted_names names sorted at d from within =
    let longer : at + 1 < length (map both names) = subst (λ n. at + 1 < n) (sym (length-map names both)) within in
    let less = sorted at (both d) from longer in
    let first = get_or-map both names (at + 1) d (both d) within in
    let second = get_or-map both names at d (both d) (omega (arith, within)) in
    ap is_lt (sym (by_bytes (get_or names (at + 1) d) (get_or names at d)) ∙ ap₂ (output_cmp query) (sym first) (sym second)) ∙ less

pub all_names : Question names_text []
    (λ db rows. (names : List (List ℕ)) × (rows ≡ map name_result_row names) × IsPermutation (archive_in_trees db).lists names × IsSorted (slice_cmp nat_cmp) names)
all_names = table_question 1 [] the_name by_name (λ db. refl) names_is (λ db k rows picks.
    let lists = map list_from_row (db 1) in
    let start : map (λ row. output query (env_of [] row)) (filter (passes [] []) (db 1)) ≡ map both lists =
    ap (map (λ row. output query (env_of [] row))) (all_pass [] (db 1) ∙ k.lists.rows_read_back) ∙ shown_all (map (numbered_from_row list_from_row) (db 1))
    ∙ ap (map both) (sym (records_are list_cells list_from_row (λ n r. refl) (db 1) k.lists)) in
    let same = subst (λ l. IsPermutation l picks.ordered) start picks.same in
    let names = map name_of picks.ordered in
    let ordered = are_both picks.ordered (all-permutation IsBoth (map both lists) picks.ordered same (all_both lists)) in (
      names,
      picks.is ∙ ap (map (λ (o : Output). o.1)) ordered ∙ map-map (λ (o : Output). o.1) both names,
      subst (λ l. IsPermutation l names) (map-map name_of both lists ∙ map-id lists) (IsPermutation-map name_of (map both lists) picks.ordered same),
      sorted_names names (subst (IsSorted (output_cmp query)) ordered picks.sorted),
    ))
