-- Numbers that rise from 1: as long as none reaches a limit, there are fewer messages than the limit.
use Rattle.std.proofs.Common.{◌≡◌, inl, inr, ℕ, ◌<◌, ℤ, pos, ◌+ℤ◌, List, [], ◌∷◌, map, filter, take, length, codes, refl, sym, ap, ap₂, subst, ◌∙◌, false, arith}
use Rattle.std.specs.Prelude.{not, nat_eq, int_le, ◌==◌, ◌||◌}
use Rattle.std.specs.List.{AllByRecursion, list_any}
use Rattle.std.specs.Int.Signed.{◌<ℤ◌}
use Rattle.std.specs.Ordering.{int_cmp, is_ge}
use Rattle.std.specs.declared.cmp.Ordering.TheVariants.{Less}
use Rattle.std.proofs.lemmas.Bool.{or_parts}
use Rattle.std.proofs.lemmas.Bool.Decides.{nat_tests}
use Rattle.std.proofs.lemmas.Int.{ints}
use Rattle.std.proofs.lemmas.List.{length-map}
use Rattle.std.proofs.lemmas.List.Sorted.{length_permutation}
use Rattle.sqlite.specs.declared.types.Value.TheVariants.{Int}
use Rattle.sqlite.specs.Order.{Row, value_cmp}
use Rattle.sqlite.specs.Tree.{Trees, IsTable, rowid}
use Rattle.sqlite.specs.Edit.{id_in}
use Rattle.sqlite.specs.Term.{Term, lit, col, op2}
use Rattle.sqlite.specs.Ops.{binary}
use Rattle.sqlite.specs.Collation.TheVariants.{Binary}
use Rattle.sqlite.specs.Query.{Query, Output, output, IsAnswer}
use Rattle.sqlite.specs.Program.{overlay}
use Rattle.sqlite.specs.Listing.{understood}
use Rattle.sqlite_resolve.specs.Compile.{first}
use Rattle.sqlite_tied.specs.Compute.{everything}
use Rattle.sqlite_sql.specs.Program.{ProgramOverflows}
use Rattle.sqlite_sql.specs.declared.ops.BinaryOp.TheVariants.{Compare}
use Rattle.sqlite_sql.specs.declared.ops.CompareOp.TheVariants.{Ge}
use Rattle.sqlite_trees.proofs.ListLemmas.{map-map}
use Rattle.sqlite_value.proofs.OrderLemmas.{value_cmp-Int}
use Rattle.archive_model.specs.Filing.{IndexedMessage}
use Rattle.archive_tables.specs.Tables.{NumberedRecord, numbered_row, numbered_from_row, HoldsRecords, archive_in_trees}
use Rattle.archive_tables.specs.Tables.{message_from_row, indexed_message_cells, indexed_message_from_row, has_rowid_at_least}
use Rattle.archive_tables.proofs.RowLemmas.{int_less}
use Rattle.archive_tables.proofs.SelectLemmas.{plain_query, env_of, passes, each_passing, any_is_some, alone, truth_back}
use Rattle.archive_tables.proofs.AskLemmas.{Question, QuestionText, question_of}

abbrev pub reach_text : List ℕ
reach_text = codes "SELECT pos FROM message WHERE pos >= ?1 LIMIT 1"

abbrev high : List Term
high = op2 (Compare Ge Binary) (col 1 0) (col 0 0) ∷ []

abbrev number_cell : List Term
number_cell = col 1 0 ∷ []

abbrev query : Query
query = record (plain_query 8 high number_cell []) { limit = lit (Int (pos 1)) }

reach_is : (limit : ℕ) → QuestionText reach_text query (Int (pos limit) ∷ [])
unfolding understood first everything
reach_is limit = record { names = _; is = refl; plain = (refl, refl); unlisted = refl; fits = (refl, refl); typed = refl; asks = tt }

calm : (params : Row) (db : Trees) → ¬ ProgramOverflows db params [] [] query
calm params db (inl grouped) = grouped
calm params db (inr (i, row, low, at, none)) = none

-- ---- whether there is a row

one_taken : {A : Type 0} (xs : List A) → nat_eq (length (take 1 xs)) 0 ≡ nat_eq (length xs) 0
one_taken [] = refl
one_taken (x ∷ xs) = grind arith

some_high : (trees : Trees) (params : Row) (rows : List Row) → IsAnswer query trees params rows → not (nat_eq (length rows) 0) ≡ list_any (passes high params) (trees 8)
some_high trees params rows a =
    let kept : a.kept ≡ map (λ row. output query (env_of params row)) (filter (passes high params) (trees 8)) =
    a.distinct ∙ ap (map (output query)) (a.grouped ∙ each_passing (passes high params) (env_of params) (trees 8)) ∙ map-map (output query) (env_of params) _ in
    let count : length (map (λ (o : Output). o.1) a.ordered) ≡ length (filter (passes high params) (trees 8)) =
    length-map a.ordered _ ∙ length_permutation _ _ a.same ∙ ap length kept ∙ length-map (filter (passes high params) (trees 8)) _ in
    ap not (ap (λ l. nat_eq (length l) 0) a.shown ∙ one_taken (map (λ (o : Output). o.1) a.ordered) ∙ ap (λ n. nat_eq n 0) count) ∙ any_is_some (passes high params) (trees 8)

-- ---- counting

is_high : (limit : ℕ) (r : NumberedRecord IndexedMessage) → passes high (Int (pos limit) ∷ []) (numbered_row indexed_message_cells r) ≡ is_ge (int_cmp r.number (pos limit))
unfolding binary
is_high limit r = alone _ ∙ truth_back _ ∙ ap is_ge (value_cmp-Int r.number (pos limit))

from_limit : (limit : ℕ) (n : ℤ) → is_ge (int_cmp n (pos limit)) ≡ int_le (pos limit) n
from_limit limit n = grind (arith, ints, nat_tests)

-- the rows that pass are those of a number of at least the limit
any_high : (limit : ℕ) (all : List (NumberedRecord IndexedMessage))
    → list_any (passes high (Int (pos limit) ∷ [])) (map (numbered_row indexed_message_cells) all) ≡ list_any (λ row. int_le (pos limit) (id_in (rowid row)))
    (map (numbered_row indexed_message_cells) all)
any_high limit [] = refl
any_high limit (r ∷ all) = ap₂ ◌||◌ (is_high limit r ∙ from_limit limit r.number) (any_high limit all)

reaches_in : (limit : ℕ) (rows : List Row) → HoldsRecords indexed_message_cells indexed_message_from_row rows
    → list_any (passes high (Int (pos limit) ∷ [])) rows ≡ list_any (λ row. int_le (pos limit) (id_in (rowid row))) rows
reaches_in limit rows k =
    let all = map (numbered_from_row indexed_message_from_row) rows in
    subst (λ l. list_any (passes high (Int (pos limit) ∷ [])) l ≡ list_any (λ row. int_le (pos limit) (id_in (rowid row))) l) (sym k.rows_read_back) (any_high limit all)

abbrev AreLow : ℕ → List (NumberedRecord IndexedMessage) → Type 0
AreLow limit = AllByRecursion (λ r. r.number <ℤ pos limit)

low : (limit : ℕ) (n : ℤ) → is_ge (int_cmp n (pos limit)) ≡ false → n <ℤ pos limit
low limit n h = grind (arith, ints, nat_tests)

all_low : (limit : ℕ) (all : List (NumberedRecord IndexedMessage)) → list_any (passes high (Int (pos limit) ∷ [])) (map (numbered_row indexed_message_cells) all) ≡ false → AreLow limit all
all_low limit [] none = tt
all_low limit (r ∷ all) none = let both = or_parts _ _ none in (low limit r.number (sym (is_high limit r) ∙ both.0), all_low limit all both.1)

-- rising numbers between two bounds are fewer than what lies between
fewer : (limit : ℕ) (from : ℤ) (all : List (NumberedRecord IndexedMessage)) → from <ℤ pos limit
    → AllByRecursion (λ row. value_cmp (Int from) (rowid row) ≡ Less) (map (numbered_row indexed_message_cells) all)
    → IsTable (map (numbered_row indexed_message_cells) all) → AreLow limit all → (pos (length all) +ℤ from) <ℤ pos limit
fewer limit from [] below above up lows = omega (arith, ints, below)
fewer limit from (r ∷ all) below above up lows =
    let more = fewer limit r.number all lows.0 up.0 up.1 lows.1 in
    let first : from <ℤ r.number = int_less (sym (value_cmp-Int from r.number) ∙ above.0) in
    omega (arith, ints, more, first)

fewer_messages : (limit : ℕ) (rows : List Row) → 0 < limit → HoldsRecords indexed_message_cells indexed_message_from_row rows → AllByRecursion (λ row. value_cmp (Int (pos 0)) (rowid row) ≡ Less) rows
    → list_any (passes high (Int (pos limit) ∷ [])) rows ≡ false → length (map message_from_row rows) < limit
fewer_messages limit rows some k positive none =
    let all = map (numbered_from_row indexed_message_from_row) rows in
    let lows = all_low limit all (subst (λ l. list_any (passes high (Int (pos limit) ∷ [])) l ≡ false) k.rows_read_back none) in
    let count = fewer limit (pos 0) all (omega (arith, ints, some)) (subst (AllByRecursion (λ row. value_cmp (Int (pos 0)) (rowid row) ≡ Less)) k.rows_read_back positive)
    (subst IsTable k.rows_read_back k.is_table) lows in
    let same : length all ≡ length (map message_from_row rows) = length-map rows (numbered_from_row indexed_message_from_row) ∙ sym (length-map rows message_from_row) in
    omega (arith, ints, count, same)

-- what an answer tells of the numbers
pub record Reaches (limit : ℕ) (db : Trees) (rows : List Row) : Type 0 where
  pub fewer : 0 < limit → length rows ≡ 0 → length (archive_in_trees db).messages < limit
  pub number : not (length rows == 0) ≡ has_rowid_at_least db limit

pub reach : (limit : ℕ) → Question reach_text (Int (pos limit) ∷ []) (Reaches limit)
reach limit = question_of (reach_is limit) (calm (Int (pos limit) ∷ [])) (λ db k rows a. record {
  fewer = λ some none. fewer_messages limit (db 8) some k.messages k.rowids_are_positive
      (sym (some_high (overlay db []) (Int (pos limit) ∷ []) rows a) ∙ ap (λ n. not (nat_eq n 0)) none);
  number = some_high (overlay db []) (Int (pos limit) ∷ []) rows a ∙ reaches_in limit (db 8) k.messages;
})
