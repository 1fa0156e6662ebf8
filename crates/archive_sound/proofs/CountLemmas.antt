-- The row of `sqlite_sequence` that counts the messages, and what becomes of the others.
use Rattle.std.proofs.Common.{◌≡◌, ◌⊎◌, Ok, ◌≤ℤ◌, ◌<ℤ◌, ◌+ℤ◌, ◌^◌, inl, inr, ℤ, pos, negsuc, List, [], ◌∷◌, ◌++◌, map, fold, find, codes, refl, sym, ap, ap₂, subst, ◌∙◌, false, true, Bool}
use Rattle.std.proofs.Common.{None, Some, Option, arith}
use Rattle.std.specs.Prelude.{if◌then◌else◌}
use Rattle.std.specs.List.{AllByRecursion}
use Rattle.std.specs.Ordering.{is_eq, is_lt, int_cmp, ordering_reverse}
use Rattle.std.specs.declared.cmp.Ordering.TheVariants.{Less, Greater}
use Rattle.std.proofs.lemmas.Bool.{cases_Bool}
use Rattle.std.proofs.lemmas.Bool.Decides.{nat_tests}
use Rattle.std.proofs.lemmas.Cmp.{tied_itself}
use Rattle.std.proofs.lemmas.Int.{ints}
use Rattle.sqlite.specs.declared.types.Value.{Value}
use Rattle.sqlite.specs.declared.types.Value.TheVariants.{Int, Text}
use Rattle.sqlite.specs.Edit.{id_in, next_rowid, at_least, edited, taken_by}
use Rattle.sqlite.specs.Ops.{fits_i64, unary}
use Rattle.sqlite_sql.specs.declared.ops.UnaryOp.TheVariants.{ToInt}
use Rattle.sqlite.specs.Rowids.TheVariants.{Above}
use Rattle.sqlite.specs.Rows.{Counts, CountsIn, counting, counter_in, count_of}
use Rattle.sqlite.proofs.Callers.{one_step}
use Rattle.sqlite_tied.specs.Compute.{everything}
use Rattle.sqlite_schema.specs.declared.schema.Keys.TheVariants.{Enforced}
use Rattle.sqlite_schema.specs.Rules.{Fits}
use Rattle.sqlite.specs.Order.{Row, column, value_cmp}
use Rattle.sqlite.specs.Tree.{Trees, IsTable, IsAscending, put_row, without_rowid, rowid}
use Rattle.sqlite_value.proofs.OrderLemmas.{value_cmp_total}
use Rattle.archive_tables.specs.Tables.{numbered_row, numbered_from_row, HoldsRecords}
use Rattle.archive_tables.specs.Schema.{archive_schema, message_table, sequence_table}
use Rattle.archive_tables.proofs.RowLemmas.{put_past}
use Rattle.archive_tables.proofs.RunLemmas.{no_action}
use Rattle.archive_sound.specs.Room.{HaveShortNumbers, HasFreeNumber, sequence_cells, sequence_from_row}
use Rattle.archive_sound.proofs.ListLemmas.{all_map, map_all, all_last, found_all}
use Rattle.archive_sound.proofs.SequenceTable.{task, count_row, whole_numbers, first_edit, again_edit}

-- the row that counts the messages
abbrev pub counts_messages : Row → Bool
counts_messages r = is_eq (value_cmp (column r 1) (Text (codes "message")))

its_own : (n top : ℤ) → counts_messages (count_row n top) ≡ true
its_own n top = ap is_eq (tied_itself value_cmp_total (Text (codes "message")))

-- rows that count up to this
pub record IsCountedTo (top : ℤ) (rows : List Row) : Type 0 where
  pub holds : HoldsRecords sequence_cells sequence_from_row rows
  pub numbers : HaveShortNumbers rows
  pub row : Row
  pub found : find counts_messages rows ≡ Some row
  pub says : column row 2 ≡ Int top

-- ---- the first count

find_last : (rows : List Row) (new : Row) → find counts_messages rows ≡ None → counts_messages new ≡ true → find counts_messages (rows ++ new ∷ []) ≡ Some new
find_last [] new none here = rw here refl
find_last (x ∷ rows) new none here = elim (cases_Bool (counts_messages x)) [
  | inl there ↦ absurd (let bad = rw there at none in cc)
  | inr other ↦ rw other (find_last rows new (rw other at none) here)
]

pub first_count : (rows : List Row) (top : ℤ) → HoldsRecords sequence_cells sequence_from_row rows → HaveShortNumbers rows → HasFreeNumber rows → find counts_messages rows ≡ None
    → IsCountedTo top (put_row (count_row (next_rowid rows) top) rows)
first_count rows top holds numbers number none =
    let n = next_rowid rows in
    let put = put_past sequence_cells sequence_from_row (λ m r. refl) rows (record { number = n; content = Text (codes "message") ∷ Int top ∷ [] }) (inl refl) holds in
    record {
      holds = put.0;
      numbers = subst HaveShortNumbers (sym put.2) (all_last (λ row. fits_i64 (id_in (rowid row)) ≡ true) rows (count_row n top) numbers number);
      row = count_row n top;
      found = subst (λ l. find counts_messages l ≡ Some (count_row n top)) (sym put.2) (find_last rows (count_row n top) none (its_own n top));
      says = refl;
    }

-- ---- a later count, in the place of the one before

above : (m : ℤ) (v : Value) → value_cmp (Int m) v ≡ Less → value_cmp v (Int m) ≡ Greater
above m v less = value_cmp_total.antisymm v (Int m) ∙ ap ordering_reverse less

kept : (m : ℤ) (rows : List Row) → AllByRecursion (λ row. value_cmp (Int m) (rowid row) ≡ Less) rows → without_rowid m rows ≡ rows
kept m [] all = refl
kept m (row ∷ rows) all = rw (above m (rowid row) all.0) (ap (λ l. row ∷ l) (kept m rows all.1))

put_first : (m top : ℤ) (rows : List Row) → AllByRecursion (λ row. value_cmp (Int m) (rowid row) ≡ Less) rows → put_row (count_row m top) rows ≡ count_row m top ∷ rows
put_first m top [] all = refl
put_first m top (row ∷ rows) all = rw (above m (rowid row) all.0) refl

module _ (row : Row) (m top : ℤ) (whole : rowid row ≡ Int m) where
  abbrev replaced : List Row → List Row
  replaced rows = put_row (count_row m top) (without_rowid m rows)

  in_place : (rows : List Row) → IsTable rows → find counts_messages rows ≡ Some row → (map rowid (replaced rows) ≡ map rowid rows) × (find counts_messages (replaced rows) ≡ Some (count_row m top))
  in_place [] up is = absurd cc
  in_place (x ∷ rows) up is = elim (cases_Bool (counts_messages x)) [
    | inl here ↦
        let first = rw here at is in
        let same : x ≡ row = cc in
        let number : rowid x ≡ Int m = ap rowid same ∙ whole in
        let later = subst (λ v. AllByRecursion (λ s. value_cmp v (rowid s) ≡ Less) rows) number up.0 in
        let now : replaced (x ∷ rows) ≡ count_row m top ∷ rows = gone x rows number ∙ ap (put_row (count_row m top)) (kept m rows later) ∙ put_first m top rows later in
        (ap (map rowid) now ∙ ap (λ v. v ∷ map rowid rows) (sym number), subst (λ l. find counts_messages l ≡ Some (count_row m top)) (sym now) (rw (its_own m top) refl))
    | inr other ↦
        let later = in_place rows up.1 (rw other at is) in
        let less : value_cmp (rowid x) (Int m) ≡ Less = subst (λ v. value_cmp (rowid x) v ≡ Less) whole
        (found_all counts_messages (λ s. value_cmp (rowid x) (rowid s) ≡ Less) rows row up.0 (rw other at is)) in
        let now : replaced (x ∷ rows) ≡ x ∷ replaced rows = stays x rows less in
        (ap (map rowid) now ∙ ap (λ l. rowid x ∷ l) later.0, subst (λ l. find counts_messages l ≡ Some (count_row m top)) (sym now) (rw other later.1))
  ]
    where
      gone : (x : Row) (rows : List Row) → rowid x ≡ Int m → replaced (x ∷ rows) ≡ put_row (count_row m top) (without_rowid m rows)
      gone x rows number = rw (ap (λ v. value_cmp v (Int m)) number ∙ tied_itself value_cmp_total (Int m)) refl

      stays : (x : Row) (rows : List Row) → value_cmp (rowid x) (Int m) ≡ Less → replaced (x ∷ rows) ≡ x ∷ replaced rows
      stays x rows less = rw less (rw less refl)

-- ---- what the numbers of rows say

rising_ids : (rows : List Row) → IsTable rows → IsAscending (λ v w. value_cmp v w ≡ Less) (map rowid rows)
rising_ids [] up = tt
rising_ids (row ∷ rows) up = (map_all rowid (λ v. value_cmp (rowid row) v ≡ Less) rows up.0, rising_ids rows up.1)

rising_rows : (rows : List Row) → IsAscending (λ v w. value_cmp v w ≡ Less) (map rowid rows) → IsTable rows
rising_rows [] up = tt
rising_rows (row ∷ rows) up = (all_map rowid (λ v. value_cmp (rowid row) v ≡ Less) rows up.0, rising_rows rows up.1)

read_back : (rows : List Row) → AllByRecursion (λ (r : Row). rowid r ≡ Int (id_in (rowid r))) rows → rows ≡ map (numbered_row sequence_cells) (map (numbered_from_row sequence_from_row) rows)
read_back [] whole = refl
read_back ([] ∷ rows) whole = absurd (let bad = whole.0 in cc)
read_back ((v ∷ vs) ∷ rows) whole = ap₂ (λ (w : Value) (l : List Row). (w ∷ vs) ∷ l) whole.0 (read_back rows whole.1)

pub later_count : (rows : List Row) (row : Row) (top : ℤ) → HoldsRecords sequence_cells sequence_from_row rows → HaveShortNumbers rows → find counts_messages rows ≡ Some row
    → rowid row ≡ Int (id_in (rowid row)) → IsCountedTo top (put_row (count_row (id_in (rowid row)) top) (without_rowid (id_in (rowid row)) rows))
later_count rows row top holds numbers found whole =
    let m = id_in (rowid row) in
    let new = put_row (count_row m top) (without_rowid m rows) in
    let it = in_place row m top whole rows holds.is_table found in
    let same = sym it.0 in
    record {
      holds = record {
        rows_read_back = read_back new (all_map rowid (λ v. v ≡ Int (id_in v)) new (subst (AllByRecursion (λ v. v ≡ Int (id_in v))) same
            (map_all rowid (λ v. v ≡ Int (id_in v)) rows (whole_numbers rows holds))));
        is_table = rising_rows new (subst (IsAscending (λ v w. value_cmp v w ≡ Less)) same (rising_ids rows holds.is_table));
      };
      numbers = all_map rowid (λ v. fits_i64 (id_in v) ≡ true) new (subst (AllByRecursion (λ v. fits_i64 (id_in v) ≡ true)) same (map_all rowid (λ v. fits_i64 (id_in v) ≡ true) rows numbers));
      row = count_row m top;
      found = it.1;
      says = refl;
    }

-- ---- numbers

pub in_64_bits : (z : ℤ) → pos 0 ≤ℤ z → z <ℤ pos (2 ^ 63) → fits_i64 z ≡ true
in_64_bits (pos n) low high = grind (arith, ints, nat_tests)
in_64_bits (negsuc n) low high = absurd (omega (arith, ints, low))

pub next_behind : (first : ℤ) (rows : List Row) (new : Row) → fold (λ _ r. id_in (rowid r) +ℤ pos 1) first (rows ++ new ∷ []) ≡ id_in (rowid new) +ℤ pos 1
next_behind first [] new = refl
next_behind first (row ∷ rows) new = next_behind (id_in (rowid row) +ℤ pos 1) rows new

abbrev in_turn : (top id : ℤ) → Bool → ℤ
in_turn top id b = if b then id else top +ℤ pos 1

-- the number of a new message is above the count
pub past : (top id : ℤ) → is_lt (int_cmp top (at_least (Above top) id)) ≡ true
past top id = by_test (is_lt (int_cmp top id)) refl
  where
    after : (a : ℤ) → is_lt (int_cmp a (a +ℤ pos 1)) ≡ true
    after a = grind (arith, ints, nat_tests)

    by_test : (b : Bool) → is_lt (int_cmp top id) ≡ b → is_lt (int_cmp top (in_turn top id b)) ≡ true
    by_test true h = h
    by_test false h = after top

pub chosen : (top id : ℤ) → (at_least (Above top) id ≡ id) ⊎ (at_least (Above top) id ≡ top +ℤ pos 1)
chosen top id = by_test (is_lt (int_cmp top id))
  where
    by_test : (b : Bool) → (in_turn top id b ≡ id) ⊎ (in_turn top id b ≡ top +ℤ pos 1)
    by_test true = inl refl
    by_test false = inr refl

pub count_says : (row : Row) (n : ℤ) → column row 2 ≡ Int n → count_of (Some row) ≡ n
unfolding unary
count_says row n says = ap (λ v. id_in (unary ToInt v)) says

-- a count that is raised
pub counts_to : (params : Row) (mid next : Trees) (counter : Option Row) (top : ℤ) → is_lt (int_cmp (count_of counter) top) ≡ true → counter ≡ counter_in mid message_table sequence_table
    → HoldsRecords sequence_cells sequence_from_row (mid 10) → HaveShortNumbers (mid 10) → (counter_in mid message_table sequence_table ≡ None → HasFreeNumber (mid 10))
    → Counts (task params) mid counter top (Ok next) → IsCountedTo top (next 10) × Fits archive_schema next
unfolding everything
counts_to params mid next counter top more sought holds numbers number h = of_edit counter sought (rw more at h)
  where
    of_edit : (c : Option Row) → c ≡ counter_in mid message_table sequence_table → CountsIn (task params) mid c top (Some sequence_table) (Ok next)
        → IsCountedTo top (next 10) × Fits archive_schema next
    of_edit None sought h =
        let edit = counting mid message_table sequence_table top None in
        let applied = one_step archive_schema Enforced mid next edit (no_action 10 (taken_by mid edit) edit.news) h in
        (subst (IsCountedTo top) (sym (applied.rows ∙ ap (edited mid) (first_edit mid top))) (first_count (mid 10) top holds numbers (number (sym sought)) (sym sought)), applied.fits)
    of_edit (Some row) sought h =
        let edit = counting mid message_table sequence_table top (Some row) in
        let applied = one_step archive_schema Enforced mid next edit (no_action 10 (taken_by mid edit) edit.news) h in
        let whole = found_all counts_messages (λ (r : Row). rowid r ≡ Int (id_in (rowid r))) (mid 10) row (whole_numbers (mid 10) holds) (sym sought) in
        (subst (IsCountedTo top) (sym (applied.rows ∙ ap (edited mid) (again_edit mid top row whole))) (later_count (mid 10) row top holds numbers (sym sought) whole), applied.fits)
