-- The table `sqlite_sequence`: SQL does not refuse to count a number that a message was given.
use Rattle.std.proofs.Common.{◌≡◌, inl, inr, ℤ, List, [], ◌∷◌, map, length, codes, Ok, Err, refl, sym, ap, subst, ◌∙◌, false, true, Bool, None, Some, Option, arith}
use Rattle.std.specs.Prelude.{◌&&◌, not, nat_lt}
use Rattle.std.specs.List.{AllByRecursion, list_any}
use Rattle.std.specs.Ordering.{is_eq, is_lt, int_cmp}
use Rattle.std.proofs.lemmas.Bool.{cases_Bool}
use Rattle.sqlite.specs.declared.error.Error.{Error}
use Rattle.sqlite.specs.declared.types.Value.{Value}
use Rattle.sqlite.specs.declared.types.Value.TheVariants.{Int, Text}
use Rattle.sqlite.specs.Cast.{cast}
use Rattle.sqlite.specs.Kind.TheVariants.{Integer}
use Rattle.sqlite.specs.Edit.{Edit, edit_of, taken_by, id_in, IsOversized, is_referred, next_rowid, without_all}
use Rattle.sqlite.specs.Ops.{fits_i64}
use Rattle.sqlite.specs.Order.{Row, value_cmp}
use Rattle.sqlite.specs.Rowids.TheVariants.{Given}
use Rattle.sqlite.specs.Rows.{Task, Edited, Counter, Counts, CountsIn, counting, counter_in, count_of}
use Rattle.sqlite.specs.Table.{Table}
use Rattle.sqlite.specs.Tree.{Trees, IsTable, put_row, with_tree, rowid}
use Rattle.sqlite.proofs.Callers.{one_step}
use Rattle.sqlite_tied.specs.Compute.{everything}
use Rattle.sqlite_rules.proofs.ListLemmas.{all_has}
use Rattle.sqlite_schema.specs.declared.schema.Constraint.TheVariants.{Unique}
use Rattle.sqlite_schema.specs.declared.schema.Index.{Index}
use Rattle.sqlite_schema.specs.declared.schema.Keys.TheVariants.{Enforced}
use Rattle.sqlite_schema.specs.Rules.{references_fit, Keeps, table_reals, index_reals}
use Rattle.sqlite_sql.specs.Catalog.{entry_of}
use Rattle.sqlite_trees.specs.View.{IsStorable, IsStorableRow}
use Rattle.archive_tables.specs.Schema.{archive_schema, message_table, sequence_table}
use Rattle.archive_tables.specs.Tables.{NumberedRecord, numbered_row, numbered_from_row, HoldsRecords}
use Rattle.archive_tables.proofs.RowLemmas.{put_past}
use Rattle.archive_tables.proofs.RunLemmas.{value_is, no_action, cast_null, cast_int}
use Rattle.archive_tables.proofs.TableLemmas.{SameBut, same_but}
use Rattle.archive_sound.specs.Room.{HasFreeNumber, HaveShortNumbers, sequence_cells, sequence_from_row}
use Rattle.archive_sound.proofs.EditLemmas.{IsAccepted, never_edits}
use Rattle.archive_sound.proofs.ListLemmas.{found_all, map_all, each}
use Rattle.archive_sound.proofs.RecordLemmas.{none_taken, not_taken}
use Rattle.archive_sound.proofs.ValueLemmas.{integer, storable}

-- ---- a row of it

abbrev pub count_row : ℤ → ℤ → Row
count_row n top = Int n ∷ Text (codes "message") ∷ Int top ∷ []

module _ (n top : ℤ) where
  row_stored : IsStorableRow (table_reals sequence_table) (count_row n top)
  unfolding lib.Ieee.is_nan
  row_stored = (storable _ _ refl (omega arith) (omega arith) (integer n, (tt, (integer top, tt))) (omega arith), omega arith)

  abbrev IsKeyed : Index → Type 0
  IsKeyed i = i.table ≡ 10 → IsStorable (index_reals (table_reals sequence_table) i.columns) (entry_of i.columns (count_row n top))

  keys_stored : AllByRecursion IsKeyed archive_schema.indexes
  keys_stored = (
    λ e. absurd (omega (arith, e)),
    (
      λ e. absurd (omega (arith, e)),
      (
        λ e. absurd (omega (arith, e)),
        (
          λ e. absurd (omega (arith, e)),
          (
            λ e. absurd (omega (arith, e)),
            (λ e. absurd (omega (arith, e)), (λ e. absurd (omega (arith, e)), (λ e. absurd (omega (arith, e)), (λ e. absurd (omega (arith, e)), tt)))),
          ),
        ),
      ),
    ),
  )

  count_small : ¬ IsOversized archive_schema sequence_table (count_row n top)
  count_small (inl big) = big row_stored
  count_small (inr it) = it.3 (all_has IsKeyed archive_schema.indexes it.0 keys_stored it.1 it.2)

fit : (gone : List ℤ) (news : List Row) → is_referred archive_schema Enforced (record { table = sequence_table; gone = gone; news = news }) ≡ true
unfolding everything
fit gone news = each_case (nat_lt 0 (length news)) (nat_lt 0 (length gone))
  where
    each_case : (adds removes : Bool) → references_fit archive_schema sequence_table adds removes ≡ true
    each_case true true = refl
    each_case true false = refl
    each_case false true = refl
    each_case false false = refl

counts_unique : (db : Trees) (rows : List Row) → Keeps Unique archive_schema db → Keeps Unique archive_schema (with_tree db 10 rows)
counts_unique db rows u = (u.0, (u.1.0, (u.1.1.0, (u.1.1.1.0, (u.1.1.1.1.0, (each (λ row. true ≡ true) (λ row. refl) rows, u.1.1.1.1.1.1))))))

accepts : (db : Trees) (gone : List ℤ) (n top : ℤ) → Keeps Unique archive_schema db → fits_i64 n ≡ true → list_any (λ row. is_eq (value_cmp (rowid row) (Int n))) (without_all (db 10) gone) ≡ false
    → IsAccepted db (record { table = sequence_table; gone = gone; news = count_row n top ∷ [] })
accepts db gone n top u fits free = record {
  typed = refl;
  present = refl;
  checked = refl;
  fresh = ap (λ b. not b && true) free;
  unique = counts_unique db (put_row (count_row n top) (without_all (db 10) gone)) u;
  keyed = refl;
  numbers = ap (λ b. b && true) fits;
  referred = fit gone (count_row n top ∷ []);
  small = λ row has. elim has [ inl same ↦ λ big. count_small n top (subst (IsOversized archive_schema sequence_table) same big) | inr none ↦ absurd none ];
}

-- ---- what an edit of the count is

pub first_edit : (db : Trees) (top : ℤ) → counting db message_table sequence_table top None ≡ record { table = sequence_table; gone = []; news = count_row (next_rowid (db 10)) top ∷ [] }
first_edit db top = rw cast_null

pub again_edit : (db : Trees) (top : ℤ) (row : Row) → rowid row ≡ Int (id_in (rowid row))
    → counting db message_table sequence_table top (Some row) ≡ record { table = sequence_table; gone = id_in (rowid row) ∷ []; news = count_row (id_in (rowid row)) top ∷ [] }
again_edit db top row whole = news_at (rowid row) (id_in (rowid row)) whole
  where
    news_at : (v : Value) (n : ℤ) → v ≡ Int n → edit_of db sequence_table (id_in v ∷ []) Given 0 ((v ∷ Text (codes "message") ∷ Int top ∷ []) ∷ [])
        ≡ record { table = sequence_table; gone = id_in v ∷ []; news = count_row n top ∷ [] }
    news_at v n whole = ap (λ w. record { table = sequence_table; gone = id_in v ∷ []; news = (w ∷ Text (codes "message") ∷ Int top ∷ []) ∷ [] }) (ap (cast Integer) whole ∙ cast_int n)

-- the number of each row is an integer
pub whole_numbers : (rows : List Row) → HoldsRecords sequence_cells sequence_from_row rows → AllByRecursion (λ (r : Row). rowid r ≡ Int (id_in (rowid r))) rows
whole_numbers rows holds = subst (AllByRecursion (λ (r : Row). rowid r ≡ Int (id_in (rowid r)))) (sym holds.rows_read_back)
    (map_all (numbered_row sequence_cells) (λ (r : Row). rowid r ≡ Int (id_in (rowid r))) (map (numbered_from_row sequence_from_row) rows)
    (each (λ (r : NumberedRecord Row). Int r.number ≡ Int r.number) (λ r. refl) (map (numbered_from_row sequence_from_row) rows)))

-- ---- the count

module _ (params : Row) where
  abbrev pub task : Task
  task = record { limit = None; keys = Enforced; schema = archive_schema; table = message_table; params = params }

  pub never_sought : (db : Trees) (stop : Option Error) → ¬ Counter task db (Err stop)
  unfolding everything
  never_sought db stop h = let bad = h in cc

  pub counter_is : (db : Trees) (counter : Option Row) → Counter task db (Ok counter) → counter ≡ counter_in db message_table sequence_table
  unfolding everything
  counter_is db counter h = value_is h

  module _ (db : Trees) (u : Keeps Unique archive_schema db) (holds : HoldsRecords sequence_cells sequence_from_row (db 10)) (numbers : HaveShortNumbers (db 10))
      (number : counter_in db message_table sequence_table ≡ None → HasFreeNumber (db 10))
      (top : ℤ) where
    first_counted : counter_in db message_table sequence_table ≡ None → IsAccepted db (counting db message_table sequence_table top None)
    first_counted none =
        let n = next_rowid (db 10) in
        let put = put_past sequence_cells sequence_from_row (λ m r. refl) (db 10) (record { number = n; content = Text (codes "message") ∷ Int top ∷ [] }) (inl refl) holds in
        subst (IsAccepted db) (sym (first_edit db top)) (accepts db [] n top u (number none) (not_taken (db 10) (count_row n top) (subst IsTable put.2 put.0.is_table)))

    again_counted : (row : Row) → counter_in db message_table sequence_table ≡ Some row → IsAccepted db (counting db message_table sequence_table top (Some row))
    again_counted row found =
        let n = id_in (rowid row) in
        let whole : rowid row ≡ Int n = found_all _ (λ (r : Row). rowid r ≡ Int (id_in (rowid r))) (db 10) row (whole_numbers (db 10) holds) found in
        subst (IsAccepted db) (sym (again_edit db top row whole))
        (accepts db (n ∷ []) n top u (found_all _ (λ (r : Row). fits_i64 (id_in (rowid r)) ≡ true) (db 10) row numbers found) (none_taken n (db 10)))

    counted : (counter : Option Row) → counter ≡ counter_in db message_table sequence_table → IsAccepted db (counting db message_table sequence_table top counter)
    counted None is = first_counted (sym is)
    counted (Some row) is = again_counted row (sym is)

    pub never_counts : (counter : Option Row) → counter ≡ counter_in db message_table sequence_table → (stop : Option Error) → ¬ Counts task db counter top (Err stop)
    unfolding everything
    never_counts counter is stop h = elim (cases_Bool (is_lt (int_cmp (count_of counter) top))) [
      | inl more ↦ never_edits db (counting db message_table sequence_table top counter) (counted counter is) stop (rw more at h)
      | inr enough ↦ let bad = rw enough at h in cc
    ]

-- what it leaves
pub counts_leave : (params : Row) (mid next : Trees) (counter : Option Row) (top : ℤ) → Counts (task params) mid counter top (Ok next) → SameBut 10 mid next
unfolding everything
counts_leave params mid next counter top h = elim (cases_Bool (is_lt (int_cmp (count_of counter) top))) [
  | inl more ↦ of_edit counter (rw more at h)
  | inr enough ↦ subst (SameBut 10 mid) (value_is (sym (rw enough at h))) (record {
    version = λ _. refl;
    lists = λ _. refl;
    persons = λ _. refl;
    grants = λ _. refl;
    messages = λ _. refl;
    options = λ _. refl;
    addresses = λ _. refl;
  })
]
  where
    written : (edit : Edit) → edit.table ≡ sequence_table → Edited archive_schema Enforced mid edit (Ok next) → SameBut 10 mid next
    written edit is writes =
        let applied = one_step archive_schema Enforced mid next edit (no_action edit.table.tree (taken_by mid edit) edit.news) writes in
        subst (λ (s : Table). SameBut s.tree mid next) is (same_but edit.table.tree mid next applied.tables)

    of_edit : (c : Option Row) → CountsIn (task params) mid c top (Some sequence_table) (Ok next) → SameBut 10 mid next
    of_edit None h = written (counting mid message_table sequence_table top None) refl h
    of_edit (Some row) h = written (counting mid message_table sequence_table top (Some row)) refl h
