-- What a table of records is, once SQL has carried out a statement on it.
use Rattle.std.proofs.Common.{◌≡◌, ◌≢◌, ◌⊎◌, ◌<◌, ◌^◌, inl, inr, suc, ℕ, ℤ, List, [], ◌∷◌, ◌++◌, map, filter, length, Ok, refl, sym, ap, subst, ◌∙◌, Bool, true, None, Option}
use Rattle.std.specs.Prelude.{not, ◌/◌, if◌then◌else◌}
use Rattle.std.specs.List.{AllByRecursion}
use Rattle.sqlite.specs.declared.types.Value.{Value}
use Rattle.sqlite.specs.declared.types.Value.TheVariants.{Null, Int}
use Rattle.sqlite.specs.Does.{Tally, Concludes}
use Rattle.sqlite.specs.Edit.{Edit, edit_of, edited, taken_by, id_in, next_rowid}
use Rattle.sqlite.specs.Effect.{Database, value_rows}
use Rattle.sqlite.specs.Order.{Row}
use Rattle.sqlite.specs.Program.{overlay}
use Rattle.sqlite.specs.Query.{Query, output}
use Rattle.sqlite.specs.Rowids.TheVariants.{Given, Chosen}
use Rattle.sqlite.specs.Rows.{Part, Then, Gives, Task, Written, Queried, Sourced, Edited, Updates, Deletes, stamped, last_id}
use Rattle.sqlite.specs.Source.TheVariants.{Values}
use Rattle.sqlite.specs.Table.{Table}
use Rattle.sqlite.specs.Term.{Term}
use Rattle.sqlite.specs.Tree.{Trees, put_row, without_rowid, rowid}
use Rattle.sqlite.proofs.Callers.{one_step}
use Rattle.sqlite_rules.specs.Calls.{ids_of}
use Rattle.sqlite_schema.specs.declared.schema.Among.TheVariants.{All}
use Rattle.sqlite_schema.specs.declared.schema.Keys.TheVariants.{Enforced}
use Rattle.sqlite_schema.specs.Rules.{Fits, Refers}
use Rattle.sqlite_trees.proofs.TreeLemmas.{all-put_row}
use Rattle.archive_model.specs.Records.{Archive}
use Rattle.archive_tables.specs.Schema.{archive_schema}
use Rattle.archive_tables.specs.Tables.{AreArchiveTables, archive_in_trees, NumberedRecord, numbered_row, numbered_from_row, HoldsRecords, HaveDistinctKeys}
use Rattle.archive_tables.proofs.CreateLemmas.{over, at_once}
use Rattle.archive_tables.proofs.ChangeLemmas.{updated, deleted, one_hit}
use Rattle.archive_tables.proofs.RowLemmas.{records_are, put_past}
use Rattle.archive_tables.proofs.RunLemmas.{passed, value_is, no_action}
use Rattle.archive_tables.proofs.SelectLemmas.{plain_query, env_of, passes as passes_tests, picks_of, Picks, hits, no_row, one_row}
use Rattle.archive_tables.proofs.TableLemmas.{same_but}
use Rattle.archive_sound.specs.ManyCommands.{HasNumbersAbove, LeaveNumbers}
use Rattle.archive_sound.proofs.ListLemmas.{all_map, one_filtered, all_filter}
use Rattle.archive_sound.proofs.NumberLemmas.{Leaves, fewer_numbers, next_above, sound_after}

-- ---- a statement that is carried out

abbrev pub task_on : Table → Row → Task
task_on table params = record { limit = None; keys = Enforced; schema = archive_schema; table = table; params = params }

-- it wrote what its parts made, and each row names rows that are there
pub concluded : (table : Table) (params : Row) (Makes : Part Written) (tally : Tally) (next : Database) → Then Makes (Concludes (task_on table params) at_once None) (Ok (tally, next))
    → (w : Written) × Makes (Ok w) × (next ≡ over archive_schema w.trees) × Refers All archive_schema w.trees
concluded table params Makes tally next h =
    let made = passed h in
    let tested = passed made.2 in
    let shown = passed tested.2 in
    (made.0, made.1, ap (λ (p : Tally × Database). p.1) (value_is shown.2), tested.1.0)

-- ---- a table of records

module _ {R : Type 0} (table : Table) (cells : R → Row) (read : Row → R) (db : Trees) where
  -- The table has these records, each under the number that it had or under one of these, and no other table has changed.
  pub record Holds (next : Trees) (records : List R) (news : List ℤ) : Type 1 where
    pub holds : HoldsRecords cells read (next table.tree)
    pub records_are : map read (next table.tree) ≡ records
    pub others : AllByRecursion (λ (t : Table). t.tree ≢ table.tree → next t.tree ≡ db t.tree) archive_schema.tables
    pub fits : Fits archive_schema next
    pub numbers : (P : Value → Type 0) → AllByRecursion (λ n. P (Int n)) news → AllByRecursion (λ row. P (rowid row)) (db table.tree) → AllByRecursion (λ row. P (rowid row)) (next table.tree)

  -- as many numbers are left, but for one
  pub kept_numbers : (next : Trees) (records : List R) → Holds next records [] → (more : ℕ) → suc more < 2 ^ 63 → LeaveNumbers (suc more) (db table.tree) → LeaveNumbers more (next table.tree)
  kept_numbers next records it more few before = fewer_numbers more (next table.tree) (it.numbers (λ v. HasNumbersAbove (suc more) (id_in v)) tt before)

  pub added_numbers : (next : Trees) (records : List R) → Holds next records (next_rowid (db table.tree) ∷ []) → (more : ℕ) → suc more < 2 ^ 63 → LeaveNumbers (suc more) (db table.tree)
      → LeaveNumbers more (next table.tree)
  added_numbers next records it more few before =
      it.numbers (λ v. HasNumbersAbove more (id_in v)) (next_above more (db table.tree) few before, tt) (fewer_numbers more (db table.tree) before)

  -- by what an edit of the table makes of its rows
  of_edit : (edit : Edit) → edit.table ≡ table → (records : List R) (news : List ℤ) → HoldsRecords cells read (edited db edit) → map read (edited db edit) ≡ records
      → ((P : Value → Type 0) → AllByRecursion (λ n. P (Int n)) news → AllByRecursion (λ row. P (rowid row)) (db table.tree) → AllByRecursion (λ row. P (rowid row)) (edited db edit))
      → (next : Trees) → Edited archive_schema Enforced db edit (Ok next) → Holds next records news
  of_edit edit is records news held are numbers next written =
      let applied = one_step archive_schema Enforced db next edit (no_action edit.table.tree (taken_by db edit) edit.news) written in
      let rows = subst (λ (t : Table). next t.tree ≡ edited db edit) is applied.rows in
      record {
        holds = subst (HoldsRecords cells read) (sym rows) held;
        records_are = ap (map read) rows ∙ are;
        others = subst (λ (s : Table). AllByRecursion (λ (t : Table). t.tree ≢ s.tree → next t.tree ≡ db t.tree) archive_schema.tables) is applied.tables;
        fits = applied.fits;
        numbers = λ P new before. subst (AllByRecursion (λ row. P (rowid row))) (sym rows) (numbers P new before);
      }

  -- so it is a sound archive, by what its tables are then
  pub leaves_of : 10 ≢ table.tree → (after : Trees) (records : List R) (news : List ℤ) → Holds after records news → Refers All archive_schema after
      → ((more : ℕ) → suc more < 2 ^ 63 → LeaveNumbers (suc more) (db table.tree) → LeaveNumbers more (after table.tree))
      → (archive : Archive) → AreArchiveTables after × (archive_in_trees after ≡ archive) → Leaves table.tree archive db (over archive_schema after)
  leaves_of apart after records news it refers numbers archive tables = record {
    sound = sound_after after tables.0 it.fits refers;
    archive_is = tables.1;
    same = same_but table.tree db after it.others;
    sequence = it.others.1.1.1.1.1.0 apart;
    numbers = numbers;
  }

module _ {R : Type 0} (table : Table) (cells : R → Row) (read : Row → R) (same : R → R → Bool) (back : (n : ℤ) (r : R) → read (Int n ∷ cells r) ≡ r)
    (low : (trees : Trees) → overlay trees [] table.tree ≡ trees table.tree) (db : Trees) (holds : HoldsRecords cells read (db table.tree))
    (distinct : HaveDistinctKeys same (map read (db table.tree))) where
  abbrev all : List (NumberedRecord R)
  all = map (numbered_from_row read) (db table.tree)

  -- ---- a query for the rows of one key

  module _ (terms shown : List Term) (params : Row) (wanted : R → Bool) (tests : (n : ℤ) (r : R) → passes_tests terms params (Int n ∷ cells r) ≡ wanted r)
      (alike : (a b : R) → wanted a ≡ true → same a b ≡ wanted b) where
    abbrev query : Query
    query = plain_query table.tree terms shown []

    abbrev hit : NumberedRecord R → Bool
    hit r = wanted r.content

    abbrev shown_of : NumberedRecord R → Row
    shown_of r = (output query (env_of params (numbered_row cells r))).1

    picks_from : (rows : List Row) → Queried None (over archive_schema db) (record { lets = []; body = query }) params (Ok rows) → Picks query params (db table.tree) rows
    picks_from rows h = subst (λ l. Picks query params l rows) (low db) (picks_of table.tree terms shown [] (overlay db []) params rows (h.answer Null))

    one_or_none : (filter hit all ≡ []) ⊎ ((r : NumberedRecord R) × (filter hit all ≡ r ∷ []))
    one_or_none = one_hit cells read back wanted same alike all (subst (HaveDistinctKeys same) (records_are cells read back (db table.tree) holds) distinct)

    of_hit : (P : Row → Type 0) → AllByRecursion P (db table.tree) → (r : NumberedRecord R) → filter hit all ≡ r ∷ [] → P (numbered_row cells r)
    of_hit P each r one =
        one_filtered hit (λ (s : NumberedRecord R). P (numbered_row cells s)) all r (all_map (numbered_row cells) P all (subst (AllByRecursion P) holds.rows_read_back each)) one

    module _ (given : List Row) (picks : Picks query params (db table.tree) given) where
      gives_one : (r : NumberedRecord R) → filter hit all ≡ r ∷ [] → given ≡ shown_of r ∷ []
      gives_one r one =
          one_row query params (db table.tree) given (numbered_row cells r) picks ((hits cells read back query params wanted tests (db table.tree) holds).0 ∙ ap (map (numbered_row cells)) one)

      gives_none : filter hit all ≡ [] → given ≡ []
      gives_none none = no_row query params (db table.tree) given picks ((hits cells read back query params wanted tests (db table.tree) holds).0 ∙ ap (map (numbered_row cells)) none)

    -- ---- UPDATE

    module _ (set : R → R)
        (edits : (r : NumberedRecord R) (given : List Row) → given ≡ shown_of r ∷ []
        → edit_of db table (ids_of given) Given 1 given ≡ record { table = table; gone = r.number ∷ []; news = numbered_row cells (record r { content = set r.content }) ∷ [] }) where
      abbrev change : R → R
      change r = if wanted r then set r else r

      module _ (given : List Row) (picks : Picks query params (db table.tree) given) where
        abbrev edit : Edit
        edit = edit_of db table (ids_of given) Given 1 given

        one_given : (r : NumberedRecord R) → filter hit all ≡ r ∷ []
            → edit ≡ record { table = table; gone = r.number ∷ []; news = numbered_row cells (record r { content = set r.content }) ∷ [] }
        one_given r one = edits r given (gives_one given picks r one)

        none_given : filter hit all ≡ [] → edit ≡ record { table = table; gone = []; news = [] }
        none_given none = ap (λ l. edit_of db table (ids_of l) Given 1 l) (gives_none given picks none)

        leaves : HoldsRecords cells read (edited db edit) × (map read (edited db edit) ≡ map change (map read (db table.tree)))
        leaves =
            let made = updated cells read back wanted set same alike (db table.tree) (edited db edit) holds distinct (λ r one. ap (edited db) (one_given r one))
            (λ none. ap (edited db) (none_given none)) in
            (made.0, made.1)

        same_numbers : (P : Value → Type 0) → AllByRecursion (λ row. P (rowid row)) (db table.tree) → AllByRecursion (λ row. P (rowid row)) (edited db edit)
        same_numbers P before = elim one_or_none [
          | inl none ↦ subst (λ (e : Edit). AllByRecursion (λ row. P (rowid row)) (edited db e)) (sym (none_given none)) before
          | inr found ↦
              let r = found.0 in
              subst (λ (e : Edit). AllByRecursion (λ row. P (rowid row)) (edited db e)) (sym (one_given r found.1))
              (all-put_row (λ row. P (rowid row)) (numbered_row cells (record r { content = set r.content })) (without_rowid r.number (db table.tree))
              (of_hit (λ row. P (rowid row)) before r found.1) (all_filter _ (λ row. P (rowid row)) (db table.tree) before))
        ]

      abbrev changed_records : List R
      changed_records = map change (map read (db table.tree))

      pub updates_hold : (w : Written) → Updates (task_on table params) (record { lets = []; body = query }) params db (Ok w) → Holds table cells read db w.trees changed_records []
      updates_hold w h =
          let queried = passed h in
          let picks = picks_from queried.0 queried.1 in
          let written = passed queried.2 in
          let same_trees : w.trees ≡ written.0 = ap (λ (x : Written). x.trees) (value_is written.2) in
          let it = leaves queried.0 picks in
          subst (λ (t : Trees). Holds table cells read db t changed_records []) (sym same_trees)
          (of_edit table cells read db (edit queried.0 picks) refl changed_records [] it.0 it.1 (λ P new before. same_numbers queried.0 picks P before) written.0 written.1)

    -- ---- DELETE

    module _ (gone : (r : NumberedRecord R) (given : List Row) → given ≡ shown_of r ∷ []
        → edit_of db table (ids_of given) Given 0 [] ≡ record { table = table; gone = r.number ∷ []; news = [] }) where
      module _ (given : List Row) (picks : Picks query params (db table.tree) given) where
        abbrev removal : Edit
        removal = edit_of db table (ids_of given) Given 0 []

        one_gone : (r : NumberedRecord R) → filter hit all ≡ r ∷ [] → removal ≡ record { table = table; gone = r.number ∷ []; news = [] }
        one_gone r one = gone r given (gives_one given picks r one)

        none_gone : filter hit all ≡ [] → removal ≡ record { table = table; gone = []; news = [] }
        none_gone none = ap (λ l. edit_of db table (ids_of l) Given 0 []) (gives_none given picks none)

        remains : HoldsRecords cells read (edited db removal) × (map read (edited db removal) ≡ filter (λ r. not (wanted r)) (map read (db table.tree)))
        remains = deleted cells read back wanted same alike (db table.tree) (edited db removal) holds distinct (λ r one. ap (edited db) (one_gone r one)) (λ none. ap (edited db) (none_gone none))

        numbers_left : (P : Value → Type 0) → AllByRecursion (λ row. P (rowid row)) (db table.tree) → AllByRecursion (λ row. P (rowid row)) (edited db removal)
        numbers_left P before = elim one_or_none [
          | inl none ↦ subst (λ (e : Edit). AllByRecursion (λ row. P (rowid row)) (edited db e)) (sym (none_gone none)) before
          | inr found ↦ subst (λ (e : Edit). AllByRecursion (λ row. P (rowid row)) (edited db e)) (sym (one_gone found.0 found.1)) (all_filter _ (λ row. P (rowid row)) (db table.tree) before)
        ]

      abbrev remaining : List R
      remaining = filter (λ r. not (wanted r)) (map read (db table.tree))

      pub deletes_hold : (w : Written) → Deletes (task_on table params) (record { lets = []; body = query }) db (Ok w)
          → Holds table cells read db w.trees remaining []
      deletes_hold w h =
          let queried = passed h in
          let picks = picks_from queried.0 queried.1 in
          let written = passed queried.2 in
          let same_trees : w.trees ≡ written.0 = ap (λ (x : Written). x.trees) (value_is written.2) in
          let it = remains queried.0 picks in
          subst (λ (t : Trees). Holds table cells read db t remaining []) (sym same_trees)
          (of_edit table cells read db (removal queried.0 picks) refl remaining [] it.0 it.1 (λ P new before. numbers_left queried.0 picks P before) written.0 written.1)

module _ {R : Type 0} (table : Table) (cells : R → Row) (read : Row → R) (back : (n : ℤ) (r : R) → read (Int n ∷ cells r) ≡ r) (db : Trees)
    (holds : HoldsRecords cells read (db table.tree)) where
  -- ---- INSERT, into a table that counts no numbers

  module _ (r : R) (params : Row) (terms : List Term) (width : ℕ)
      (edits : (given : List Row) → given ≡ value_rows (stamped table params) width (length terms / width) terms
      → edit_of db table [] Chosen 0 given ≡ record { table = table; gone = []; news = (Int (next_rowid (db table.tree)) ∷ cells r) ∷ [] }) where
    abbrev n : ℤ
    n = next_rowid (db table.tree)

    put : HoldsRecords cells read (put_row (Int n ∷ cells r) (db table.tree)) × (map read (put_row (Int n ∷ cells r) (db table.tree)) ≡ map read (db table.tree) ++ r ∷ [])
        × (put_row (Int n ∷ cells r) (db table.tree) ≡ db table.tree ++ (Int n ∷ cells r) ∷ [])
    put = put_past cells read back (db table.tree) (record { number = n; content = r }) (inl refl) holds

    new_number : (P : Value → Type 0) → P (Int n) → AllByRecursion (λ row. P (rowid row)) (db table.tree) → AllByRecursion (λ row. P (rowid row)) (put_row (Int n ∷ cells r) (db table.tree))
    new_number P new before = all-put_row (λ row. P (rowid row)) (Int n ∷ cells r) (db table.tree) new before

    abbrev edit_for : List Row → Edit
    edit_for rows = edit_of db table [] Chosen 0 rows

    abbrev pub InsertsPlainly : Part Written
    InsertsPlainly = Then (Sourced None (over archive_schema db) (stamped table params) (Values terms width)) (λ rows. Then (Gives {A = Option Row} None) (λ counter.
        Then (Edited archive_schema Enforced db (edit_for rows))
        (λ mid. Then (Gives mid) (λ next. Gives (record { trees = next; rows = (edit_for rows).news; last = last_id (edit_for rows).news })))))

    pub inserts_hold : (w : Written) → InsertsPlainly (Ok w) → Holds table cells read db w.trees (map read (db table.tree) ++ r ∷ []) (n ∷ [])
    inserts_hold w h =
        let given = passed h in
        let mid = passed (passed given.2).2 in
        let next = passed mid.2 in
        let same_trees : w.trees ≡ mid.0 = ap (λ (x : Written). x.trees) (value_is next.2) ∙ value_is next.1 in
        let is = edits given.0 given.1.1 in
        subst (λ (t : Trees). Holds table cells read db t (map read (db table.tree) ++ r ∷ []) (n ∷ [])) (sym same_trees)
        (of_edit table cells read db (edit_for given.0) refl (map read (db table.tree) ++ r ∷ []) (n ∷ [])
        (subst (λ (e : Edit). HoldsRecords cells read (edited db e)) (sym is) put.0) (subst (λ (e : Edit). map read (edited db e) ≡ map read (db table.tree) ++ r ∷ []) (sym is) put.1)
        (λ P new before. subst (λ (e : Edit). AllByRecursion (λ row. P (rowid row)) (edited db e)) (sym is) (new_number P new.0 before)) mid.0 mid.1)
