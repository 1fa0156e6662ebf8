-- What SQL makes of one row more, one changed and one gone, in a table of records.
use Rattle.std.proofs.Common.{◌≡◌, ◌≢◌, ◌⊎◌, inl, inr, ℕ, ℤ, ◌<ℤ◌, List, [], ◌∷◌, ◌++◌, map, filter, Ok, Err, refl, sym, ap, subst, ◌∙◌, false, true, Bool, cond, None, Some, Option}
use Rattle.std.specs.Prelude.{◌&&◌, not, length, ◌/◌, if◌then◌else◌}
use Rattle.std.specs.List.{AllByRecursion, list_any}
use Rattle.std.specs.Ordering.{is_eq}
use Rattle.sqlite.specs.declared.error.Error.{Error}
use Rattle.sqlite.specs.declared.types.Value.TheVariants.{Null, Int}
use Rattle.sqlite.specs.Order.{Row, value_cmp}
use Rattle.sqlite.specs.Term.{Term}
use Rattle.sqlite.specs.Query.{Query, output}
use Rattle.sqlite.specs.Edit.{Edit, edit_of, edited, taken_by, id_in, IsOversized, is_referred, next_rowid, without_all}
use Rattle.sqlite.specs.Ops.{fits_i64}
use Rattle.sqlite.specs.Rowids.TheVariants.{Given, Chosen}
use Rattle.sqlite.specs.Does.{Concludes}
use Rattle.sqlite.specs.Effect.{value_rows}
use Rattle.sqlite.specs.Rows.{Part, Then, Gives, Task, Written, Queried, Sourced, Edited, Updates, Deletes, stamped, last_id}
use Rattle.sqlite.specs.Source.TheVariants.{Values}
use Rattle.sqlite.specs.Program.{overlay}
use Rattle.sqlite.specs.Table.{Table}
use Rattle.sqlite.specs.Tree.{Trees, IsTable, put_row, with_tree, rowid}
use Rattle.sqlite.proofs.Callers.{one_step}
use Rattle.sqlite_typing.specs.Types.{accepts_program, accepts_terms}
use Rattle.sqlite_rules.specs.Calls.{ids_of}
use Rattle.sqlite_schema.specs.declared.schema.Among.TheVariants.{All}
use Rattle.sqlite_schema.specs.declared.schema.Constraint.TheVariants.{Datatype, NotNull, Check, Unique, ForeignKey}
use Rattle.sqlite_schema.specs.declared.schema.Keys.TheVariants.{Enforced}
use Rattle.sqlite_schema.specs.Rules.{Obeys, Fits, passes, Keeps, Refers}
use Rattle.archive_tables.specs.Schema.{archive_schema}
use Rattle.archive_tables.specs.Tables.{NumberedRecord, numbered_row, numbered_from_row, HoldsRecords, HaveDistinctKeys}
use Rattle.archive_tables.proofs.CauseLemmas.{calm}
use Rattle.archive_tables.proofs.CreateLemmas.{over, at_once, went}
use Rattle.archive_tables.proofs.ChangeLemmas.{updated, deleted, apart_mapped, apart_filtered, apart_more, one_hit}
use Rattle.archive_tables.proofs.RowLemmas.{records_are, put_past}
use Rattle.archive_tables.proofs.RunLemmas.{passed, value_is, no_action}
use Rattle.archive_tables.proofs.SelectLemmas.{plain_query, env_of, passes as passes_tests, picks_of, Picks, hits, no_row, one_row}
use Rattle.archive_sound.proofs.ListLemmas.{all_map, one_filtered, all_filter, all_last, filter_passes}
use Rattle.archive_sound.proofs.EditLemmas.{IsAccepted, never_edits}
use Rattle.archive_sound.proofs.RecordLemmas.{of_records, of_rows, none_taken, not_taken}
use Rattle.archive_sound.proofs.ReferLemmas.{Refer}

-- ---- a table of records

-- `same` says that two records have the same key, and `names` that the names in a record are those of rows that are there.
pub record IsTableOf {R : Type 0} (table : Table) (cells : R → Row) (read : Row → R) (same : R → R → Bool) (IsShort : R → Type 0) (names : Trees → R → Bool) : Type 0 where
  pub back : (n : ℤ) (r : R) → read (Int n ∷ cells r) ≡ r
  pub flips : (a b : R) → same a b ≡ same b a
  pub typed : (db : Trees) (n : ℤ) (r : R) → passes Datatype archive_schema db table (Int n ∷ cells r) ≡ true
  pub present : (db : Trees) (n : ℤ) (r : R) → passes NotNull archive_schema db table (Int n ∷ cells r) ≡ true
  pub small : (n : ℤ) (r : R) → IsShort r → ¬ IsOversized archive_schema table (Int n ∷ cells r)
  pub fit : (gone : List ℤ) (news : List Row) → is_referred archive_schema Enforced (record { table = table; gone = gone; news = news }) ≡ true
  pub unique : (db : Trees) (rows : List Row) → Keeps Unique archive_schema db → HoldsRecords cells read rows → HaveDistinctKeys same (map read rows)
      → Keeps Unique archive_schema (with_tree db table.tree rows)
  pub checks : (db : Trees) → Keeps Check archive_schema db → AllByRecursion (λ row. passes Check archive_schema db table row ≡ true) (db table.tree)
  pub names_are : (db : Trees) (n : ℤ) (r : R) → passes ForeignKey archive_schema db table (Int n ∷ cells r) ≡ names db r
  pub low : (trees : Trees) → overlay trees [] table.tree ≡ trees table.tree

module _ {R : Type 0} (table : Table) (cells : R → Row) (read : Row → R) (same : R → R → Bool) (IsShort : R → Type 0) (names : Trees → R → Bool) (it : IsTableOf table cells read same IsShort names)
    (db : Trees) (obeys : Obeys archive_schema db) (holds : HoldsRecords cells read (db table.tree)) (distinct : HaveDistinctKeys same (map read (db table.tree))) where
  -- the names in the rows that an edit leaves are those of rows that are there
  pub named : Refer db table (db table.tree) → AllByRecursion (λ r. names db r ≡ true) (map read (db table.tree))
  named before = of_records cells read (λ row. passes ForeignKey archive_schema db table row ≡ true) (λ r. names db r ≡ true) (λ n r h. sym (it.names_are db n r) ∙ h) (db table.tree) holds before

  pub refer_new : (rows : List Row) → HoldsRecords cells read rows → AllByRecursion (λ r. names db r ≡ true) (map read rows) → Refer db table rows
  refer_new rows held all = of_rows cells read (λ row. passes ForeignKey archive_schema db table row ≡ true) (λ r. names db r ≡ true) (λ n r h. it.names_are db n r ∙ h) rows held all

  and_true : {b : Bool} → b ≡ true → (b && true) ≡ true
  and_true h = ap (λ b. b && true) h

  abbrev all : List (NumberedRecord R)
  all = map (numbered_from_row read) (db table.tree)

  -- a row takes the place of another or of none
  accepts : (gone : List ℤ) (n : ℤ) (r : R) → IsShort r → fits_i64 n ≡ true → passes Check archive_schema db table (Int n ∷ cells r) ≡ true
      → list_any (λ row. is_eq (value_cmp (rowid row) (Int n))) (without_all (db table.tree) gone) ≡ false
      → Keeps Unique archive_schema (with_tree db table.tree (put_row (Int n ∷ cells r) (without_all (db table.tree) gone)))
      → IsAccepted db (record { table = table; gone = gone; news = (Int n ∷ cells r) ∷ [] })
  accepts gone n r short fits checked free unique = record {
    typed = and_true (it.typed db n r);
    present = and_true (it.present db n r);
    checked = and_true checked;
    fresh = ap (λ b. not b && true) free;
    unique = unique;
    keyed = refl;
    numbers = and_true fits;
    referred = it.fit gone ((Int n ∷ cells r) ∷ []);
    small = λ row has. elim has [ inl same ↦ λ big. it.small n r short (subst (IsOversized archive_schema table) same big) | inr none ↦ absurd none ];
  }

  accepts_none : (gone : List ℤ) → Keeps Unique archive_schema (with_tree db table.tree (without_all (db table.tree) gone)) → IsAccepted db (record { table = table; gone = gone; news = [] })
  accepts_none gone unique = record {
    typed = refl;
    present = refl;
    checked = refl;
    fresh = refl;
    unique = unique;
    keyed = refl;
    numbers = refl;
    referred = it.fit gone [];
    small = λ row has. absurd has;
  }

  -- what an edit leaves, where the rows that it leaves are these
  pub record Leaves (next : Trees) (rows : List Row) : Type 0 where
    pub rows_are : next table.tree ≡ rows
    pub others : AllByRecursion (λ (t : Table). t.tree ≢ table.tree → next t.tree ≡ db t.tree) archive_schema.tables

  pub left_by_edit : (edit : Edit) → edit.table ≡ table → (next : Trees) → Edited archive_schema Enforced db edit (Ok next) → Leaves next (edited db edit)
  left_by_edit edit is next written =
      let applied = one_step archive_schema Enforced db next edit (no_action edit.table.tree (taken_by db edit) edit.news) written in
      record {
        rows_are = subst (λ (t : Table). next t.tree ≡ edited db edit) is applied.rows;
        others = subst (λ (s : Table). AllByRecursion (λ (t : Table). t.tree ≢ s.tree → next t.tree ≡ db t.tree) archive_schema.tables) is applied.tables;
      }

  -- ---- a query for the rows of one key

  module _ (terms shown : List Term) (params : Row) (wanted : R → Bool) (tests : (n : ℤ) (r : R) → passes_tests terms params (Int n ∷ cells r) ≡ wanted r)
      (alike : (a b : R) → wanted a ≡ true → same a b ≡ wanted b) (typed : accepts_program archive_schema [] (plain_query table.tree terms shown []) params ≡ true) where
    abbrev query : Query
    query = plain_query table.tree terms shown []

    abbrev hit : NumberedRecord R → Bool
    hit r = wanted r.content

    abbrev shown_of : NumberedRecord R → Row
    shown_of r = (output query (env_of params (numbered_row cells r))).1

    never_queried : (stop : Option Error) → ¬ Queried None (over archive_schema db) (record { lets = []; body = query }) params (Err stop)
    never_queried None h = h
    never_queried (Some e) (inl mistyped) = let bad = sym typed ∙ mistyped.1 in cc
    never_queried (Some e) (inr (inl overflows)) = calm table.tree terms shown [] params db overflows.1
    never_queried (Some e) (inr (inr interrupted)) = let bad = interrupted.1 in cc

    picks_from : (rows : List Row) → Queried None (over archive_schema db) (record { lets = []; body = query }) params (Ok rows) → Picks query params (db table.tree) rows
    picks_from rows h = subst (λ l. Picks query params l rows) (it.low db) (picks_of table.tree terms shown [] (overlay db []) params rows (h.answer Null))

    -- none or one is hit
    one_or_none : (filter hit all ≡ []) ⊎ ((r : NumberedRecord R) × (filter hit all ≡ r ∷ []))
    one_or_none = one_hit cells read it.back wanted same alike all (subst (HaveDistinctKeys same) (records_are cells read it.back (db table.tree) holds) distinct)

    -- what is so of each row is so of the one that is hit
    of_hit : (P : Row → Type 0) → AllByRecursion P (db table.tree) → (r : NumberedRecord R) → filter hit all ≡ r ∷ [] → P (numbered_row cells r)
    of_hit P each r one =
        one_filtered hit (λ (s : NumberedRecord R). P (numbered_row cells s)) all r (all_map (numbered_row cells) P all (subst (AllByRecursion P) holds.rows_read_back each)) one

    record_hit : (P : R → Type 0) → AllByRecursion P (map read (db table.tree)) → (r : NumberedRecord R) → filter hit all ≡ r ∷ [] → P r.content
    record_hit P each r one =
        one_filtered hit (λ (s : NumberedRecord R). P s.content) all r
        (all_map (λ (s : NumberedRecord R). s.content) P all (subst (AllByRecursion P) (records_are cells read it.back (db table.tree) holds) each)) one

    module _ (given : List Row) (picks : Picks query params (db table.tree) given) where
      gives_one : (r : NumberedRecord R) → filter hit all ≡ r ∷ [] → given ≡ shown_of r ∷ []
      gives_one r one =
          one_row query params (db table.tree) given (numbered_row cells r) picks ((hits cells read it.back query params wanted tests (db table.tree) holds).0 ∙ ap (map (numbered_row cells)) one)

      gives_none : filter hit all ≡ [] → given ≡ []
      gives_none none =
          no_row query params (db table.tree) given picks ((hits cells read it.back query params wanted tests (db table.tree) holds).0 ∙ ap (map (numbered_row cells)) none)

    -- ---- UPDATE

    module _ (set : R → R) (keeps_key : (a b : R) → same (if wanted a then set a else a) (if wanted b then set b else b) ≡ same a b)
        (keeps_names : (r : R) → names db (set r) ≡ names db r) (short : AllByRecursion (λ r. wanted r ≡ true → IsShort (set r)) (map read (db table.tree)))
        (numbers : AllByRecursion (λ row. fits_i64 (id_in (rowid row)) ≡ true) (db table.tree))
        (checked : (n : ℤ) (r : R) → wanted r ≡ true → passes Check archive_schema db table (Int n ∷ cells r) ≡ true → passes Check archive_schema db table (Int n ∷ cells (set r)) ≡ true)
        (edits : (r : NumberedRecord R) (given : List Row) → given ≡ shown_of r ∷ []
        → edit_of db table (ids_of given) Given 1 given ≡ record { table = table; gone = r.number ∷ []; news = numbered_row cells (record r { content = set r.content }) ∷ [] }) where
      abbrev change : R → R
      change r = if wanted r then set r else r

      module _ (given : List Row) (picks : Picks query params (db table.tree) given) where
        abbrev edit : Edit
        edit = edit_of db table (ids_of given) Given 1 given

        one_given : (r : NumberedRecord R) → filter hit all ≡ r ∷ []
            → edit ≡ record { table = table; gone = r.number ∷ []; news = numbered_row cells (record r { content = set r.content }) ∷ [] }
        one_given r one = edits r given (gives_one given picks r one)

        none_given : filter hit all ≡ [] → edit ≡ record { table = table; gone = []; news = [] }
        none_given none = ap (λ l. edit_of db table (ids_of l) Given 1 l) (gives_none given picks none)

        leaves : HoldsRecords cells read (edited db edit) × (map read (edited db edit) ≡ map change (map read (db table.tree)))
        leaves =
            let made = updated cells read it.back wanted set same alike (db table.tree) (edited db edit) holds distinct (λ r one. ap (edited db) (one_given r one))
            (λ none. ap (edited db) (none_given none)) in
            (made.0, made.1)

        unique : Keeps Unique archive_schema (with_tree db table.tree (edited db edit))
        unique = it.unique db (edited db edit) (obeys.rules Unique) leaves.0 (subst (HaveDistinctKeys same) (sym leaves.1) (apart_mapped same change keeps_key (map read (db table.tree)) distinct))

        unique_at : (e : Edit) → edit ≡ e → Keeps Unique archive_schema (with_tree db table.tree (edited db e))
        unique_at e is = subst (λ (x : Edit). Keeps Unique archive_schema (with_tree db table.tree (edited db x))) is unique

        accepted : IsAccepted db edit
        accepted = elim one_or_none [
          | inl none ↦ subst (IsAccepted db) (sym (none_given none)) (accepts_none [] (unique_at _ (none_given none)))
          | inr found ↦
              let r = found.0 in
              let one = found.1 in
              let here = filter_passes hit all r one in
              subst (IsAccepted db) (sym (one_given r one)) (accepts (r.number ∷ []) r.number (set r.content) (record_hit (λ r. wanted r ≡ true → IsShort (set r)) short r one here)
              (of_hit (λ row. fits_i64 (id_in (rowid row)) ≡ true) numbers r one)
              (checked r.number r.content here (of_hit (λ row. passes Check archive_schema db table row ≡ true) (it.checks db (obeys.rules Check)) r one)) (none_taken r.number (db table.tree))
              (unique_at _ (one_given r one)))
        ]

        refer : Refer db table (db table.tree) → Refer db table (edited db edit)
        refer before = refer_new (edited db edit) leaves.0 (subst (AllByRecursion (λ r. names db r ≡ true)) (sym leaves.1) (changed (map read (db table.tree)) (named before)))
          where
            changed : (rs : List R) → AllByRecursion (λ r. names db r ≡ true) rs → AllByRecursion (λ r. names db r ≡ true) (map change rs)
            changed [] every = tt
            changed (r ∷ rs) every =
                (elim (wanted r) as (λ c. names db (cond c (set r) r) ≡ true) [ true ↦ keeps_names r ∙ every.0 | false ↦ every.0 ], changed rs every.1)

      abbrev task : Task
      task = record { limit = None; keys = Enforced; schema = archive_schema; table = table; params = params }

      pub never_updates : (stop : Option Error) → ¬ Updates task (record { lets = []; body = query }) params db (Err stop)
      never_updates stop h =
          let queried = went h never_queried in
          let picks = picks_from queried.0 queried.1 in
          let written = went queried.2 (never_edits db (edit queried.0 picks) (accepted queried.0 picks)) in
          let bad = written.2 in cc

      pub updates_leave : Refer db table (db table.tree) → (w : Written) → Updates task (record { lets = []; body = query }) params db (Ok w)
          → (rows : List Row) × Leaves w.trees rows × Refer db table rows
      updates_leave before w h =
          let queried = passed h in
          let picks = picks_from queried.0 queried.1 in
          let written = passed queried.2 in
          let same_trees : w.trees ≡ written.0 = ap (λ (x : Written). x.trees) (value_is written.2) in
          let e = edit queried.0 picks in
          (edited db e, subst (λ (t : Trees). Leaves t (edited db e)) (sym same_trees) (left_by_edit e refl written.0 written.1), refer queried.0 picks before)

    -- ---- DELETE

    module _ (gone : (r : NumberedRecord R) (given : List Row) → given ≡ shown_of r ∷ [] → edit_of db table (ids_of given) Given 0 [] ≡ record { table = table; gone = r.number ∷ []; news = [] }) where
      module _ (given : List Row) (picks : Picks query params (db table.tree) given) where
        abbrev removal : Edit
        removal = edit_of db table (ids_of given) Given 0 []

        one_gone : (r : NumberedRecord R) → filter hit all ≡ r ∷ [] → removal ≡ record { table = table; gone = r.number ∷ []; news = [] }
        one_gone r one = gone r given (gives_one given picks r one)

        none_gone : filter hit all ≡ [] → removal ≡ record { table = table; gone = []; news = [] }
        none_gone none = ap (λ l. edit_of db table (ids_of l) Given 0 []) (gives_none given picks none)

        remains : HoldsRecords cells read (edited db removal) × (map read (edited db removal) ≡ filter (λ r. not (wanted r)) (map read (db table.tree)))
        remains = deleted cells read it.back wanted same alike (db table.tree) (edited db removal) holds distinct (λ r one. ap (edited db) (one_gone r one)) (λ none. ap (edited db) (none_gone none))

        unique_left : Keeps Unique archive_schema (with_tree db table.tree (edited db removal))
        unique_left = it.unique db (edited db removal) (obeys.rules Unique) remains.0
            (subst (HaveDistinctKeys same) (sym remains.1) (apart_filtered same (λ r. not (wanted r)) (map read (db table.tree)) distinct))

        unique_left_at : (e : Edit) → removal ≡ e → Keeps Unique archive_schema (with_tree db table.tree (edited db e))
        unique_left_at e is = subst (λ (x : Edit). Keeps Unique archive_schema (with_tree db table.tree (edited db x))) is unique_left

        removed : IsAccepted db removal
        removed = elim one_or_none [
          | inl none ↦ subst (IsAccepted db) (sym (none_gone none)) (accepts_none [] (unique_left_at _ (none_gone none)))
          | inr found ↦ subst (IsAccepted db) (sym (one_gone found.0 found.1)) (accepts_none (found.0.number ∷ []) (unique_left_at _ (one_gone found.0 found.1)))
        ]

        refer_left : Refer db table (db table.tree) → Refer db table (edited db removal)
        refer_left before = refer_new (edited db removal) remains.0
            (subst (AllByRecursion (λ r. names db r ≡ true)) (sym remains.1) (all_filter (λ r. not (wanted r)) (λ r. names db r ≡ true) (map read (db table.tree)) (named before)))

      abbrev removing : Task
      removing = record { limit = None; keys = Enforced; schema = archive_schema; table = table; params = params }

      pub never_deletes : (stop : Option Error) → ¬ Deletes removing (record { lets = []; body = query }) db (Err stop)
      never_deletes stop h =
          let queried = went h never_queried in
          let picks = picks_from queried.0 queried.1 in
          let written = went queried.2 (never_edits db (removal queried.0 picks) (removed queried.0 picks)) in
          let bad = written.2 in cc

      pub deletes_leave : Refer db table (db table.tree) → (w : Written) → Deletes removing (record { lets = []; body = query }) db (Ok w)
          → (rows : List Row) × Leaves w.trees rows × Refer db table rows
      deletes_leave before w h =
          let queried = passed h in
          let picks = picks_from queried.0 queried.1 in
          let written = passed queried.2 in
          let same_trees : w.trees ≡ written.0 = ap (λ (x : Written). x.trees) (value_is written.2) in
          let e = removal queried.0 picks in
          (edited db e, subst (λ (t : Trees). Leaves t (edited db e)) (sym same_trees) (left_by_edit e refl written.0 written.1), refer_left queried.0 picks before)

  -- ---- a row more

  module _ (n : ℤ) (r : R) (far : (next_rowid (db table.tree) ≡ n) ⊎ (next_rowid (db table.tree) <ℤ n)) (short : IsShort r) (fits : fits_i64 n ≡ true)
      (checked : passes Check archive_schema db table (Int n ∷ cells r) ≡ true) (new : list_any (same r) (map read (db table.tree)) ≡ false) where
    abbrev added : List Row
    added = put_row (Int n ∷ cells r) (db table.tree)

    put : HoldsRecords cells read added × (map read added ≡ map read (db table.tree) ++ r ∷ []) × (added ≡ db table.tree ++ (Int n ∷ cells r) ∷ [])
    put = put_past cells read it.back (db table.tree) (record { number = n; content = r }) far holds

    pub accepts_more : IsAccepted db (record { table = table; gone = []; news = (Int n ∷ cells r) ∷ [] })
    accepts_more = accepts [] n r short fits checked (not_taken (db table.tree) (Int n ∷ cells r) (subst IsTable put.2 put.0.is_table))
        (it.unique db added (obeys.rules Unique) put.0 (subst (HaveDistinctKeys same) (sym put.1) (apart_more same (map read (db table.tree)) r it.flips new distinct)))

    pub refer_more : Refer db table (db table.tree) → names db r ≡ true → Refer db table added
    refer_more before named_so = refer_new added put.0
        (subst (AllByRecursion (λ x. names db x ≡ true)) (sym put.1) (all_last (λ x. names db x ≡ true) (map read (db table.tree)) r (named before) named_so))

    pub added_last : added ≡ db table.tree ++ (Int n ∷ cells r) ∷ []
    added_last = put.2

    -- ---- INSERT, into a table that counts no numbers

    module _ (params : Row) (terms : List Term) (width : ℕ) (typed : accepts_terms terms (stamped table params) ≡ true)
        (edits : (given : List Row) → given ≡ value_rows (stamped table params) width (length terms / width) terms
        → edit_of db table [] Chosen 0 given ≡ record { table = table; gone = []; news = (Int n ∷ cells r) ∷ [] }) where
      abbrev edit_for : List Row → Edit
      edit_for rows = edit_of db table [] Chosen 0 rows

      -- what such an INSERT is
      abbrev pub InsertsPlainly : Part Written
      InsertsPlainly = Then (Sourced None (over archive_schema db) (stamped table params) (Values terms width)) (λ rows. Then (Gives {A = Option Row} None) (λ counter.
          Then (Edited archive_schema Enforced db (edit_for rows))
          (λ mid. Then (Gives mid) (λ next. Gives (record { trees = next; rows = (edit_for rows).news; last = last_id (edit_for rows).news })))))

      never_sourced : (stop : Option Error) → ¬ Sourced None (over archive_schema db) (stamped table params) (Values terms width) (Err stop)
      never_sourced None h = h
      never_sourced (Some e) (inl mistyped) = let bad = sym typed ∙ mistyped.1 in cc
      never_sourced (Some e) (inr interrupted) = let bad = interrupted.1 in cc

      pub never_inserts : (stop : Option Error) → ¬ InsertsPlainly (Err stop)
      never_inserts stop h =
          let given = went h never_sourced in
          let counter = went given.2 (λ t none. cc) in
          let mid = went counter.2 (never_edits db (edit_for given.0) (subst (IsAccepted db) (sym (edits given.0 given.1.1)) accepts_more)) in
          let next = went mid.2 (λ t none. cc) in
          let bad = next.2 in cc

      pub inserts_leave : (w : Written) → InsertsPlainly (Ok w) → Leaves w.trees added × Fits archive_schema w.trees
      inserts_leave w h =
          let given = passed h in
          let mid = passed (passed given.2).2 in
          let next = passed mid.2 in
          let e = edit_for given.0 in
          let same_trees : w.trees ≡ mid.0 = ap (λ (x : Written). x.trees) (value_is next.2) ∙ value_is next.1 in
          let left = left_by_edit e refl mid.0 mid.1 in (
            subst (λ (t : Trees). Leaves t added) (sym same_trees) (record { rows_are = left.rows_are ∙ ap (edited db) (edits given.0 given.1.1); others = left.others }),
            subst (Fits archive_schema) (sym same_trees) (one_step archive_schema Enforced db mid.0 e (no_action table.tree (taken_by db e) e.news) mid.1).fits,
          )

-- ---- and then the foreign keys are tested

pub never_ends : (task : Task) (Makes : Part Written) → ((stop : Option Error) → ¬ Makes (Err stop)) → ((w : Written) → Makes (Ok w) → Refers All task.schema w.trees)
    → (stop : Option Error) → ¬ Then Makes (Concludes task at_once None) (Err stop)
never_ends task Makes never refer stop h =
    let w = went h never in
    let tested = went w.2 (λ t refused. refused.0 (refer w.0 w.1)) in
    let shown = went tested.2 (λ t none. cc) in
    let bad = shown.2 in cc
