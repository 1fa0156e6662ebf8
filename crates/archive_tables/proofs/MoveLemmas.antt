-- The statements that bring tables of an older version over: each leaves what the tables remember.
use Rattle.std.proofs.Common.{◌≡◌, ℕ, ℤ, pos, List, [], ◌∷◌, ◌++◌, map, codes, Ok, inl, inr, refl, sym, ap, ap₂, subst, ◌∙◌, false, true, None, arith, append_assoc}
use Rattle.std.specs.Prelude.{length, ◌==◌, filter}
use Rattle.std.specs.List.Sorted.{IsPermutation}
use Rattle.std.specs.List.{AllByRecursion}
use Rattle.std.proofs.lemmas.Bool.{cases_Bool}
use Rattle.std.proofs.lemmas.List.{append-nil}
use Rattle.sqlite.specs.declared.types.Value.{Value}
use Rattle.sqlite.specs.declared.types.Value.TheVariants.{Null, Int, Text}
use Rattle.sqlite.specs.Collation.TheVariants.{Binary}
use Rattle.sqlite.specs.Kind.TheVariants.{Integer}
use Rattle.sqlite.specs.Cast.{cast, cast_row}
use Rattle.sqlite.specs.Order.{Row}
use Rattle.sqlite.specs.Term.{Term, lit, col}
use Rattle.sqlite.specs.Query.{Query, output, IsAnswer}
use Rattle.sqlite.specs.Source.TheVariants.{Query as Queried}
use Rattle.sqlite.specs.Command.TheVariants.{CreateTable, Insert, Update}
use Rattle.sqlite.specs.Schema.{Schema}
use Rattle.sqlite.specs.Table.{Table}
use Rattle.sqlite.specs.Change.{created}
use Rattle.sqlite.specs.Edit.{edit_of, edited, taken_by, next_rowid}
use Rattle.sqlite.specs.Rowids.TheVariants.{Chosen, Given}
use Rattle.sqlite.specs.Does.{Tally, lacks_sequence}
use Rattle.sqlite.specs.Rows.{Written}
use Rattle.sqlite.specs.Program.{overlay}
use Rattle.sqlite.specs.Tree.{Trees, put_row}
use Rattle.sqlite.specs.Listing.{understood}
use Rattle.sqlite.specs.Effect.{Database}
use Rattle.sqlite.specs.State.{State, Executes}
use Rattle.sqlite.proofs.Callers.{one_step}
use Rattle.sqlite_resolve.specs.Compile.{first}
use Rattle.sqlite_schema.specs.declared.command.Command.{Command}
use Rattle.sqlite_tied.specs.Compute.{everything}
use Rattle.sqlite_rules.specs.Action.{works}
use Rattle.sqlite_rules.specs.Calls.{ids_of}
use Rattle.sqlite_rules.specs.Edit.{numbered, put_all}
use Rattle.sqlite_schema.specs.Rules.{clashes}
use Rattle.sqlite_schema.specs.declared.schema.Keys.TheVariants.{Enforced}
use Rattle.sqlite_schema.specs.declared.schema.Constraint.TheVariants.{Unique}
use Rattle.sqlite_trees.proofs.ListLemmas.{map-map, all_of, filter_all}
use Rattle.sqlite_value.specs.Keys.{plain}
use Rattle.sqlite_value.proofs.OrderLemmas.{value_cmp_total}
use Rattle.std.proofs.lemmas.Cmp.{tied_itself}
use Rattle.archive_model.specs.Records.{ListOption, Archive}
use Rattle.archive_model.specs.Machine.{default_list_option}
use Rattle.archive_tables.specs.Schema.{schema_1, schema_2, archive_schema, schema_of_version, create_option_table, create_address_table, version_table, option_table}
use Rattle.archive_tables.specs.Tables.{IsOpenArchiveInFormat, HoldsSinceVersion, NumberedRecord, numbered_row, HoldsRecords, HaveDistinctKeys, HavePositiveRowids, AreTablesWithVersionRow}
use Rattle.archive_tables.specs.Tables.{newest_version, format_of_version, archive_of_version, archive_in_trees, version_rows, list_cells, list_from_row, person_cells, person_from_row, grant_cells}
use Rattle.archive_tables.specs.Tables.{grant_from_row, message_from_row, indexed_message_cells, index_columns_from_row, indexed_message_from_row, option_cells, option_from_row, address_cells}
use Rattle.archive_tables.specs.Tables.{address_from_row, same_grant_key, same_message_key, same_option_key, same_address_key}
use Rattle.archive_tables.specs.Making.{IsInTransactionWithSchema, IsMigratingTables, IsReadyToCommit}
use Rattle.archive_tables.specs.Statements.{Statement, backfill_options_statement, update_version_statement}
use Rattle.archive_tables.specs.declared.texts.schema.TheConstants.{VERSION}
use Rattle.archive_tables.proofs.RunLemmas.{passed, value_is, no_action, cast_null, cast_int}
use Rattle.archive_tables.proofs.RowLemmas.{put_past}
use Rattle.archive_tables.proofs.TableLemmas.{archive_same, same_but, one_changes}
use Rattle.archive_tables.proofs.SelectLemmas.{plain_query, by_number, env_of, passes, all_pass, each_passing, picks_of, Picks, shows, one_row}
use Rattle.archive_tables.proofs.CrashLemmas.{is_within}
use Rattle.archive_tables.proofs.CreateLemmas.{CanCreate, Makes, Turns, one_made}
use Rattle.archive_tables.proofs.SchemaLemmas.{IsStep, option_step, can_option, option_alone, option_extends, address_step, can_address, address_alone, address_extends}
use Rattle.archive_tables.proofs.MakeLemmas.{runs, changes, stays_in, begin_text, begin_always, runs_always}
use Rattle.archive_tables.proofs.OptionLemmas.{option_back, list_of_option}
use Rattle.archive_tables.proofs.ApartLemmas.{apart_by_key, one_option_a_list_2, is_no_foreign_key}

-- ---- tables of which the rows that every version has stay

record SameRows (old new : Trees) : Type 0 where
  lists : new 1 ≡ old 1
  persons : new 3 ≡ old 3
  grants : new 6 ≡ old 6
  messages : new 8 ≡ old 8

module _ (said now_says : ℤ) (number next : ℕ) (old new : Trees) (k : AreTablesWithVersionRow said number old) (same : SameRows old new) where
  tables_after : new 0 ≡ version_rows now_says → HoldsSinceVersion 2 next (HoldsRecords option_cells option_from_row (new 13))
      → HoldsSinceVersion 2 next (HaveDistinctKeys same_option_key (map option_from_row (new 13)))
      → HoldsSinceVersion 3 next (HoldsRecords address_cells address_from_row (new 15)) → HoldsSinceVersion 3 next (HaveDistinctKeys same_address_key (map address_from_row (new 15)))
      → (archive_of_version next new).options ≡ (archive_of_version number old).options → (archive_of_version next new).addresses ≡ (archive_of_version number old).addresses
      → AreTablesWithVersionRow now_says next new × (archive_of_version next new ≡ archive_of_version number old)
  tables_after version options options_distinct addresses addresses_distinct same_options same_addresses = (
    record {
      version = version;
      lists = subst (HoldsRecords list_cells list_from_row) (sym same.lists) k.lists;
      persons = subst (HoldsRecords person_cells person_from_row) (sym same.persons) k.persons;
      grants = subst (HoldsRecords grant_cells grant_from_row) (sym same.grants) k.grants;
      messages = subst (HoldsRecords indexed_message_cells indexed_message_from_row) (sym same.messages) k.messages;
      grants_distinct = subst (λ l. HaveDistinctKeys same_grant_key (map grant_from_row l)) (sym same.grants) k.grants_distinct;
      messages_distinct = subst (λ l. HaveDistinctKeys same_message_key (map message_from_row l)) (sym same.messages) k.messages_distinct;
      rowids_are_positive = subst HavePositiveRowids (sym same.messages) k.rowids_are_positive;
      options = options;
      options_distinct = options_distinct;
      addresses = addresses;
      addresses_distinct = addresses_distinct;
    },
    archive_same (archive_of_version next new) (archive_of_version number old) (ap (map list_from_row) same.lists) (ap (map person_from_row) same.persons) (ap (map grant_from_row) same.grants)
        (ap (map message_from_row) same.messages) (ap (map index_columns_from_row) same.messages) same_options same_addresses,
  )

-- ---- a statement within the transaction

module _ {s next : Schema} {st : Statement} {k : Command} (step : IsStep s st k) (turns : Turns k st s next) (old new : State) {before : Database} {said : ℤ} {number : ℕ} {archive : Archive}
    (it : IsMigratingTables old before s said number archive) (count : ℕ) (h : Executes st.sql st.parameters old new (Ok count)) where
  moves : (now_says : ℤ) (version : ℕ) → AreTablesWithVersionRow now_says version new.now.trees × (archive_of_version version new.now.trees ≡ archive_of_version number old.now.trees)
      → IsMigratingTables new before next now_says version archive
  moves now_says version tables =
      let within = stays_in step turns old new before count (is_within old before s said number archive it) h in
      record {
        is_open = within.is_open;
        is_in_transaction = within.is_in_transaction;
        committed_is_before = within.committed_is_before;
        schema_is = within.schema_is;
        are_tables_of_version = tables.0;
        archive_is = tables.1 ∙ it.archive_is;
      }

-- ---- BEGIN, whatever the version

pub begins_moving : (old new : State) (number count : ℕ) → IsOpenArchiveInFormat (format_of_version number) None old → Executes begin_text [] old new (Ok count)
    → IsMigratingTables new old.now (schema_of_version number) (pos number) number (archive_of_version number old.now.trees)
begins_moving old new number count k h =
    let ran = runs_always begin_always old new count h in
    record {
      is_open = ran.1.is_open;
      is_in_transaction = ran.1.mode;
      committed_is_before = ran.1.committed_is ∙ k.committed_is;
      schema_is = ap (λ (d : Database). d.schema) ran.1.now_is ∙ k.schema;
      are_tables_of_version = subst (λ (d : Database). AreTablesWithVersionRow (pos number) number d.trees) (sym ran.1.now_is) k.tables;
      archive_is = ap (λ (d : Database). archive_of_version number d.trees) ran.1.now_is;
    }

pub begins_within : (old new : State) (count : ℕ) → Executes begin_text [] old new (Ok count) → IsInTransactionWithSchema new old.committed old.now.schema
begins_within old new count h =
    let ran = runs_always begin_always old new count h in
    record {
      is_open = ran.1.is_open;
      is_in_transaction = ran.1.mode;
      committed_is_before = ran.1.committed_is;
      schema_is = ap (λ (d : Database). d.schema) ran.1.now_is;
    }

-- ---- CREATE over tables that hold rows

table_made : {s : Schema} {st : Statement} {table : Table} → IsStep s st CreateTable → CanCreate s st.sql table → lacks_sequence (created s table) ≡ false → (old new : State)
    → old.now.schema ≡ s → (count : ℕ) → Executes st.sql st.parameters old new (Ok count) → Makes s table old.now new.now
table_made {s} {st} {table} step can none old new has count h =
    let all = passed (runs step old new has count h).changed in
    let first = passed all.1 in
    let made = one_made s st.sql table old.now first.0 has can.defined first.1 in
    let lacks : lacks_sequence first.0.schema ≡ false = ap lacks_sequence made.schema ∙ none in
    let now : new.now ≡ first.0 = ap (λ (p : Tally × Database). p.1) (value_is all.2) ∙ value_is (rw lacks at first.2) in
    subst (Makes s table old.now) (sym now) made

module _ (old new : State) (before : Database) (said : ℤ) (archive : Archive) (count : ℕ) where
  pub moves_option : IsMigratingTables old before schema_1 said 1 archive → Executes create_option_table [] old new (Ok count)
      → IsMigratingTables new before schema_2 said 1 archive × (new.now.trees 13 ≡ [])
  moves_option k h =
      let made = table_made option_step can_option option_alone.0 old new k.schema_is count h in
      let rows = made.others in
      let same : SameRows old.now.trees new.now.trees = record { lists = rows.1.0; persons = rows.1.1.0; grants = rows.1.1.1.0; messages = rows.1.1.1.1.0 } in
      let tables = tables_after said said 1 1 old.now.trees new.now.trees k.are_tables_of_version same (rows.0 ∙ k.are_tables_of_version.version) tt tt tt tt
      (ap (λ l. map default_list_option (map list_from_row l)) same.lists) refl in
      (moves option_step option_extends.turns old new k count h said 1 tables, made.empty)

  pub moves_address : IsMigratingTables old before schema_2 said 2 archive → Executes create_address_table [] old new (Ok count)
      → IsMigratingTables new before archive_schema said newest_version archive
  moves_address k h =
      let made = table_made address_step can_address address_alone.0 old new k.schema_is count h in
      let rows = made.others in
      let same : SameRows old.now.trees new.now.trees = record { lists = rows.1.0; persons = rows.1.1.0; grants = rows.1.1.1.0; messages = rows.1.1.1.1.0 } in
      let options = rows.1.1.1.1.1.1.0 in
      let empty : new.now.trees 15 ≡ [] = made.empty in
      moves address_step address_extends.turns old new k count h said newest_version
      (tables_after said said 2 3 old.now.trees new.now.trees k.are_tables_of_version same (rows.0 ∙ k.are_tables_of_version.version)
      (subst (HoldsRecords option_cells option_from_row) (sym options) k.are_tables_of_version.options)
      (subst (λ l. HaveDistinctKeys same_option_key (map option_from_row l)) (sym options) k.are_tables_of_version.options_distinct)
      (subst (HoldsRecords address_cells address_from_row) (sym empty) (record { rows_read_back = refl; is_table = tt }))
      (subst (λ l. HaveDistinctKeys same_address_key (map address_from_row l)) (sym empty) tt) (ap (map option_from_row) options) (ap (map address_from_row) empty))

-- ---- INSERT .. SELECT: the copied rows stand after the others, in their order

-- the rows that are written of some records, before they have numbers
abbrev unnumbered : {R : Type 0} → (R → Row) → List R → List Row
unnumbered cells rs = map (λ r. Null ∷ cells r) rs

abbrev put : {R : Type 0} → (R → Row) → List Row → List R → List Row
put cells rows rs = put_all rows (numbered Chosen rows (unnumbered cells rs))

module _ {R : Type 0} (cells : R → Row) (read : Row → R) (back : (n : ℤ) (r : R) → read (Int n ∷ cells r) ≡ r) where
  all_put : (rows : List Row) (rs : List R) → HoldsRecords cells read rows → HoldsRecords cells read (put cells rows rs) × (map read (put cells rows rs) ≡ map read rows ++ rs)
  all_put rows [] k = (k, sym (append-nil (map read rows)))
  all_put rows (r ∷ rs) k =
      let new : NumberedRecord R = record { number = next_rowid rows; content = r } in
      let one = put_past cells read back rows new (inl refl) k in
      let rest = all_put (put_row (numbered_row cells new) rows) rs one.0 in
      (rest.0, rest.1 ∙ ap (λ (l : List R). l ++ rs) one.1 ∙ append_assoc (map read rows) (r ∷ []) rs)

abbrev pub copy_text : List ℕ
copy_text = codes "INSERT INTO list_option (list, merge) SELECT name, 1 FROM list ORDER BY rowid"

abbrev copied_cells : List Term
copied_cells = lit Null ∷ col 1 1 ∷ lit (Int (pos 1)) ∷ []

-- collations are for DISTINCT alone
abbrev copy_query : Query
copy_query = record (plain_query 1 [] copied_cells by_number) { collations = Binary ∷ Binary ∷ Binary ∷ [] }

copy_step : IsStep schema_2 backfill_options_statement (Insert 6 (Queried (record { lets = []; body = copy_query })))
unfolding understood first everything
copy_step = record { is = refl; whole = refl; knows = record { fits = (refl, refl); plain = (refl, refl); writes = tt }; ours = tt; goes_on = tt }

copy_turns : Turns (Insert 6 (Queried (record { lets = []; body = copy_query }))) backfill_options_statement schema_2 schema_2
copy_turns = record {
  writes = λ old new text params count w. w;
  schema = λ limit mode trees tally next h. ap (λ (it : Tally × Database). it.1.schema) (value_is (passed (passed (passed h).2).2).2);
}

-- no foreign key acts on another row
no_action_2 : (tree : ℕ) (olds news : List Row) → works schema_2 Enforced 0 tree olds news ≡ []
no_action_2 tree olds news = elim (cases_Bool (length news == 0)) [ inl none ↦ rw none | inr some ↦ rw some ]

-- what it shows, in the order of the numbers
copy_picks : (trees : Trees) (rows : List Row) → IsAnswer copy_query trees [] rows → Picks (plain_query 1 [] copied_cells by_number) [] (trees 1) rows
copy_picks trees rows a =
    let q = plain_query 1 [] copied_cells by_number in
    let kept : a.kept ≡ map (λ row. output q (env_of [] row)) (filter (passes [] []) (trees 1)) =
    a.distinct ∙ ap (map (output q)) (a.grouped ∙ each_passing (passes [] []) (env_of []) (trees 1)) ∙ map-map (output q) (env_of []) _ in
    record { ordered = a.ordered; same = subst (λ l. IsPermutation l a.ordered) kept a.same; sorted = a.sorted; is = a.shown }

-- what the query gives of some names: each with merge on
abbrev copied : List (List ℕ) → List Row
copied names = map (λ name. Null ∷ Text name ∷ Int (pos 1) ∷ []) names

cast_copied : (names : List (List ℕ)) → map (λ s. cast_row option_table s) (copied names) ≡ unnumbered option_cells (map default_list_option names)
cast_copied [] = refl
cast_copied (name ∷ names) =
    ap₂ (λ (v : Value) (l : List Row). (cast Integer Null ∷ Text name ∷ v ∷ []) ∷ l) (cast_int (pos 1)) (cast_copied names)
    ∙ ap (λ (v : Value). (v ∷ Text name ∷ Int (pos 1) ∷ []) ∷ unnumbered option_cells (map default_list_option names)) cast_null

puts : (db : Trees) (names : List (List ℕ)) → edited db (edit_of db option_table [] Chosen 0 (copied names)) ≡ put option_cells (db 13) (map default_list_option names)
puts db names = ap (λ (news : List Row). put_all (db 13) (numbered Chosen (db 13) news)) (cast_copied names)

-- the rows of the lists, each with merge on
copied_of : (rows picked : List Row) → HoldsRecords list_cells list_from_row rows → Picks (plain_query 1 [] copied_cells by_number) [] rows picked → picked ≡ copied (map list_from_row rows)
copied_of rows picked k it =
    shows 1 [] copied_cells [] list_cells list_from_row (λ n r. refl) (λ _. true) (λ n r. refl) (λ name. Null ∷ Text name ∷ Int (pos 1) ∷ []) (λ n r. refl) rows picked k it
    ∙ ap copied (filter_all (λ _. true) (map list_from_row rows) (all_of (λ _. true ≡ true) (λ _. refl) (map list_from_row rows)))

module _ (old new : State) (before : Database) (said : ℤ) (archive : Archive) (count : ℕ) where
  pub copies : IsMigratingTables old before schema_2 said 1 archive → old.now.trees 13 ≡ [] → Executes copy_text [] old new (Ok count) → IsMigratingTables new before schema_2 said 2 archive
  copies k empty h =
      let db = old.now.trees in
      let w = runs copy_step old new k.schema_is count h in
      let done = passed (changes old new k.schema_is w) in
      let now = ap (λ (it : Tally × Database). it.1) (value_is (passed (passed done.2).2).2) in
      let given = passed done.1 in
      let written = passed (passed given.2).2 in
      let counted = passed written.2 in
      let edit = edit_of db option_table [] Chosen 0 given.0 in
      let applied = one_step schema_2 _ db written.0 edit (no_action_2 13 (taken_by db edit) edit.news) written.1 in
      let trees : new.now.trees ≡ written.0 =
      ap (λ (d : Database). d.trees) now ∙ ap (λ (it : Written). it.trees) (value_is counted.2) ∙ value_is counted.1 in
      let names = map list_from_row (db 1) in
      let from : given.0 ≡ copied names = copied_of (db 1) given.0 k.are_tables_of_version.lists (copy_picks (overlay db []) given.0 (given.1.answer Null)) in
      let made : edited db edit ≡ put option_cells [] (map default_list_option names) =
      ap (λ rows. edited db (edit_of db option_table [] Chosen 0 rows)) from ∙ puts db names ∙ ap (λ rows. put option_cells rows (map default_list_option names)) empty in
      let here : written.0 13 ≡ put option_cells [] (map default_list_option names) = applied.rows ∙ made in
      let all = all_put option_cells option_from_row option_back [] (map default_list_option names) (record { rows_read_back = refl; is_table = tt }) in
      let keyed = one_option_a_list_2 written.0 (applied.fits.rules Unique is_no_foreign_key) in
      let apart = apart_by_key option_cells (λ (x : ListOption). x.list) list_of_option option_from_row option_back _ all.0
      (subst (λ l. AllByRecursion (λ row. clashes plain (1 ∷ []) l row ≡ false) l) here keyed) in
      let stay = applied.tables in
      let same : SameRows db written.0 = record {
        lists = stay.1.0 (λ e. omega (arith, e));
        persons = stay.1.1.0 (λ e. omega (arith, e));
        grants = stay.1.1.1.0 (λ e. omega (arith, e));
        messages = stay.1.1.1.1.0 (λ e. omega (arith, e));
      } in
      moves copy_step copy_turns old new k count h said 2 (subst (λ t. AreTablesWithVersionRow said 2 t × (archive_of_version 2 t ≡ archive_of_version 1 db)) (sym trees)
      (tables_after said said 1 2 db written.0 k.are_tables_of_version same (stay.0 (λ e. omega (arith, e)) ∙ k.are_tables_of_version.version)
      (subst (HoldsRecords option_cells option_from_row) (sym here) all.0) (subst (λ l. HaveDistinctKeys same_option_key (map option_from_row l)) (sym here) apart) tt tt
      (ap (map option_from_row) here ∙ all.1) refl))

pub copy_within : (old new : State) (before : Database) (count : ℕ) → IsInTransactionWithSchema old before schema_2 → Executes copy_text [] old new (Ok count)
    → IsInTransactionWithSchema new before schema_2
copy_within = stays_in copy_step copy_turns

-- ---- UPDATE of the number

abbrev changed_cells : List Term
changed_cells = col 1 0 ∷ col 1 0 ∷ col 0 0 ∷ []

abbrev number_query : Query
number_query = plain_query 0 [] changed_cells []

pub set_step : IsStep archive_schema update_version_statement (Update 0 (record { lets = []; body = number_query }))
unfolding understood first everything
set_step = record { is = refl; whole = refl; knows = record { fits = (refl, refl); plain = (refl, refl); writes = tt }; ours = tt; goes_on = tt }

pub set_turns : Turns (Update 0 (record { lets = []; body = number_query })) update_version_statement archive_schema archive_schema
set_turns = record {
  writes = λ old new text params count w. w;
  schema = λ limit mode trees tally next h. ap (λ (it : Tally × Database). it.1.schema) (value_is (passed (passed (passed h).2).2).2);
}

says : (db : Trees) (said : ℤ) (given : List Row) → db 0 ≡ version_rows said → given ≡ (Int (pos 1) ∷ Int (pos 1) ∷ Int VERSION ∷ []) ∷ []
    → edited db (edit_of db version_table (ids_of given) Given 1 given) ≡ version_rows VERSION
says db said given was from = rw (from, was, cast_int (pos 1), cast_int VERSION, tied_itself value_cmp_total (Int (pos 1)))

module _ (old new : State) (before : Database) (said : ℤ) (archive : Archive) (count : ℕ) where
  pub moves_version : IsMigratingTables old before archive_schema said newest_version archive → Executes update_version_statement.sql (Int VERSION ∷ []) old new (Ok count)
      → IsReadyToCommit new before archive
  moves_version k h =
      let params = Int VERSION ∷ [] in
      let db = old.now.trees in
      let w = runs set_step old new k.schema_is count h in
      let done = passed (changes old new k.schema_is w) in
      let now = ap (λ (it : Tally × Database). it.1) (value_is (passed (passed done.2).2).2) in
      let queried = passed done.1 in
      let written = passed queried.2 in
      let picks = picks_of 0 [] changed_cells [] (overlay db []) params queried.0 (queried.1.answer Null) in
      let row : Row = Int (pos 1) ∷ Int said ∷ [] in
      let given : queried.0 ≡ (Int (pos 1) ∷ Int (pos 1) ∷ Int VERSION ∷ []) ∷ [] =
      one_row number_query params (db 0) queried.0 row picks (all_pass params (db 0) ∙ k.are_tables_of_version.version) in
      let edit = edit_of db version_table (ids_of queried.0) Given 1 queried.0 in
      let applied = one_step archive_schema _ db written.0 edit (no_action 0 (taken_by db edit) edit.news) written.1 in
      let trees : new.now.trees ≡ written.0 = ap (λ (d : Database). d.trees) now ∙ ap (λ (x : Written). x.trees) (value_is written.2) in
      let version = applied.rows ∙ says db said queried.0 k.are_tables_of_version.version given in
      moves set_step set_turns old new k count h VERSION newest_version
      (subst (λ t. AreTablesWithVersionRow VERSION newest_version t × (archive_in_trees t ≡ archive_in_trees db)) (sym trees)
      (one_changes db written.0 k.are_tables_of_version 0 (version_rows VERSION) version (tt, tt, tt, tt, tt, tt) VERSION (same_but 0 db written.0 applied.tables) version))
