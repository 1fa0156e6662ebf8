-- SQL refuses no option of a list: not one that changes, not one that comes.
use Rattle.std.proofs.Common.{◌≡◌, ◌≢◌, ◌<◌, ◌^◌, inl, suc, ℕ, ℤ, ◌≤◌, List, [], ◌∷◌, ◌++◌, map, length, Ok, Err, Result, refl, sym, ap, ap₂, subst, ◌∙◌, false, true, Bool, cond, None, Option, arith}
use Rattle.std.specs.Prelude.{bytes_eq, if◌then◌else◌}
use Rattle.std.specs.List.{AllByRecursion, list_any}
use Rattle.sqlite.specs.declared.error.Error.{Error}
use Rattle.sqlite.specs.declared.types.Value.TheVariants.{Null, Int, Text}
use Rattle.sqlite.specs.Collation.TheVariants.{Binary}
use Rattle.sqlite.specs.Command.TheVariants.{Insert, Update}
use Rattle.sqlite.specs.Does.{Tally, Does}
use Rattle.sqlite.specs.Edit.{edit_of, next_rowid}
use Rattle.sqlite.specs.Effect.{Database}
use Rattle.sqlite.specs.Listing.{understood}
use Rattle.sqlite.specs.Order.{Row}
use Rattle.sqlite.specs.Query.{output}
use Rattle.sqlite.specs.Rowids.TheVariants.{Given, Chosen}
use Rattle.sqlite_schema.specs.declared.program.Program.{Program}
use Rattle.sqlite.specs.Rows.{Task, Written, Updates, Inserts}
use Rattle.sqlite.specs.Source.TheVariants.{Values}
use Rattle.sqlite.specs.Table.{Table}
use Rattle.sqlite.specs.Term.{Term, lit, col, op2}
use Rattle.sqlite.specs.Tree.{Trees, put_row}
use Rattle.sqlite_sql.specs.declared.ops.BinaryOp.TheVariants.{Compare}
use Rattle.sqlite_sql.specs.declared.ops.CompareOp.TheVariants.{Eq}
use Rattle.sqlite_tied.specs.Compute.{everything}
use Rattle.sqlite_typing.specs.Types.{accepts_program, accepts_terms}
use Rattle.sqlite_rules.specs.Calls.{ids_of}
use Rattle.sqlite_schema.specs.declared.schema.Constraint.TheVariants.{ForeignKey}
use Rattle.sqlite_schema.specs.declared.schema.Keys.TheVariants.{Enforced}
use Rattle.sqlite_schema.specs.declared.schema.Among.TheVariants.{All}
use Rattle.sqlite_schema.specs.Rules.{Obeys, Refers}
use Rattle.archive_tables.proofs.CreateLemmas.{over, at_once}
use Rattle.archive_tables.proofs.RunLemmas.{cast_null, cast_int}
use Rattle.archive_tables.proofs.ChangeLemmas.{apart_mapped, apart_more}
use Rattle.archive_tables.proofs.TableLemmas.{same_but, options_change}
use Rattle.archive_model.specs.Records.{ListOption, Archive}
use Rattle.archive_model.specs.Machine.{with_merge_setting}
use Rattle.archive_model.specs.Questions.{is_option_of}
use Rattle.archive_tables.specs.Schema.{archive_schema, option_table}
use Rattle.archive_tables.specs.Statements.{Statement, StatementMayEndIn, StatementExecutesTo, IsStatementRefused, insert_option_statement, update_option_statement}
use Rattle.archive_tables.specs.Tables.{AreArchiveTables, HaveDistinctKeys, archive_in_trees, NumberedRecord, numbered_row, option_cells, option_from_row, merge_flag, same_option_key}
use Rattle.archive_tables.proofs.OptionLemmas.{add_text, change_text}
use Rattle.archive_tables.proofs.SelectLemmas.{plain_query, env_of, passes as passes_tests, alone, text_is, equal_words}
use Rattle.archive_sound.specs.ManyCommands.{LeaveNumbers}
use Rattle.archive_sound.specs.Room.{IsSoundArchive, HaveShortNumbers, HasFreeNumber, longest_row}
use Rattle.archive_sound.proofs.OptionTable.{option_checked, option_facts, IsShortOption, option_list_is_there}
use Rattle.archive_sound.proofs.ListLemmas.{each}
use Rattle.archive_sound.proofs.MadeLemmas.{task_on, concluded, Holds, kept_numbers, added_numbers, leaves_of, updates_hold, inserts_hold}
use Rattle.archive_sound.proofs.NumberLemmas.{Leaves}
use Rattle.archive_sound.proofs.ReferLemmas.{Refer, they_refer, refers, options_after}
use Rattle.archive_sound.proofs.TableLemmas.{never_updates, updates_leave, never_inserts, inserts_leave, refer_more, never_ends}

-- ---- WHERE

abbrev of_list : List Term
of_list = op2 (Compare Eq Binary) (col 1 1) (col 0 0) ∷ []

is_of_list : (list : List ℕ) (more : Row) (n : ℤ) (o : ListOption) → passes_tests of_list (Text list ∷ more) (Int n ∷ option_cells o) ≡ is_option_of list o
is_of_list list more n o = alone _ ∙ text_is o.list list

alike : (list : List ℕ) (a b : ListOption) → is_option_of list a ≡ true → same_option_key a b ≡ is_option_of list b
alike list a b found = ap (bytes_eq b.list) (equal_words a.list list found)

-- ---- the two texts

abbrev changed_cells : List Term
changed_cells = col 1 0 ∷ col 1 0 ∷ col 1 1 ∷ col 0 1 ∷ []

change_may : (trees : Trees) (o : ListOption) (out : Result (Tally × Database) (Option Error)) → StatementMayEndIn (update_option_statement o) (over archive_schema trees) out
    → Does None at_once (option_cells o) (over archive_schema trees) change_text None (Update 6 (record { lets = []; body = plain_query 13 of_list changed_cells [] })) out
unfolding understood everything
change_may trees o out h = h

change_typed : (o : ListOption) → accepts_program archive_schema [] (plain_query 13 of_list changed_cells []) (option_cells o) ≡ true
unfolding everything
change_typed o = refl

abbrev new_cells : List Term
new_cells = lit Null ∷ col 0 0 ∷ col 0 1 ∷ []

add_may : (trees : Trees) (o : ListOption) (out : Result (Tally × Database) (Option Error)) → StatementMayEndIn (insert_option_statement o) (over archive_schema trees) out
    → Does None at_once (option_cells o) (over archive_schema trees) add_text None (Insert 6 (Values new_cells 3)) out
unfolding understood everything
add_may trees o out h = h

add_typed : (o : ListOption) → accepts_terms new_cells (option_cells o) ≡ true
unfolding everything
add_typed o = refl

put_in : (db : Trees) (o : ListOption) (given : List Row) → given ≡ (Null ∷ option_cells o) ∷ []
    → edit_of db option_table [] Chosen 0 given ≡ record { table = option_table; gone = []; news = (Int (next_rowid (db 13)) ∷ option_cells o) ∷ [] }
put_in db o given from = rw (from, cast_null, cast_int (merge_flag o.merge))

-- ---- an option that says something else

module _ (o : ListOption) where
  abbrev wanted : ListOption → Bool
  wanted = is_option_of o.list

  abbrev said : ListOption → ListOption
  said old = record old { merge = o.merge }

  keeps : (a b : ListOption) → same_option_key (if wanted a then said a else a) (if wanted b then said b else b) ≡ same_option_key a b
  keeps a b = ap₂ bytes_eq (same_list b) (same_list a)
    where
      same_list : (x : ListOption) → (if wanted x then said x else x).list ≡ x.list
      same_list x = elim (wanted x) as (λ c. (cond c (said x) x).list ≡ x.list) [ true ↦ refl | false ↦ refl ]

  edits : (db : Trees) (r : NumberedRecord ListOption) (given : List Row) → given ≡ (output (plain_query 13 of_list changed_cells []) (env_of (option_cells o) (numbered_row option_cells r))).1 ∷ []
      → edit_of db option_table (ids_of given) Given 1 given
      ≡ record { table = option_table; gone = r.number ∷ []; news = numbered_row option_cells (record r { content = said r.content }) ∷ [] }
  edits db r given from = rw (from, cast_int r.number, cast_int (merge_flag o.merge))

  abbrev changing : Program
  changing = record { lets = []; body = plain_query 13 of_list changed_cells [] }

-- ---- the statements

module _ (db : Trees) (k : AreArchiveTables db) (obeys : Obeys archive_schema db) where
  after : (next : Trees) (rows : List Row) → next 13 ≡ rows → Refer db option_table rows → AllByRecursion (λ (t : Table). t.tree ≢ 13 → next t.tree ≡ db t.tree) archive_schema.tables
      → Refers All archive_schema next
  after next rows are refer same = refers next (options_after db next (they_refer db (obeys.rules ForeignKey)) (same_but 13 db next same) (subst (Refer db option_table) (sym are) refer))

  module _ (o : ListOption) (short : IsShortOption o) where
    -- an option that changes
    module _ (numbers : HaveShortNumbers (db 13)) where
      still_short : (x : ListOption) → wanted o x ≡ true → IsShortOption (said o x)
      still_short x found = subst (λ l. length l ≤ longest_row) (sym (equal_words x.list o.list found)) short

      shorts : AllByRecursion (λ x. wanted o x ≡ true → IsShortOption (said o x)) (map option_from_row (db 13))
      shorts = each (λ x. wanted o x ≡ true → IsShortOption (said o x)) still_short (map option_from_row (db 13))

      abbrev change_task : Task
      change_task = record { limit = None; keys = Enforced; schema = archive_schema; table = option_table; params = option_cells o }

      refer_changed : (w : Written) → Updates change_task (changing o) (option_cells o) db (Ok w) → Refers All archive_schema w.trees
      refer_changed w made =
          let left = updates_leave option_table option_cells option_from_row same_option_key IsShortOption option_list_is_there option_facts db obeys k.options k.options_distinct
          of_list changed_cells (option_cells o) (wanted o) (is_of_list o.list (Int (merge_flag o.merge) ∷ [])) (alike o.list) (change_typed o)
          (said o) (keeps o) (λ x. refl) shorts numbers (λ n x found h. option_checked db n (said o x)) (edits o db) (they_refer db (obeys.rules ForeignKey)).options w made in
          after w.trees left.0 left.1.rows_are left.2 left.1.others

      pub never_changed : (stop : Option Error) → ¬ Does None at_once (option_cells o) (over archive_schema db) change_text None (Update 6 (changing o)) (Err stop)
      never_changed stop h =
          never_ends change_task (Updates change_task (changing o) (option_cells o) db)
          (never_updates option_table option_cells option_from_row same_option_key IsShortOption option_list_is_there option_facts db obeys k.options k.options_distinct
          of_list changed_cells (option_cells o) (wanted o) (is_of_list o.list (Int (merge_flag o.merge) ∷ [])) (alike o.list) (change_typed o)
          (said o) (keeps o) (λ x. refl) shorts numbers (λ n x found h. option_checked db n (said o x)) (edits o db)) refer_changed stop h

    -- an option that comes
    module _ (number : HasFreeNumber (db 13)) (named : option_list_is_there db o ≡ true) (new : list_any (same_option_key o) (map option_from_row (db 13)) ≡ false) where
      abbrev n : ℤ
      n = next_rowid (db 13)

      abbrev add_task : Task
      add_task = record { limit = None; keys = Enforced; schema = archive_schema; table = option_table; params = option_cells o }

      refer_added : (w : Written) → Inserts add_task (Values new_cells 3) db (Ok w) → Refers All archive_schema w.trees
      refer_added w made =
          let left = inserts_leave option_table option_cells option_from_row same_option_key IsShortOption option_list_is_there option_facts db obeys k.options k.options_distinct
          n o (inl refl) short number (option_checked db n o) new (option_cells o) new_cells 3 (add_typed o) (put_in db o) w made in
          after w.trees (put_row (Int n ∷ option_cells o) (db 13)) left.0.rows_are
          (refer_more option_table option_cells option_from_row same_option_key IsShortOption option_list_is_there option_facts db obeys
          k.options k.options_distinct n o (inl refl) short number (option_checked db n o) new (they_refer db (obeys.rules ForeignKey)).options named) left.0.others

      pub never_added : (stop : Option Error) → ¬ Does None at_once (option_cells o) (over archive_schema db) add_text None (Insert 6 (Values new_cells 3)) (Err stop)
      never_added stop h =
          never_ends add_task (Inserts add_task (Values new_cells 3) db)
          (never_inserts option_table option_cells option_from_row same_option_key IsShortOption option_list_is_there option_facts db obeys k.options k.options_distinct
          n o (inl refl) short number (option_checked db n o) new (option_cells o) new_cells 3 (add_typed o) (put_in db o)) refer_added stop h

-- ---- what they leave

module _ (db : Trees) (k : AreArchiveTables db) (o : ListOption) where
  abbrev with_options : List ListOption → Archive
  with_options options = record (archive_in_trees db) { options = options }

  of_table : (after : Trees) (options : List ListOption) (news : List ℤ) → Holds option_table option_cells option_from_row db after options news → HaveDistinctKeys same_option_key options
      → Refers All archive_schema after → ((more : ℕ) → suc more < 2 ^ 63 → LeaveNumbers (suc more) (db 13) → LeaveNumbers more (after 13))
      → Leaves 13 (with_options options) db (over archive_schema after)
  of_table after options news it distinct refers numbers =
      let all = options_change db after k (same_but 13 db after it.others) (after 13) refl it.holds (subst (HaveDistinctKeys same_option_key) (sym it.records_are) distinct) in
      leaves_of option_table option_cells option_from_row db (λ e. omega (arith, e)) after options news it refers numbers (with_options options) (all.0, all.1 ∙ ap with_options it.records_are)

  abbrev changed : List ListOption
  changed = map (λ old. if wanted o old then said o old else old) (map option_from_row (db 13))

  change_leaves : (tally : Tally) (next : Database) → Does None at_once (option_cells o) (over archive_schema db) change_text None (Update 6 (changing o)) (Ok (tally, next))
      → Leaves 13 (with_options changed) db next
  change_leaves tally next h =
      let end = concluded option_table (option_cells o) (Updates (task_on option_table (option_cells o)) (changing o) (option_cells o) db) tally next h in
      let it = updates_hold option_table option_cells option_from_row same_option_key option_facts.back (λ trees. refl) db k.options k.options_distinct
      of_list changed_cells (option_cells o) (wanted o) (is_of_list o.list (Int (merge_flag o.merge) ∷ [])) (alike o.list) (said o) (edits o db) end.0 end.1 in
      subst (Leaves 13 (with_options changed) db) (sym end.2)
      (of_table end.0.trees changed [] it (apart_mapped same_option_key (λ old. if wanted o old then said o old else old) (keeps o) (map option_from_row (db 13)) k.options_distinct) end.3
      (kept_numbers option_table option_cells option_from_row db end.0.trees changed it))

  abbrev added : List ListOption
  added = map option_from_row (db 13) ++ o ∷ []

  add_leaves : list_any (same_option_key o) (map option_from_row (db 13)) ≡ false → (tally : Tally) (next : Database)
      → Does None at_once (option_cells o) (over archive_schema db) add_text None (Insert 6 (Values new_cells 3)) (Ok (tally, next)) → Leaves 13 (with_options added) db next
  add_leaves new tally next h =
      let end = concluded option_table (option_cells o) (Inserts (task_on option_table (option_cells o)) (Values new_cells 3) db) tally next h in
      let it = inserts_hold option_table option_cells option_from_row option_facts.back db k.options o (option_cells o) new_cells 3 (put_in db o) end.0 end.1 in
      subst (Leaves 13 (with_options added) db) (sym end.2)
      (of_table end.0.trees added (next_rowid (db 13) ∷ []) it (apart_more same_option_key (map option_from_row (db 13)) o option_facts.flips new k.options_distinct) end.3
      (added_numbers option_table option_cells option_from_row db end.0.trees added it))

module _ (db : Database) (sound : IsSoundArchive db) where
  here : (st : Statement) → IsStatementRefused st db → IsStatementRefused st (over archive_schema db.trees)
  here st it = subst (λ s. IsStatementRefused st (over s db.trees)) sound.schema it

  pub never_option_changed : (o : ListOption) → IsShortOption o → HaveShortNumbers (db.trees 13) → ¬ IsStatementRefused (update_option_statement o) db
  never_option_changed o short numbers refused =
      let it = here (update_option_statement o) refused in
      never_changed db.trees sound.tables sound.obeys o short numbers it.0 (change_may db.trees o (Err it.0) it.1)

  pub never_option_added : (o : ListOption) → IsShortOption o → HasFreeNumber (db.trees 13) → option_list_is_there db.trees o ≡ true
      → list_any (same_option_key o) (map option_from_row (db.trees 13)) ≡ false → ¬ IsStatementRefused (insert_option_statement o) db
  never_option_added o short number named new refused =
      let it = here (insert_option_statement o) refused in
      never_added db.trees sound.tables sound.obeys o short number named new it.0 (add_may db.trees o (Err it.0) it.1)

  pub option_changed : (o : ListOption) (next : Database) → StatementExecutesTo (update_option_statement o) db next
      → Leaves 13 (record (archive_in_trees db.trees) { options = map (with_merge_setting o.list o.merge) (map option_from_row (db.trees 13)) }) db.trees next
  option_changed o next executes =
      let it = subst (λ s. StatementExecutesTo (update_option_statement o) (over s db.trees) next) sound.schema executes in
      change_leaves db.trees sound.tables o it.0 next (change_may db.trees o (Ok (it.0, next)) it.1)

  pub option_added : (o : ListOption) (next : Database) → list_any (same_option_key o) (map option_from_row (db.trees 13)) ≡ false → StatementExecutesTo (insert_option_statement o) db next
      → Leaves 13 (record (archive_in_trees db.trees) { options = map option_from_row (db.trees 13) ++ o ∷ [] }) db.trees next
  option_added o next new executes =
      let it = subst (λ s. StatementExecutesTo (insert_option_statement o) (over s db.trees) next) sound.schema executes in
      add_leaves db.trees sound.tables o new it.0 next (add_may db.trees o (Ok (it.0, next)) it.1)
