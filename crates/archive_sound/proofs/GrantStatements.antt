-- SQL refuses no grant: not one whose days change, not one that goes, not one that comes.
use Rattle.std.proofs.Common.{◌≡◌, ◌≢◌, ◌<◌, ◌^◌, inl, suc, ℕ, ℤ, pos, negsuc, ◌+◌, ◌≤ℤ◌, ◌≤◌, List, [], ◌∷◌, ◌++◌, map, filter, length, Ok, Err, Result, refl, sym}
use Rattle.std.proofs.Common.{ap, ap₂, subst, ◌∙◌, false, true, Bool, cond, None, Option, arith}
use Rattle.std.specs.Prelude.{◌&&◌, not, bytes_eq, if◌then◌else◌}
use Rattle.std.specs.List.{AllByRecursion, list_any}
use Rattle.sqlite.specs.declared.error.Error.{Error}
use Rattle.sqlite.specs.declared.types.Value.TheVariants.{Null, Int, Text}
use Rattle.sqlite.specs.Collation.TheVariants.{Binary}
use Rattle.sqlite.specs.Command.TheVariants.{Insert, Update, Delete}
use Rattle.sqlite.specs.Does.{Tally, Does}
use Rattle.sqlite.specs.Edit.{edit_of, next_rowid}
use Rattle.sqlite.specs.Effect.{Database}
use Rattle.sqlite.specs.Listing.{understood}
use Rattle.sqlite.specs.Order.{Row}
use Rattle.sqlite.specs.Query.{output}
use Rattle.sqlite.specs.Rowids.TheVariants.{Given, Chosen}
use Rattle.sqlite_schema.specs.declared.program.Program.{Program}
use Rattle.sqlite.specs.Rows.{Task, Written, Updates, Deletes, Inserts}
use Rattle.sqlite.specs.Source.TheVariants.{Values}
use Rattle.sqlite.specs.Table.{Table}
use Rattle.sqlite.specs.Term.{Term, lit, col, op2}
use Rattle.sqlite.specs.Tree.{Trees, put_row}
use Rattle.sqlite_sql.specs.declared.ops.BinaryOp.TheVariants.{Compare}
use Rattle.sqlite_sql.specs.declared.ops.CompareOp.TheVariants.{Eq}
use Rattle.sqlite_tied.specs.Compute.{everything}
use Rattle.sqlite_typing.specs.Types.{accepts_program, accepts_terms}
use Rattle.sqlite_rules.specs.Calls.{ids_of}
use Rattle.sqlite_schema.specs.declared.schema.Constraint.TheVariants.{Check, ForeignKey}
use Rattle.sqlite_schema.specs.declared.schema.Keys.TheVariants.{Enforced}
use Rattle.sqlite_schema.specs.declared.schema.Among.TheVariants.{All}
use Rattle.sqlite_schema.specs.Rules.{Obeys, passes, Refers}
use Rattle.archive_tables.proofs.CreateLemmas.{over, at_once}
use Rattle.archive_tables.proofs.RunLemmas.{cast_null, cast_int}
use Rattle.archive_tables.proofs.ChangeLemmas.{apart_mapped, apart_filtered, apart_more}
use Rattle.archive_tables.proofs.TableLemmas.{same_but, grants_change}
use Rattle.std.specs.Ordering.{int_eq}
use Rattle.std.proofs.lemmas.Bool.Decides.{Decides-int_eq}
use Rattle.archive_model.specs.Records.{Grant, Archive}
use Rattle.archive_model.specs.Machine.{with_grant_days_of}
use Rattle.archive_model.specs.Questions.{is_grant_of_rank}
use Rattle.archive_tables.specs.Schema.{archive_schema, grant_table}
use Rattle.archive_tables.specs.Statements.{Statement, StatementMayEndIn, StatementExecutesTo, IsStatementRefused, insert_grant_statement, update_grant_statement, delete_grant_statement}
use Rattle.archive_tables.specs.Tables.{AreArchiveTables, HaveDistinctKeys, archive_in_trees, NumberedRecord, numbered_row, grant_cells, grant_from_row, same_grant_key}
use Rattle.archive_tables.proofs.GrantLemmas.{add_text, change_text, remove_text}
use Rattle.archive_tables.proofs.SelectLemmas.{plain_query, env_of, passes as passes_tests, alone, text_is, int_is, equal_words}
use Rattle.archive_sound.specs.ManyCommands.{LeaveNumbers}
use Rattle.archive_sound.specs.Room.{IsSoundArchive, HaveShortNumbers, HasFreeNumber, IsDay, IsRank, longest_row}
use Rattle.archive_sound.proofs.GrantTable.{grant_checks, grant_facts, IsShortGrant, grant_names_are_there}
use Rattle.archive_sound.proofs.ListLemmas.{each}
use Rattle.archive_sound.proofs.MadeLemmas.{task_on, concluded, Holds, kept_numbers, added_numbers, leaves_of, updates_hold, deletes_hold, inserts_hold}
use Rattle.archive_sound.proofs.NumberLemmas.{Leaves}
use Rattle.archive_sound.proofs.ReferLemmas.{Refer, they_refer, refers, grants_after}
use Rattle.archive_sound.proofs.TableLemmas.{never_updates, updates_leave, never_deletes, deletes_leave, never_inserts, inserts_leave, refer_more, never_ends}
use Rattle.archive_sound.proofs.ValueLemmas.{parts, both, within_range, ordered}

-- ---- WHERE

abbrev at_key : List Term
at_key = op2 (Compare Eq Binary) (col 1 1) (col 0 0) ∷ op2 (Compare Eq Binary) (col 1 2) (col 0 1) ∷ op2 (Compare Eq Binary) (col 1 3) (col 0 2) ∷ []

has_key : (person list : List ℕ) (rank : ℤ) (more : Row) (n : ℤ) (g : Grant)
    → passes_tests at_key (Text person ∷ Text list ∷ Int rank ∷ more) (Int n ∷ grant_cells g) ≡ is_grant_of_rank person list rank g
has_key person list rank more n g = ap₂ ◌&&◌ (text_is g.person person) (ap₂ ◌&&◌ (text_is g.list list) (alone _ ∙ int_is g.rank rank))

alike : (person list : List ℕ) (rank : ℤ) (a b : Grant) → is_grant_of_rank person list rank a ≡ true → same_grant_key a b ≡ is_grant_of_rank person list rank b
alike person list rank a b found =
    let first = parts (bytes_eq a.person person) _ found in
    let rest = parts (bytes_eq a.list list) (int_eq a.rank rank) first.1 in
    ap₂ ◌&&◌ (ap (bytes_eq b.person) (equal_words a.person person first.0))
    (ap₂ ◌&&◌ (ap (bytes_eq b.list) (equal_words a.list list rest.0)) (ap (int_eq b.rank) ((Decides-int_eq a.rank rank).0 rest.1)))

-- ---- the three texts

abbrev changed_cells : List Term
changed_cells = col 1 0 ∷ col 1 0 ∷ col 1 1 ∷ col 1 2 ∷ col 1 3 ∷ col 0 3 ∷ col 0 4 ∷ []

change_may : (trees : Trees) (g : Grant) (out : Result (Tally × Database) (Option Error)) → StatementMayEndIn (update_grant_statement g) (over archive_schema trees) out
    → Does None at_once (grant_cells g) (over archive_schema trees) change_text None (Update 3 (record { lets = []; body = plain_query 6 at_key changed_cells [] })) out
unfolding understood everything
change_may trees g out h = h

change_typed : (g : Grant) → accepts_program archive_schema [] (plain_query 6 at_key changed_cells []) (grant_cells g) ≡ true
unfolding everything
change_typed g = refl

abbrev number_cell : List Term
number_cell = col 1 0 ∷ []

remove_may : (trees : Trees) (person list : List ℕ) (rank : ℤ) (out : Result (Tally × Database) (Option Error))
    → StatementMayEndIn (delete_grant_statement person list rank) (over archive_schema trees) out
    → Does None at_once (Text person ∷ Text list ∷ Int rank ∷ []) (over archive_schema trees) remove_text None (Delete 3 (record { lets = []; body = plain_query 6 at_key number_cell [] })) out
unfolding understood everything
remove_may trees person list rank out h = h

remove_typed : (person list : List ℕ) (rank : ℤ) → accepts_program archive_schema [] (plain_query 6 at_key number_cell []) (Text person ∷ Text list ∷ Int rank ∷ []) ≡ true
unfolding everything
remove_typed person list rank = refl

abbrev new_cells : List Term
new_cells = lit Null ∷ col 0 0 ∷ col 0 1 ∷ col 0 2 ∷ col 0 3 ∷ col 0 4 ∷ []

add_may : (trees : Trees) (g : Grant) (out : Result (Tally × Database) (Option Error)) → StatementMayEndIn (insert_grant_statement g) (over archive_schema trees) out
    → Does None at_once (grant_cells g) (over archive_schema trees) add_text None (Insert 3 (Values new_cells 6)) out
unfolding understood everything
add_may trees g out h = h

add_typed : (g : Grant) → accepts_terms new_cells (grant_cells g) ≡ true
unfolding everything
add_typed g = refl

put_in : (db : Trees) (g : Grant) (given : List Row) → given ≡ (Null ∷ grant_cells g) ∷ []
    → edit_of db grant_table [] Chosen 0 given ≡ record { table = grant_table; gone = []; news = (Int (next_rowid (db 6)) ∷ grant_cells g) ∷ [] }
put_in db g given from = rw (from, cast_null, cast_int g.rank, cast_int g.from_day, cast_int g.until_day)

-- ---- other days of a grant

module _ (g : Grant) where
  abbrev wanted : Grant → Bool
  wanted = is_grant_of_rank g.person g.list g.rank

  abbrev days : Grant → Grant
  days old = record old { from_day = g.from_day; until_day = g.until_day }

  keeps : (a b : Grant) → same_grant_key (if wanted a then days a else a) (if wanted b then days b else b) ≡ same_grant_key a b
  keeps a b = ap₂ ◌&&◌ (ap₂ bytes_eq (same_person b) (same_person a)) (ap₂ ◌&&◌ (ap₂ bytes_eq (same_list b) (same_list a)) (ap₂ int_eq (same_rank b) (same_rank a)))
    where
      same_person : (x : Grant) → (if wanted x then days x else x).person ≡ x.person
      same_person x = elim (wanted x) as (λ c. (cond c (days x) x).person ≡ x.person) [ true ↦ refl | false ↦ refl ]

      same_list : (x : Grant) → (if wanted x then days x else x).list ≡ x.list
      same_list x = elim (wanted x) as (λ c. (cond c (days x) x).list ≡ x.list) [ true ↦ refl | false ↦ refl ]

      same_rank : (x : Grant) → (if wanted x then days x else x).rank ≡ x.rank
      same_rank x = elim (wanted x) as (λ c. (cond c (days x) x).rank ≡ x.rank) [ true ↦ refl | false ↦ refl ]

  edits : (db : Trees) (r : NumberedRecord Grant) (given : List Row) → given ≡ (output (plain_query 6 at_key changed_cells []) (env_of (grant_cells g) (numbered_row grant_cells r))).1 ∷ []
      → edit_of db grant_table (ids_of given) Given 1 given
      ≡ record { table = grant_table; gone = r.number ∷ []; news = numbered_row grant_cells (record r { content = days r.content }) ∷ [] }
  edits db r given from = rw (from, cast_int r.number, cast_int r.content.rank, cast_int g.from_day, cast_int g.until_day)

  abbrev changing : Program
  changing = record { lets = []; body = plain_query 6 at_key changed_cells [] }

-- ---- a grant that goes

module _ (person list : List ℕ) (rank : ℤ) where
  abbrev key_params : Row
  key_params = Text person ∷ Text list ∷ Int rank ∷ []

  gone : (db : Trees) (r : NumberedRecord Grant) (given : List Row) → given ≡ (output (plain_query 6 at_key number_cell []) (env_of key_params (numbered_row grant_cells r))).1 ∷ []
      → edit_of db grant_table (ids_of given) Given 0 [] ≡ record { table = grant_table; gone = r.number ∷ []; news = [] }
  gone db r given from = rw (from)

abbrev removing : Program
removing = record { lets = []; body = plain_query 6 at_key number_cell [] }

-- ---- the statements

module _ (db : Trees) (k : AreArchiveTables db) (obeys : Obeys archive_schema db) where
  after : (next : Trees) (rows : List Row) → next 6 ≡ rows → Refer db grant_table rows → AllByRecursion (λ (t : Table). t.tree ≢ 6 → next t.tree ≡ db t.tree) archive_schema.tables
      → Refers All archive_schema next
  after next rows are refer same = refers next (grants_after db next (they_refer db (obeys.rules ForeignKey)) (same_but 6 db next same) (subst (Refer db grant_table) (sym are) refer))

  -- a grant with other days
  module _ (g : Grant) (first : IsDay g.from_day) (last : IsDay g.until_day) (rises : g.from_day ≤ℤ g.until_day) (short : IsShortGrant g) (numbers : HaveShortNumbers (db 6)) where
    still_short : (x : Grant) → wanted g x ≡ true → IsShortGrant (days g x)
    still_short x found =
        let names = parts _ _ found in
        subst (λ l. length x.person + length l ≤ longest_row) (sym (equal_words x.list g.list (parts _ _ names.1).0))
        (subst (λ p. length p + length g.list ≤ longest_row) (sym (equal_words x.person g.person names.0)) short)

    checked : (n : ℤ) (x : Grant) → wanted g x ≡ true → passes Check archive_schema db grant_table (Int n ∷ grant_cells x) ≡ true
        → passes Check archive_schema db grant_table (Int n ∷ grant_cells (days g x)) ≡ true
    checked n x found h =
        grant_checks db n (days g x) ∙ both _ _ (parts _ _ (sym (grant_checks db n x) ∙ h)).0 (both _ _ (within_range (negsuc 25566) (pos 2932531) g.from_day first.at_least first.at_most)
        (both _ _ (within_range (negsuc 25566) (pos 2932531) g.until_day last.at_least last.at_most) (both _ _ (ordered g.from_day g.until_day rises) refl)))

    abbrev change_task : Task
    change_task = record { limit = None; keys = Enforced; schema = archive_schema; table = grant_table; params = grant_cells g }

    shorts : AllByRecursion (λ x. wanted g x ≡ true → IsShortGrant (days g x)) (map grant_from_row (db 6))
    shorts = each (λ x. wanted g x ≡ true → IsShortGrant (days g x)) still_short (map grant_from_row (db 6))

    refer_changed : (w : Written) → Updates change_task (changing g) (grant_cells g) db (Ok w) → Refers All archive_schema w.trees
    refer_changed w made =
        let left = updates_leave grant_table grant_cells grant_from_row same_grant_key IsShortGrant grant_names_are_there grant_facts db obeys k.grants k.grants_distinct
        at_key changed_cells (grant_cells g) (wanted g) (has_key g.person g.list g.rank (Int g.from_day ∷ Int g.until_day ∷ [])) (alike g.person g.list g.rank) (change_typed g)
        (days g) (keeps g) (λ x. refl) shorts numbers checked (edits g db) (they_refer db (obeys.rules ForeignKey)).grants w made in
        after w.trees left.0 left.1.rows_are left.2 left.1.others

    pub never_changed : (stop : Option Error) → ¬ Does None at_once (grant_cells g) (over archive_schema db) change_text None (Update 3 (changing g)) (Err stop)
    never_changed stop h =
        never_ends change_task (Updates change_task (changing g) (grant_cells g) db)
        (never_updates grant_table grant_cells grant_from_row same_grant_key IsShortGrant grant_names_are_there grant_facts db obeys k.grants k.grants_distinct
        at_key changed_cells (grant_cells g) (wanted g) (has_key g.person g.list g.rank (Int g.from_day ∷ Int g.until_day ∷ [])) (alike g.person g.list g.rank) (change_typed g)
        (days g) (keeps g) (λ x. refl) shorts numbers checked (edits g db)) refer_changed stop h

  -- a grant that goes
  module _ (person list : List ℕ) (rank : ℤ) where
    abbrev remove_task : Task
    remove_task = record { limit = None; keys = Enforced; schema = archive_schema; table = grant_table; params = key_params person list rank }

    refer_left : (w : Written) → Deletes remove_task removing db (Ok w) → Refers All archive_schema w.trees
    refer_left w made =
        let left = deletes_leave grant_table grant_cells grant_from_row same_grant_key IsShortGrant grant_names_are_there grant_facts db obeys k.grants k.grants_distinct
        at_key number_cell (key_params person list rank) (is_grant_of_rank person list rank) (has_key person list rank []) (alike person list rank)
        (remove_typed person list rank) (gone person list rank db) (they_refer db (obeys.rules ForeignKey)).grants w made in
        after w.trees left.0 left.1.rows_are left.2 left.1.others

    pub never_removed : (stop : Option Error) → ¬ Does None at_once (key_params person list rank) (over archive_schema db) remove_text None (Delete 3 removing) (Err stop)
    never_removed stop h =
        never_ends remove_task (Deletes remove_task removing db)
        (never_deletes grant_table grant_cells grant_from_row same_grant_key IsShortGrant grant_names_are_there grant_facts db obeys k.grants k.grants_distinct
        at_key number_cell (key_params person list rank) (is_grant_of_rank person list rank) (has_key person list rank []) (alike person list rank)
        (remove_typed person list rank) (gone person list rank db)) refer_left stop h

  -- a grant that comes
  module _ (g : Grant) (rank : IsRank g.rank) (first : IsDay g.from_day) (last : IsDay g.until_day) (rises : g.from_day ≤ℤ g.until_day) (short : IsShortGrant g)
      (number : HasFreeNumber (db 6)) (named : grant_names_are_there db g ≡ true) (new : list_any (same_grant_key g) (map grant_from_row (db 6)) ≡ false) where
    abbrev n : ℤ
    n = next_rowid (db 6)

    all_checked : passes Check archive_schema db grant_table (Int n ∷ grant_cells g) ≡ true
    all_checked = grant_checks db n g ∙ both _ _ (within_range (pos 1) (pos 3) g.rank rank.at_least rank.at_most)
        (both _ _ (within_range (negsuc 25566) (pos 2932531) g.from_day first.at_least first.at_most)
        (both _ _ (within_range (negsuc 25566) (pos 2932531) g.until_day last.at_least last.at_most) (both _ _ (ordered g.from_day g.until_day rises) refl)))

    abbrev add_task : Task
    add_task = record { limit = None; keys = Enforced; schema = archive_schema; table = grant_table; params = grant_cells g }

    refer_added : (w : Written) → Inserts add_task (Values new_cells 6) db (Ok w) → Refers All archive_schema w.trees
    refer_added w made =
        let left = inserts_leave grant_table grant_cells grant_from_row same_grant_key IsShortGrant grant_names_are_there grant_facts db obeys k.grants k.grants_distinct
        n g (inl refl) short number all_checked new (grant_cells g) new_cells 6 (add_typed g) (put_in db g) w made in
        after w.trees (put_row (Int n ∷ grant_cells g) (db 6)) left.0.rows_are (refer_more grant_table grant_cells grant_from_row same_grant_key IsShortGrant grant_names_are_there grant_facts db obeys
        k.grants k.grants_distinct n g (inl refl) short number all_checked new (they_refer db (obeys.rules ForeignKey)).grants named) left.0.others

    pub never_added : (stop : Option Error) → ¬ Does None at_once (grant_cells g) (over archive_schema db) add_text None (Insert 3 (Values new_cells 6)) (Err stop)
    never_added stop h =
        never_ends add_task (Inserts add_task (Values new_cells 6) db)
        (never_inserts grant_table grant_cells grant_from_row same_grant_key IsShortGrant grant_names_are_there grant_facts db obeys k.grants k.grants_distinct
        n g (inl refl) short number all_checked new (grant_cells g) new_cells 6 (add_typed g) (put_in db g)) refer_added stop h

-- ---- what they leave

module _ (db : Trees) (k : AreArchiveTables db) where
  abbrev with_grants : List Grant → Archive
  with_grants grants = record (archive_in_trees db) { grants = grants }

  of_table : (after : Trees) (grants : List Grant) (news : List ℤ) → Holds grant_table grant_cells grant_from_row db after grants news → HaveDistinctKeys same_grant_key grants
      → Refers All archive_schema after → ((more : ℕ) → suc more < 2 ^ 63 → LeaveNumbers (suc more) (db 6) → LeaveNumbers more (after 6))
      → Leaves 6 (with_grants grants) db (over archive_schema after)
  of_table after grants news it distinct refers numbers =
      let all = grants_change db after k (same_but 6 db after it.others) (after 6) refl it.holds (subst (HaveDistinctKeys same_grant_key) (sym it.records_are) distinct) in
      leaves_of grant_table grant_cells grant_from_row db (λ e. omega (arith, e)) after grants news it refers numbers (with_grants grants) (all.0, all.1 ∙ ap with_grants it.records_are)

  module _ (g : Grant) where
    abbrev changed : List Grant
    changed = map (λ old. if wanted g old then days g old else old) (map grant_from_row (db 6))

    change_leaves : (tally : Tally) (next : Database) → Does None at_once (grant_cells g) (over archive_schema db) change_text None (Update 3 (changing g)) (Ok (tally, next))
        → Leaves 6 (with_grants changed) db next
    change_leaves tally next h =
        let end = concluded grant_table (grant_cells g) (Updates (task_on grant_table (grant_cells g)) (changing g) (grant_cells g) db) tally next h in
        let it = updates_hold grant_table grant_cells grant_from_row same_grant_key grant_facts.back (λ trees. refl) db k.grants k.grants_distinct
        at_key changed_cells (grant_cells g) (wanted g) (has_key g.person g.list g.rank (Int g.from_day ∷ Int g.until_day ∷ [])) (alike g.person g.list g.rank) (days g) (edits g db) end.0 end.1 in
        subst (Leaves 6 (with_grants changed) db) (sym end.2)
        (of_table end.0.trees changed [] it (apart_mapped same_grant_key (λ old. if wanted g old then days g old else old) (keeps g) (map grant_from_row (db 6)) k.grants_distinct) end.3
        (kept_numbers grant_table grant_cells grant_from_row db end.0.trees changed it))

    abbrev added : List Grant
    added = map grant_from_row (db 6) ++ g ∷ []

    add_leaves : list_any (same_grant_key g) (map grant_from_row (db 6)) ≡ false → (tally : Tally) (next : Database)
        → Does None at_once (grant_cells g) (over archive_schema db) add_text None (Insert 3 (Values new_cells 6)) (Ok (tally, next)) → Leaves 6 (with_grants added) db next
    add_leaves new tally next h =
        let end = concluded grant_table (grant_cells g) (Inserts (task_on grant_table (grant_cells g)) (Values new_cells 6) db) tally next h in
        let it = inserts_hold grant_table grant_cells grant_from_row grant_facts.back db k.grants g (grant_cells g) new_cells 6 (put_in db g) end.0 end.1 in
        subst (Leaves 6 (with_grants added) db) (sym end.2)
        (of_table end.0.trees added (next_rowid (db 6) ∷ []) it (apart_more same_grant_key (map grant_from_row (db 6)) g grant_facts.flips new k.grants_distinct) end.3
        (added_numbers grant_table grant_cells grant_from_row db end.0.trees added it))

  module _ (person list : List ℕ) (rank : ℤ) where
    abbrev left : List Grant
    left = filter (λ g. not (is_grant_of_rank person list rank g)) (map grant_from_row (db 6))

    remove_leaves : (tally : Tally) (next : Database) → Does None at_once (key_params person list rank) (over archive_schema db) remove_text None (Delete 3 removing) (Ok (tally, next))
        → Leaves 6 (with_grants left) db next
    remove_leaves tally next h =
        let end = concluded grant_table (key_params person list rank) (Deletes (task_on grant_table (key_params person list rank)) removing db) tally next h in
        let it = deletes_hold grant_table grant_cells grant_from_row same_grant_key grant_facts.back (λ trees. refl) db k.grants k.grants_distinct
        at_key number_cell (key_params person list rank) (is_grant_of_rank person list rank) (has_key person list rank []) (alike person list rank) (gone person list rank db) end.0 end.1 in
        subst (Leaves 6 (with_grants left) db) (sym end.2)
        (of_table end.0.trees left [] it (apart_filtered same_grant_key (λ g. not (is_grant_of_rank person list rank g)) (map grant_from_row (db 6)) k.grants_distinct) end.3
        (kept_numbers grant_table grant_cells grant_from_row db end.0.trees left it))

module _ (db : Database) (sound : IsSoundArchive db) where
  here : (st : Statement) → IsStatementRefused st db → IsStatementRefused st (over archive_schema db.trees)
  here st it = subst (λ s. IsStatementRefused st (over s db.trees)) sound.schema it

  pub never_grant_changed : (g : Grant) → IsDay g.from_day → IsDay g.until_day → g.from_day ≤ℤ g.until_day → IsShortGrant g → HaveShortNumbers (db.trees 6)
      → ¬ IsStatementRefused (update_grant_statement g) db
  never_grant_changed g first last rises short numbers refused =
      let it = here (update_grant_statement g) refused in
      never_changed db.trees sound.tables sound.obeys g first last rises short numbers it.0 (change_may db.trees g (Err it.0) it.1)

  pub never_grant_removed : (person list : List ℕ) (rank : ℤ) → ¬ IsStatementRefused (delete_grant_statement person list rank) db
  never_grant_removed person list rank refused =
      let it = here (delete_grant_statement person list rank) refused in
      never_removed db.trees sound.tables sound.obeys person list rank it.0 (remove_may db.trees person list rank (Err it.0) it.1)

  pub never_grant_added : (g : Grant) → IsRank g.rank → IsDay g.from_day → IsDay g.until_day → g.from_day ≤ℤ g.until_day → IsShortGrant g → HasFreeNumber (db.trees 6)
      → grant_names_are_there db.trees g ≡ true → list_any (same_grant_key g) (map grant_from_row (db.trees 6)) ≡ false → ¬ IsStatementRefused (insert_grant_statement g) db
  never_grant_added g rank first last rises short number named new refused =
      let it = here (insert_grant_statement g) refused in
      never_added db.trees sound.tables sound.obeys g rank first last rises short number named new it.0 (add_may db.trees g (Err it.0) it.1)

  pub grant_changed : (g : Grant) (next : Database) → StatementExecutesTo (update_grant_statement g) db next
      → Leaves 6 (record (archive_in_trees db.trees) { grants = map (with_grant_days_of g) (map grant_from_row (db.trees 6)) }) db.trees next
  grant_changed g next executes =
      let it = subst (λ s. StatementExecutesTo (update_grant_statement g) (over s db.trees) next) sound.schema executes in
      change_leaves db.trees sound.tables g it.0 next (change_may db.trees g (Ok (it.0, next)) it.1)

  pub grant_added : (g : Grant) (next : Database) → list_any (same_grant_key g) (map grant_from_row (db.trees 6)) ≡ false → StatementExecutesTo (insert_grant_statement g) db next
      → Leaves 6 (record (archive_in_trees db.trees) { grants = map grant_from_row (db.trees 6) ++ g ∷ [] }) db.trees next
  grant_added g next new executes =
      let it = subst (λ s. StatementExecutesTo (insert_grant_statement g) (over s db.trees) next) sound.schema executes in
      add_leaves db.trees sound.tables g new it.0 next (add_may db.trees g (Ok (it.0, next)) it.1)

  pub grant_removed : (person list : List ℕ) (rank : ℤ) (next : Database) → StatementExecutesTo (delete_grant_statement person list rank) db next
      → Leaves 6 (record (archive_in_trees db.trees) { grants = filter (λ g. not (is_grant_of_rank person list rank g)) (map grant_from_row (db.trees 6)) }) db.trees next
  grant_removed person list rank next executes =
      let it = subst (λ s. StatementExecutesTo (delete_grant_statement person list rank) (over s db.trees) next) sound.schema executes in
      remove_leaves db.trees sound.tables person list rank it.0 next (remove_may db.trees person list rank (Ok (it.0, next)) it.1)
