-- SQL refuses no list that comes, and leaves an archive with it.
use Rattle.std.proofs.Common.{◌≡◌, inl, arith, ◌++◌, ℕ, ℤ, List, [], ◌∷◌, map, Ok, Err, Result, refl, sym, ap, subst, ◌∙◌, false, true, None, Option}
use Rattle.std.specs.List.{list_any}
use Rattle.sqlite.specs.declared.error.Error.{Error}
use Rattle.sqlite.specs.declared.types.Value.TheVariants.{Null, Int}
use Rattle.sqlite.specs.Command.TheVariants.{Insert}
use Rattle.sqlite.specs.Does.{Tally, Does}
use Rattle.sqlite.specs.Edit.{edit_of, next_rowid}
use Rattle.sqlite.specs.Effect.{Database}
use Rattle.sqlite.specs.Listing.{understood}
use Rattle.sqlite.specs.Order.{Row}
use Rattle.sqlite.specs.Rowids.TheVariants.{Chosen}
use Rattle.sqlite.specs.Rows.{Task, Written, Inserts}
use Rattle.sqlite.specs.Source.TheVariants.{Values}
use Rattle.sqlite.specs.Term.{Term, lit, col}
use Rattle.sqlite.specs.Tree.{Trees, put_row}
use Rattle.sqlite_tied.specs.Compute.{everything}
use Rattle.sqlite_typing.specs.Types.{accepts_terms}
use Rattle.sqlite_schema.specs.declared.schema.Constraint.TheVariants.{ForeignKey, Unique}
use Rattle.sqlite_schema.specs.declared.schema.Keys.TheVariants.{Enforced}
use Rattle.sqlite_schema.specs.declared.schema.Among.TheVariants.{All}
use Rattle.sqlite_schema.specs.Rules.{Obeys, Refers}
use Rattle.archive_tables.proofs.CreateLemmas.{over, at_once}
use Rattle.archive_tables.proofs.RunLemmas.{cast_null}
use Rattle.archive_tables.specs.Schema.{archive_schema, list_table}
use Rattle.archive_tables.specs.Statements.{Statement, StatementMayEndIn, StatementExecutesTo, IsStatementRefused, insert_list_statement}
use Rattle.archive_model.specs.Records.{Archive}
use Rattle.archive_tables.specs.Tables.{AreArchiveTables, archive_in_trees, list_cells, list_from_row}
use Rattle.archive_tables.proofs.ListLemmas.{add_text}
use Rattle.archive_tables.proofs.TableLemmas.{SameBut, same_but, lists_change}
use Rattle.archive_sound.specs.Room.{IsSoundArchive, HasFreeNumber}
use Rattle.archive_sound.proofs.ListTable.{list_facts, IsShortName, names_none, same_name, lists_distinct}
use Rattle.archive_sound.proofs.MadeLemmas.{task_on, concluded, Holds, added_numbers, leaves_of, inserts_hold}
use Rattle.archive_sound.proofs.NumberLemmas.{Leaves}
use Rattle.archive_sound.proofs.ReferLemmas.{Grows, grows_last, AllRefer, they_refer, refers, lists_after}
use Rattle.archive_sound.proofs.TableLemmas.{never_inserts, inserts_leave, added_last, never_ends}

abbrev new_cells : List Term
new_cells = lit Null ∷ col 0 0 ∷ []

add_may : (trees : Trees) (name : List ℕ) (out : Result (Tally × Database) (Option Error)) → StatementMayEndIn (insert_list_statement name) (over archive_schema trees) out
    → Does None at_once (list_cells name) (over archive_schema trees) add_text None (Insert 1 (Values new_cells 2)) out
unfolding understood everything
add_may trees name out h = h

add_typed : (name : List ℕ) → accepts_terms new_cells (list_cells name) ≡ true
unfolding everything
add_typed name = refl

put_in : (db : Trees) (name : List ℕ) (given : List Row) → given ≡ (Null ∷ list_cells name) ∷ []
    → edit_of db list_table [] Chosen 0 given ≡ record { table = list_table; gone = []; news = (Int (next_rowid (db 1)) ∷ list_cells name) ∷ [] }
put_in db name given from = rw (from, cast_null)

module _ (db : Trees) (k : AreArchiveTables db) (obeys : Obeys archive_schema db) (name : List ℕ) (short : IsShortName name) (number : HasFreeNumber (db 1))
    (new : list_any (same_name name) (map list_from_row (db 1)) ≡ false) where
  abbrev n : ℤ
  n = next_rowid (db 1)

  abbrev add_task : Task
  add_task = record { limit = None; keys = Enforced; schema = archive_schema; table = list_table; params = list_cells name }

  -- what the rows are then
  record Added (next : Trees) : Type 0 where
    rows_are : next 1 ≡ put_row (Int n ∷ list_cells name) (db 1)
    last : next 1 ≡ db 1 ++ (Int n ∷ list_cells name) ∷ []
    same : SameBut 1 db next

  added : (w : Written) → Inserts add_task (Values new_cells 2) db (Ok w) → Added w.trees
  added w made =
      let distinct = lists_distinct db (obeys.rules Unique) k.lists in
      let left = inserts_leave list_table list_cells list_from_row same_name IsShortName names_none list_facts db obeys k.lists distinct
      n name (inl refl) short number refl new (list_cells name) new_cells 2 (add_typed name) (put_in db name) w made in
      let end = added_last list_table list_cells list_from_row same_name IsShortName names_none list_facts db obeys k.lists distinct n name (inl refl) short number refl new in
      record { rows_are = left.0.rows_are; last = left.0.rows_are ∙ end; same = same_but 1 db w.trees left.0.others }

  all_refer : (next : Trees) → Added next → AllRefer next
  all_refer next it = lists_after db next (they_refer db (obeys.rules ForeignKey)) it.same (subst (Grows (db 1)) (sym it.last) (grows_last (db 1) (Int n ∷ list_cells name)))

  pub never_added : (stop : Option Error) → ¬ Does None at_once (list_cells name) (over archive_schema db) add_text None (Insert 1 (Values new_cells 2)) (Err stop)
  never_added stop h =
      never_ends add_task (Inserts add_task (Values new_cells 2) db)
      (never_inserts list_table list_cells list_from_row same_name IsShortName names_none list_facts db obeys k.lists (lists_distinct db (obeys.rules Unique) k.lists)
      n name (inl refl) short number refl new (list_cells name) new_cells 2 (add_typed name) (put_in db name)) (λ w made. refers w.trees (all_refer w.trees (added w made))) stop h

-- ---- what it leaves

module _ (db : Trees) (k : AreArchiveTables db) (name : List ℕ) where
  abbrev listed : Archive
  listed = record (archive_in_trees db) { lists = map list_from_row (db 1) ++ name ∷ [] }

  of_table : (after : Trees) → Holds list_table list_cells list_from_row db after (map list_from_row (db 1) ++ name ∷ []) (next_rowid (db 1) ∷ []) → Refers All archive_schema after
      → Leaves 1 listed db (over archive_schema after)
  of_table after it refers =
      let all = lists_change db after k (same_but 1 db after it.others) (after 1) refl it.holds in
      leaves_of list_table list_cells list_from_row db (λ e. omega (arith, e)) after (map list_from_row (db 1) ++ name ∷ []) (next_rowid (db 1) ∷ []) it refers
      (added_numbers list_table list_cells list_from_row db after (map list_from_row (db 1) ++ name ∷ []) it)
      listed (all.0, all.1 ∙ ap (λ l. record (archive_in_trees db) { lists = l }) it.records_are)

  -- the archive with a list more, and its other tables are as they were
  leaves : (tally : Tally) (next : Database) → Does None at_once (list_cells name) (over archive_schema db) add_text None (Insert 1 (Values new_cells 2)) (Ok (tally, next)) → Leaves 1 listed db next
  leaves tally next h =
      let end = concluded list_table (list_cells name) (Inserts (task_on list_table (list_cells name)) (Values new_cells 2) db) tally next h in
      let it = inserts_hold list_table list_cells list_from_row (λ m r. refl) db k.lists name (list_cells name) new_cells 2 (put_in db name) end.0 end.1 in
      subst (Leaves 1 listed db) (sym end.2) (of_table end.0.trees it end.3)

module _ (db : Database) (sound : IsSoundArchive db) where
  here : (st : Statement) → IsStatementRefused st db → IsStatementRefused st (over archive_schema db.trees)
  here st it = subst (λ s. IsStatementRefused st (over s db.trees)) sound.schema it

  pub never_list_added : (name : List ℕ) → IsShortName name → HasFreeNumber (db.trees 1) → list_any (same_name name) (map list_from_row (db.trees 1)) ≡ false
      → ¬ IsStatementRefused (insert_list_statement name) db
  never_list_added name short number new refused =
      let it = here (insert_list_statement name) refused in
      never_added db.trees sound.tables sound.obeys name short number new it.0 (add_may db.trees name (Err it.0) it.1)

  pub list_added : (name : List ℕ) (next : Database) → StatementExecutesTo (insert_list_statement name) db next
      → Leaves 1 (record (archive_in_trees db.trees) { lists = map list_from_row (db.trees 1) ++ name ∷ [] }) db.trees next
  list_added name next executes =
      let it = subst (λ s. StatementExecutesTo (insert_list_statement name) (over s db.trees) next) sound.schema executes in
      leaves db.trees sound.tables name it.0 next (add_may db.trees name (Ok (it.0, next)) it.1)
