-- SQL refuses no person that comes.
use Rattle.std.proofs.Common.{◌≡◌, inl, ℤ, List, [], ◌∷◌, ◌++◌, map, Ok, Err, Result, refl, sym, ap, subst, ◌∙◌, false, true, None, Option, arith}
use Rattle.std.specs.List.{list_any}
use Rattle.sqlite.specs.declared.error.Error.{Error}
use Rattle.sqlite.specs.declared.types.Value.TheVariants.{Null, Int}
use Rattle.sqlite.specs.Command.TheVariants.{Insert}
use Rattle.sqlite.specs.Does.{Tally, Does}
use Rattle.sqlite.specs.Edit.{edit_of, next_rowid}
use Rattle.sqlite.specs.Effect.{Database}
use Rattle.sqlite.specs.Listing.{understood}
use Rattle.sqlite.specs.Order.{Row}
use Rattle.sqlite.specs.Rowids.TheVariants.{Chosen}
use Rattle.sqlite.specs.Rows.{Task, Written, Inserts}
use Rattle.sqlite.specs.Source.TheVariants.{Values}
use Rattle.sqlite.specs.Term.{Term, lit, col}
use Rattle.sqlite.specs.Tree.{Trees}
use Rattle.sqlite_tied.specs.Compute.{everything}
use Rattle.sqlite_typing.specs.Types.{accepts_terms}
use Rattle.sqlite_schema.specs.declared.schema.Constraint.TheVariants.{ForeignKey, Unique}
use Rattle.sqlite_schema.specs.declared.schema.Keys.TheVariants.{Enforced}
use Rattle.sqlite_schema.specs.declared.schema.Among.TheVariants.{All}
use Rattle.sqlite_schema.specs.Rules.{Obeys, Refers}
use Rattle.archive_tables.proofs.CreateLemmas.{over, at_once}
use Rattle.archive_tables.proofs.RunLemmas.{cast_null}
use Rattle.archive_tables.proofs.TableLemmas.{same_but, persons_change}
use Rattle.archive_model.specs.Records.{Person, Archive}
use Rattle.archive_tables.specs.Schema.{archive_schema, person_table}
use Rattle.archive_tables.specs.Statements.{Statement, StatementMayEndIn, StatementExecutesTo, IsStatementRefused, insert_person_statement}
use Rattle.archive_tables.specs.Tables.{AreArchiveTables, archive_in_trees, person_cells, person_from_row}
use Rattle.archive_tables.proofs.PersonLemmas.{add_text}
use Rattle.archive_sound.specs.Room.{IsSoundArchive, HasFreeNumber}
use Rattle.archive_sound.proofs.PersonTable.{person_facts, IsShortPerson, names_none, same_person, persons_distinct}
use Rattle.archive_sound.proofs.MadeLemmas.{task_on, concluded, Holds, added_numbers, leaves_of, inserts_hold}
use Rattle.archive_sound.proofs.NumberLemmas.{Leaves}
use Rattle.archive_sound.proofs.ReferLemmas.{Grows, grows_last, they_refer, refers, persons_after}
use Rattle.archive_sound.proofs.TableLemmas.{never_inserts, inserts_leave, added_last, never_ends}

abbrev new_cells : List Term
new_cells = lit Null ∷ col 0 0 ∷ col 0 1 ∷ []

add_may : (trees : Trees) (p : Person) (out : Result (Tally × Database) (Option Error)) → StatementMayEndIn (insert_person_statement p) (over archive_schema trees) out
    → Does None at_once (person_cells p) (over archive_schema trees) add_text None (Insert 2 (Values new_cells 3)) out
unfolding understood everything
add_may trees p out h = h

add_typed : (p : Person) → accepts_terms new_cells (person_cells p) ≡ true
unfolding everything
add_typed p = refl

put_in : (db : Trees) (p : Person) (given : List Row) → given ≡ (Null ∷ person_cells p) ∷ []
    → edit_of db person_table [] Chosen 0 given ≡ record { table = person_table; gone = []; news = (Int (next_rowid (db 3)) ∷ person_cells p) ∷ [] }
put_in db p given from = rw (from, cast_null)

module _ (db : Trees) (k : AreArchiveTables db) (obeys : Obeys archive_schema db) (p : Person) (short : IsShortPerson p) (number : HasFreeNumber (db 3))
    (new : list_any (same_person p) (map person_from_row (db 3)) ≡ false) where
  abbrev n : ℤ
  n = next_rowid (db 3)

  abbrev add_task : Task
  add_task = record { limit = None; keys = Enforced; schema = archive_schema; table = person_table; params = person_cells p }

  refer_added : (w : Written) → Inserts add_task (Values new_cells 3) db (Ok w) → Refers All archive_schema w.trees
  refer_added w made =
      let distinct = persons_distinct db (obeys.rules Unique) k.persons in
      let left = inserts_leave person_table person_cells person_from_row same_person IsShortPerson names_none person_facts db obeys k.persons distinct
      n p (inl refl) short number refl new (person_cells p) new_cells 3 (add_typed p) (put_in db p) w made in
      let last = added_last person_table person_cells person_from_row same_person IsShortPerson names_none person_facts db obeys k.persons distinct n p (inl refl) short number refl new in
      refers w.trees (persons_after db w.trees (they_refer db (obeys.rules ForeignKey)) (same_but 3 db w.trees left.0.others)
      (subst (Grows (db 3)) (sym (left.0.rows_are ∙ last)) (grows_last (db 3) (Int n ∷ person_cells p))))

  pub never_added : (stop : Option Error) → ¬ Does None at_once (person_cells p) (over archive_schema db) add_text None (Insert 2 (Values new_cells 3)) (Err stop)
  never_added stop h =
      never_ends add_task (Inserts add_task (Values new_cells 3) db)
      (never_inserts person_table person_cells person_from_row same_person IsShortPerson names_none person_facts db obeys k.persons (persons_distinct db (obeys.rules Unique) k.persons)
      n p (inl refl) short number refl new (person_cells p) new_cells 3 (add_typed p) (put_in db p)) refer_added stop h

-- ---- what it leaves

module _ (db : Trees) (k : AreArchiveTables db) (p : Person) where
  abbrev known : Archive
  known = record (archive_in_trees db) { persons = map person_from_row (db 3) ++ p ∷ [] }

  of_table : (after : Trees) → Holds person_table person_cells person_from_row db after (map person_from_row (db 3) ++ p ∷ []) (next_rowid (db 3) ∷ []) → Refers All archive_schema after
      → Leaves 3 known db (over archive_schema after)
  of_table after it refers =
      let all = persons_change db after k (same_but 3 db after it.others) (after 3) refl it.holds in
      leaves_of person_table person_cells person_from_row db (λ e. omega (arith, e)) after (map person_from_row (db 3) ++ p ∷ []) (next_rowid (db 3) ∷ []) it refers
      (added_numbers person_table person_cells person_from_row db after (map person_from_row (db 3) ++ p ∷ []) it)
      known (all.0, all.1 ∙ ap (λ l. record (archive_in_trees db) { persons = l }) it.records_are)

  leaves : (tally : Tally) (next : Database) → Does None at_once (person_cells p) (over archive_schema db) add_text None (Insert 2 (Values new_cells 3)) (Ok (tally, next)) → Leaves 3 known db next
  leaves tally next h =
      let end = concluded person_table (person_cells p) (Inserts (task_on person_table (person_cells p)) (Values new_cells 3) db) tally next h in
      let it = inserts_hold person_table person_cells person_from_row (λ m r. refl) db k.persons p (person_cells p) new_cells 3 (put_in db p) end.0 end.1 in
      subst (Leaves 3 known db) (sym end.2) (of_table end.0.trees it end.3)

module _ (db : Database) (sound : IsSoundArchive db) where
  here : (st : Statement) → IsStatementRefused st db → IsStatementRefused st (over archive_schema db.trees)
  here st it = subst (λ s. IsStatementRefused st (over s db.trees)) sound.schema it

  pub never_person_added : (p : Person) → IsShortPerson p → HasFreeNumber (db.trees 3) → list_any (same_person p) (map person_from_row (db.trees 3)) ≡ false
      → ¬ IsStatementRefused (insert_person_statement p) db
  never_person_added p short number new refused =
      let it = here (insert_person_statement p) refused in
      never_added db.trees sound.tables sound.obeys p short number new it.0 (add_may db.trees p (Err it.0) it.1)

  pub person_added : (p : Person) (next : Database) → StatementExecutesTo (insert_person_statement p) db next
      → Leaves 3 (record (archive_in_trees db.trees) { persons = map person_from_row (db.trees 3) ++ p ∷ [] }) db.trees next
  person_added p next executes =
      let it = subst (λ s. StatementExecutesTo (insert_person_statement p) (over s db.trees) next) sound.schema executes in
      leaves db.trees sound.tables p it.0 next (add_may db.trees p (Ok (it.0, next)) it.1)
