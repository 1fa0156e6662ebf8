-- SQL refuses no address: not one that changes, not one that comes.
use Rattle.std.proofs.Common.{◌≡◌, ◌≢◌, ◌<◌, ◌^◌, inl, suc, ℕ, ℤ, ◌+◌, ◌≤◌, List, [], ◌∷◌, ◌++◌, map, length, Ok, Err, Result, refl, sym, ap, ap₂, subst, ◌∙◌, false}
use Rattle.std.proofs.Common.{true, Bool, cond, None, Option, arith}
use Rattle.std.specs.Prelude.{bytes_eq, if◌then◌else◌}
use Rattle.std.specs.List.{AllByRecursion, list_any}
use Rattle.sqlite.specs.declared.error.Error.{Error}
use Rattle.sqlite.specs.declared.types.Value.TheVariants.{Null, Int, Text}
use Rattle.sqlite.specs.Collation.TheVariants.{Binary}
use Rattle.sqlite.specs.Command.TheVariants.{Insert, Update}
use Rattle.sqlite.specs.Does.{Tally, Does}
use Rattle.sqlite.specs.Edit.{edit_of, next_rowid}
use Rattle.sqlite.specs.Effect.{Database}
use Rattle.sqlite.specs.Listing.{understood}
use Rattle.sqlite.specs.Order.{Row}
use Rattle.sqlite.specs.Query.{output}
use Rattle.sqlite.specs.Rowids.TheVariants.{Given, Chosen}
use Rattle.sqlite_schema.specs.declared.program.Program.{Program}
use Rattle.sqlite.specs.Rows.{Task, Written, Updates, Inserts}
use Rattle.sqlite.specs.Source.TheVariants.{Values}
use Rattle.sqlite.specs.Table.{Table}
use Rattle.sqlite.specs.Term.{Term, lit, col, op2}
use Rattle.sqlite.specs.Tree.{Trees, put_row}
use Rattle.sqlite_sql.specs.declared.ops.BinaryOp.TheVariants.{Compare}
use Rattle.sqlite_sql.specs.declared.ops.CompareOp.TheVariants.{Eq}
use Rattle.sqlite_tied.specs.Compute.{everything}
use Rattle.sqlite_typing.specs.Types.{accepts_program, accepts_terms}
use Rattle.sqlite_rules.specs.Calls.{ids_of}
use Rattle.sqlite_schema.specs.declared.schema.Constraint.TheVariants.{ForeignKey}
use Rattle.sqlite_schema.specs.declared.schema.Keys.TheVariants.{Enforced}
use Rattle.sqlite_schema.specs.declared.schema.Among.TheVariants.{All}
use Rattle.sqlite_schema.specs.Rules.{Obeys, Refers}
use Rattle.archive_tables.proofs.CreateLemmas.{over, at_once}
use Rattle.archive_tables.proofs.RunLemmas.{cast_null, cast_int}
use Rattle.archive_tables.proofs.ChangeLemmas.{apart_mapped, apart_more}
use Rattle.archive_tables.proofs.TableLemmas.{same_but, addresses_change}
use Rattle.archive_model.specs.Records.{Address, Archive}
use Rattle.archive_model.specs.Machine.{with_replaced_address}
use Rattle.archive_model.specs.Questions.{is_address_of}
use Rattle.archive_tables.specs.Schema.{archive_schema, address_table}
use Rattle.archive_tables.specs.Statements.{Statement, StatementMayEndIn, StatementExecutesTo, IsStatementRefused, insert_address_statement, update_address_statement}
use Rattle.archive_tables.specs.Tables.{AreArchiveTables, HaveDistinctKeys, archive_in_trees, NumberedRecord, numbered_row, address_cells, address_from_row, same_address_key}
use Rattle.archive_tables.proofs.AddressLemmas.{add_text, change_text}
use Rattle.archive_tables.proofs.SelectLemmas.{plain_query, env_of, passes as passes_tests, alone, text_is, equal_words}
use Rattle.archive_sound.specs.ManyCommands.{LeaveNumbers}
use Rattle.archive_sound.specs.Room.{IsSoundArchive, HaveShortNumbers, HasFreeNumber, longest_row}
use Rattle.archive_sound.proofs.AddressTable.{address_facts, IsShortAddress, address_person_is_there}
use Rattle.archive_sound.proofs.ListLemmas.{each}
use Rattle.archive_sound.proofs.MadeLemmas.{task_on, concluded, Holds, kept_numbers, added_numbers, leaves_of, updates_hold, inserts_hold}
use Rattle.archive_sound.proofs.NumberLemmas.{Leaves}
use Rattle.archive_sound.proofs.ReferLemmas.{Refer, they_refer, refers, addresses_after}
use Rattle.archive_sound.proofs.TableLemmas.{never_updates, updates_leave, never_inserts, inserts_leave, refer_more, never_ends}

-- ---- WHERE

abbrev of_person : List Term
of_person = op2 (Compare Eq Binary) (col 1 1) (col 0 0) ∷ []

is_of_person : (person : List ℕ) (more : Row) (n : ℤ) (a : Address) → passes_tests of_person (Text person ∷ more) (Int n ∷ address_cells a) ≡ is_address_of person a
is_of_person person more n a = alone _ ∙ text_is a.person person

alike : (person : List ℕ) (a b : Address) → is_address_of person a ≡ true → same_address_key a b ≡ is_address_of person b
alike person a b found = ap (bytes_eq b.person) (equal_words a.person person found)

-- ---- the two texts

abbrev changed_cells : List Term
changed_cells = col 1 0 ∷ col 1 0 ∷ col 1 1 ∷ col 0 1 ∷ []

change_may : (trees : Trees) (a : Address) (out : Result (Tally × Database) (Option Error)) → StatementMayEndIn (update_address_statement a) (over archive_schema trees) out
    → Does None at_once (address_cells a) (over archive_schema trees) change_text None (Update 7 (record { lets = []; body = plain_query 15 of_person changed_cells [] })) out
unfolding understood everything
change_may trees a out h = h

change_typed : (a : Address) → accepts_program archive_schema [] (plain_query 15 of_person changed_cells []) (address_cells a) ≡ true
unfolding everything
change_typed a = refl

abbrev new_cells : List Term
new_cells = lit Null ∷ col 0 0 ∷ col 0 1 ∷ []

add_may : (trees : Trees) (a : Address) (out : Result (Tally × Database) (Option Error)) → StatementMayEndIn (insert_address_statement a) (over archive_schema trees) out
    → Does None at_once (address_cells a) (over archive_schema trees) add_text None (Insert 7 (Values new_cells 3)) out
unfolding understood everything
add_may trees a out h = h

add_typed : (a : Address) → accepts_terms new_cells (address_cells a) ≡ true
unfolding everything
add_typed a = refl

put_in : (db : Trees) (a : Address) (given : List Row) → given ≡ (Null ∷ address_cells a) ∷ []
    → edit_of db address_table [] Chosen 0 given ≡ record { table = address_table; gone = []; news = (Int (next_rowid (db 15)) ∷ address_cells a) ∷ [] }
put_in db a given from = rw (from, cast_null)

-- ---- another address of a person

module _ (a : Address) where
  abbrev wanted : Address → Bool
  wanted = is_address_of a.person

  abbrev said : Address → Address
  said old = record old { address = a.address }

  keeps : (x y : Address) → same_address_key (if wanted x then said x else x) (if wanted y then said y else y) ≡ same_address_key x y
  keeps x y = ap₂ bytes_eq (same_person y) (same_person x)
    where
      same_person : (z : Address) → (if wanted z then said z else z).person ≡ z.person
      same_person z = elim (wanted z) as (λ c. (cond c (said z) z).person ≡ z.person) [ true ↦ refl | false ↦ refl ]

  edits : (db : Trees) (r : NumberedRecord Address) (given : List Row) → given ≡ (output (plain_query 15 of_person changed_cells []) (env_of (address_cells a) (numbered_row address_cells r))).1 ∷ []
      → edit_of db address_table (ids_of given) Given 1 given
      ≡ record { table = address_table; gone = r.number ∷ []; news = numbered_row address_cells (record r { content = said r.content }) ∷ [] }
  edits db r given from = rw (from, cast_int r.number)

  abbrev changing : Program
  changing = record { lets = []; body = plain_query 15 of_person changed_cells [] }

-- ---- the statements

module _ (db : Trees) (k : AreArchiveTables db) (obeys : Obeys archive_schema db) where
  after : (next : Trees) (rows : List Row) → next 15 ≡ rows → Refer db address_table rows → AllByRecursion (λ (t : Table). t.tree ≢ 15 → next t.tree ≡ db t.tree) archive_schema.tables
      → Refers All archive_schema next
  after next rows are refer same = refers next (addresses_after db next (they_refer db (obeys.rules ForeignKey)) (same_but 15 db next same) (subst (Refer db address_table) (sym are) refer))

  module _ (a : Address) (short : IsShortAddress a) where
    -- an address that changes
    module _ (numbers : HaveShortNumbers (db 15)) where
      still_short : (x : Address) → wanted a x ≡ true → IsShortAddress (said a x)
      still_short x found = subst (λ l. length l + length a.address ≤ longest_row) (sym (equal_words x.person a.person found)) short

      shorts : AllByRecursion (λ x. wanted a x ≡ true → IsShortAddress (said a x)) (map address_from_row (db 15))
      shorts = each (λ x. wanted a x ≡ true → IsShortAddress (said a x)) still_short (map address_from_row (db 15))

      abbrev change_task : Task
      change_task = record { limit = None; keys = Enforced; schema = archive_schema; table = address_table; params = address_cells a }

      refer_changed : (w : Written) → Updates change_task (changing a) (address_cells a) db (Ok w) → Refers All archive_schema w.trees
      refer_changed w made =
          let left = updates_leave address_table address_cells address_from_row same_address_key IsShortAddress address_person_is_there address_facts db obeys k.addresses k.addresses_distinct
          of_person changed_cells (address_cells a) (wanted a) (is_of_person a.person (Text a.address ∷ [])) (alike a.person) (change_typed a)
          (said a) (keeps a) (λ x. refl) shorts numbers (λ n x found h. refl) (edits a db) (they_refer db (obeys.rules ForeignKey)).addresses w made in
          after w.trees left.0 left.1.rows_are left.2 left.1.others

      pub never_changed : (stop : Option Error) → ¬ Does None at_once (address_cells a) (over archive_schema db) change_text None (Update 7 (changing a)) (Err stop)
      never_changed stop h =
          never_ends change_task (Updates change_task (changing a) (address_cells a) db)
          (never_updates address_table address_cells address_from_row same_address_key IsShortAddress address_person_is_there address_facts db obeys k.addresses k.addresses_distinct
          of_person changed_cells (address_cells a) (wanted a) (is_of_person a.person (Text a.address ∷ [])) (alike a.person) (change_typed a)
          (said a) (keeps a) (λ x. refl) shorts numbers (λ n x found h. refl) (edits a db)) refer_changed stop h

    -- an address that comes
    module _ (number : HasFreeNumber (db 15)) (named : address_person_is_there db a ≡ true) (new : list_any (same_address_key a) (map address_from_row (db 15)) ≡ false) where
      abbrev n : ℤ
      n = next_rowid (db 15)

      abbrev add_task : Task
      add_task = record { limit = None; keys = Enforced; schema = archive_schema; table = address_table; params = address_cells a }

      refer_added : (w : Written) → Inserts add_task (Values new_cells 3) db (Ok w) → Refers All archive_schema w.trees
      refer_added w made =
          let left = inserts_leave address_table address_cells address_from_row same_address_key IsShortAddress address_person_is_there address_facts db obeys k.addresses k.addresses_distinct
          n a (inl refl) short number refl new (address_cells a) new_cells 3 (add_typed a) (put_in db a) w made in
          after w.trees (put_row (Int n ∷ address_cells a) (db 15)) left.0.rows_are
          (refer_more address_table address_cells address_from_row same_address_key IsShortAddress address_person_is_there address_facts
          db obeys k.addresses k.addresses_distinct n a (inl refl) short number refl new (they_refer db (obeys.rules ForeignKey)).addresses named) left.0.others

      pub never_added : (stop : Option Error) → ¬ Does None at_once (address_cells a) (over archive_schema db) add_text None (Insert 7 (Values new_cells 3)) (Err stop)
      never_added stop h =
          never_ends add_task (Inserts add_task (Values new_cells 3) db)
          (never_inserts address_table address_cells address_from_row same_address_key IsShortAddress address_person_is_there address_facts db obeys k.addresses k.addresses_distinct
          n a (inl refl) short number refl new (address_cells a) new_cells 3 (add_typed a) (put_in db a)) refer_added stop h

-- ---- what they leave

module _ (db : Trees) (k : AreArchiveTables db) (a : Address) where
  abbrev with_addresses : List Address → Archive
  with_addresses addresses = record (archive_in_trees db) { addresses = addresses }

  of_table : (after : Trees) (addresses : List Address) (news : List ℤ) → Holds address_table address_cells address_from_row db after addresses news → HaveDistinctKeys same_address_key addresses
      → Refers All archive_schema after → ((more : ℕ) → suc more < 2 ^ 63 → LeaveNumbers (suc more) (db 15) → LeaveNumbers more (after 15))
      → Leaves 15 (with_addresses addresses) db (over archive_schema after)
  of_table after addresses news it distinct refers numbers =
      let all = addresses_change db after k (same_but 15 db after it.others) (after 15) refl it.holds (subst (HaveDistinctKeys same_address_key) (sym it.records_are) distinct) in
      leaves_of address_table address_cells address_from_row db (λ e. omega (arith, e)) after addresses news it refers numbers (with_addresses addresses)
      (all.0, all.1 ∙ ap with_addresses it.records_are)

  abbrev changed : List Address
  changed = map (λ old. if wanted a old then said a old else old) (map address_from_row (db 15))

  change_leaves : (tally : Tally) (next : Database) → Does None at_once (address_cells a) (over archive_schema db) change_text None (Update 7 (changing a)) (Ok (tally, next))
      → Leaves 15 (with_addresses changed) db next
  change_leaves tally next h =
      let end = concluded address_table (address_cells a) (Updates (task_on address_table (address_cells a)) (changing a) (address_cells a) db) tally next h in
      let it = updates_hold address_table address_cells address_from_row same_address_key address_facts.back (λ trees. refl) db k.addresses k.addresses_distinct
      of_person changed_cells (address_cells a) (wanted a) (is_of_person a.person (Text a.address ∷ [])) (alike a.person) (said a) (edits a db) end.0 end.1 in
      subst (Leaves 15 (with_addresses changed) db) (sym end.2)
      (of_table end.0.trees changed [] it (apart_mapped same_address_key (λ old. if wanted a old then said a old else old) (keeps a) (map address_from_row (db 15)) k.addresses_distinct) end.3
      (kept_numbers address_table address_cells address_from_row db end.0.trees changed it))

  abbrev added : List Address
  added = map address_from_row (db 15) ++ a ∷ []

  add_leaves : list_any (same_address_key a) (map address_from_row (db 15)) ≡ false → (tally : Tally) (next : Database)
      → Does None at_once (address_cells a) (over archive_schema db) add_text None (Insert 7 (Values new_cells 3)) (Ok (tally, next)) → Leaves 15 (with_addresses added) db next
  add_leaves new tally next h =
      let end = concluded address_table (address_cells a) (Inserts (task_on address_table (address_cells a)) (Values new_cells 3) db) tally next h in
      let it = inserts_hold address_table address_cells address_from_row address_facts.back db k.addresses a (address_cells a) new_cells 3 (put_in db a) end.0 end.1 in
      subst (Leaves 15 (with_addresses added) db) (sym end.2)
      (of_table end.0.trees added (next_rowid (db 15) ∷ []) it (apart_more same_address_key (map address_from_row (db 15)) a address_facts.flips new k.addresses_distinct) end.3
      (added_numbers address_table address_cells address_from_row db end.0.trees added it))

module _ (db : Database) (sound : IsSoundArchive db) where
  here : (st : Statement) → IsStatementRefused st db → IsStatementRefused st (over archive_schema db.trees)
  here st it = subst (λ s. IsStatementRefused st (over s db.trees)) sound.schema it

  pub never_address_changed : (a : Address) → IsShortAddress a → HaveShortNumbers (db.trees 15) → ¬ IsStatementRefused (update_address_statement a) db
  never_address_changed a short numbers refused =
      let it = here (update_address_statement a) refused in
      never_changed db.trees sound.tables sound.obeys a short numbers it.0 (change_may db.trees a (Err it.0) it.1)

  pub never_address_added : (a : Address) → IsShortAddress a → HasFreeNumber (db.trees 15) → address_person_is_there db.trees a ≡ true
      → list_any (same_address_key a) (map address_from_row (db.trees 15)) ≡ false → ¬ IsStatementRefused (insert_address_statement a) db
  never_address_added a short number named new refused =
      let it = here (insert_address_statement a) refused in
      never_added db.trees sound.tables sound.obeys a short number named new it.0 (add_may db.trees a (Err it.0) it.1)

  pub address_changed : (a : Address) (next : Database) → StatementExecutesTo (update_address_statement a) db next
      → Leaves 15 (record (archive_in_trees db.trees) { addresses = map (with_replaced_address a) (map address_from_row (db.trees 15)) }) db.trees next
  address_changed a next executes =
      let it = subst (λ s. StatementExecutesTo (update_address_statement a) (over s db.trees) next) sound.schema executes in
      change_leaves db.trees sound.tables a it.0 next (change_may db.trees a (Ok (it.0, next)) it.1)

  pub address_added : (a : Address) (next : Database) → list_any (same_address_key a) (map address_from_row (db.trees 15)) ≡ false → StatementExecutesTo (insert_address_statement a) db next
      → Leaves 15 (record (archive_in_trees db.trees) { addresses = map address_from_row (db.trees 15) ++ a ∷ [] }) db.trees next
  address_added a next new executes =
      let it = subst (λ s. StatementExecutesTo (insert_address_statement a) (over s db.trees) next) sound.schema executes in
      add_leaves db.trees sound.tables a new it.0 next (add_may db.trees a (Ok (it.0, next)) it.1)
