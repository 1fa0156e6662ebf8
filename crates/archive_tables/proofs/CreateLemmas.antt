-- Which texts of CREATE TABLE and CREATE INDEX SQL does not refuse, and what they leave, over tables without rows.
use Rattle.std.proofs.Common.{◌≡◌, ◌⊎◌, inl, inr, ℕ, ◌+◌, ◌*◌, ◌^◌, ◌≤◌, List, [], ◌∷◌, length, codes, Ok, Err, Result, eqb, ltb, ltb-true}
use Rattle.std.proofs.Common.{eqb-true, Option, Some, None, true, false, not, ◌&&◌, ◌==◌, refl, sym, ap, subst, ◌∙◌, arith}
use Rattle.std.specs.Prelude.{IsUtf8, slice_get}
use Rattle.std.specs.List.{AllByRecursion, list_all}
use Rattle.std.specs.Str.{is_utf8}
use Rattle.std.proofs.lemmas.Bool.{not-true}
use Rattle.std.proofs.lemmas.Str.{IsUtf8-from_is_utf8}
use Rattle.sqlite.specs.declared.error.Error.{Error}
use Rattle.sqlite.specs.declared.run.Mode.{Mode}
use Rattle.sqlite.specs.declared.types.Value.TheVariants.{Text}
use Rattle.sqlite.specs.Change.{created, indexed, next_tree, is_used, is_reserved, automatics, KeepsRows}
use Rattle.sqlite.specs.Command.TheVariants.{CreateTable, CreateIndex}
use Rattle.sqlite.specs.Compile.{table_defined_by, index_defined_by}
use Rattle.sqlite.specs.Does.{Tally, Does, MakesTable, MakesSequence, MakesIndex, lacks_sequence, sequence_text}
use Rattle.sqlite.specs.Effect.{Database}
use Rattle.sqlite.specs.Order.{Row}
use Rattle.sqlite.specs.Schema.{Schema}
use Rattle.sqlite.specs.State.{State, Runs, Writes}
use Rattle.sqlite.specs.Table.{Table}
use Rattle.sqlite.specs.Tree.{Trees}
use Rattle.sqlite_catalog.specs.declared.error.Refusal.{Refusal}
use Rattle.sqlite_catalog.specs.declared.error.Refusal.TheVariants.{Invalid, NameTaken, BadName, TooBig, BadKey, BadText, Violates}
use Rattle.sqlite_catalog.specs.Calls.{RefusesTable, RefusesIndex}
use Rattle.sqlite_catalog.specs.Listing.{is_fit, is_formed}
use Rattle.sqlite_rules.specs.Lists.{Has}
use Rattle.sqlite_trees.proofs.ListLemmas.{all-append, all-slice_get}
use Rattle.sqlite_rules.proofs.ListLemmas.{test_has}
use Rattle.sqlite_schema.specs.declared.schema.Index.{Index}
use Rattle.sqlite_schema.specs.declared.schema.Keys.TheVariants.{Enforced}
use Rattle.sqlite_schema.specs.declared.command.Command.{Command}
use Rattle.sqlite_schema.specs.Rules.{table_reals, index_reals}
use Rattle.archive_tables.specs.Statements.{Statement}
use Rattle.archive_tables.proofs.RunLemmas.{passed, value_is}

-- the schema is this one
abbrev pub over : Schema → Trees → Database
over s trees = record { schema = s; trees = trees }

abbrev pub AreEmpty : Trees → List Table → Type 0
AreEmpty trees = AllByRecursion (λ t. trees t.tree ≡ [])

abbrev pub at_once : Mode
at_once = record { keys = Enforced; in_doubt = false; may_wait = false }

-- Where the first part does not stop, the second is come to.
pub went : {B E R : Type 0} {s : E} {Stops : E → Type 0} → ((t : E) × Stops t × (◌≡◌ {A = Result B E} (Err s) (Err t))) ⊎ R → ((t : E) → ¬ Stops t) → R
went (inl it) never = absurd (never it.0 it.1)
went (inr it) never = it

-- whatever the rows are, what the command of a statement makes of the schema
pub record Turns (k : Command) (st : Statement) (from to : Schema) : Type 1 where
  pub writes : (old new : State) (text : List ℕ) (params : Row) (count : ℕ) → Runs old new None k text params count → Writes old new None k text params count
  pub schema : (limit : Option ℕ) (mode : Mode) (trees : Trees) (tally : Tally) (next : Database) → Does limit mode st.parameters (over from trees) st.sql None k (Ok (tally, next))
      → next.schema ≡ to

-- over tables without rows it is carried out, too, and leaves tables without rows
pub record Extends (k : Command) (st : Statement) (from to : Schema) : Type 1 where
  pub turns : Turns k st from to
  pub never : (trees : Trees) → AreEmpty trees from.tables → (stop : Option Error) → ¬ Does None at_once st.parameters (over from trees) st.sql None k (Err stop)
  pub empty : (limit : Option ℕ) (mode : Mode) (trees : Trees) (tally : Tally) (next : Database) → AreEmpty trees from.tables
      → Does limit mode st.parameters (over from trees) st.sql None k (Ok (tally, next)) → AreEmpty next.trees to.tables

-- ---- a table

pub record Makes (s : Schema) (table : Table) (old new : Database) : Type 0 where
  pub schema : new.schema ≡ created s table
  pub empty : new.trees (next_tree s) ≡ []
  pub others : KeepsRows s.tables old.trees new.trees

pub one_made : (s : Schema) (sql : List ℕ) (table : Table) (old new : Database) → old.schema ≡ s → table_defined_by sql ≡ Ok table → MakesTable sql old (Ok new) → Makes s table old new
one_made s sql table old new has defined it =
    let same : it.table ≡ table = value_is (sym it.defined ∙ defined) in
    record {
      schema = it.is ∙ ap (λ x. created x it.table) has ∙ ap (created s) same;
      empty = subst (λ x. new.trees (next_tree x) ≡ []) has it.empty;
      others = subst (λ x. KeepsRows x.tables old.trees new.trees) has it.others;
    }

same_empty : (old new : Trees) (tables : List Table) → KeepsRows tables old new → AreEmpty old tables → AreEmpty new tables
same_empty old new [] same empty = tt
same_empty old new (t ∷ tables) same empty = (same.0 ∙ empty.0, same_empty old new tables same.1 empty.1)

still_empty : (s : Schema) (table : Table) (old new : Database) → Makes s table old new → AreEmpty old.trees s.tables → AreEmpty new.trees (created s table).tables
still_empty s table old new made empty =
    all-append (λ t. new.trees t.tree ≡ []) s.tables (record table { tree = next_tree s } ∷ []) (same_empty old.trees new.trees s.tables made.others empty) (made.empty, tt)

-- Nothing stands in the way of the text over this schema: these are the tests that SQL makes.
pub record CanCreate (s : Schema) (sql : List ℕ) (table : Table) : Type 0 where
  pub text : is_utf8 sql ≡ true
  pub defined : table_defined_by sql ≡ Ok table
  pub short : ltb (2 * length table.name + length sql + 200) (10 ^ 9) ≡ true
  pub free : is_used s table.name ≡ false
  pub keys : list_all (λ i. not (is_used s i.name)) (automatics table 0 0 table.uniques) ≡ true
  pub name : is_utf8 table.name ≡ true
  pub own : (is_reserved table.name && not (length table.uniques == 0)) ≡ false
  pub room : ltb (next_tree s + length table.uniques) 65536 ≡ true
  pub reals : table_reals table ≡ 0
  pub key_reals : list_all (λ key. eqb (index_reals 0 key) 0) table.uniques ≡ true
  pub formed : is_formed table ≡ true
  pub listed : is_fit (Text (codes "table")) (Text table.name) (Text table.name) (Text sql) ≡ true

module _ (s : Schema) (sql : List ℕ) (table : Table) (can : CanCreate s sql table) where
  -- what is said of the table that the text defines is said of this one
  of_it : (P : Table → Type 0) → (t : Table) × (table_defined_by sql ≡ Ok t) × P t → P table
  of_it P it = subst P (value_is (sym it.1 ∙ can.defined)) it.2

  not_refused : (why : Refusal) → ¬ RefusesTable s sql why
  not_refused (Invalid e) h = let bad = sym can.defined ∙ h in cc
  not_refused NameTaken h =
      elim (of_it (λ t. (is_used s t.name ≡ true) ⊎ ((i : Index) × Has (automatics t 0 0 t.uniques) i × (is_used s i.name ≡ true))) h) [
        | inl used ↦ let bad = sym can.free ∙ used in cc
        | inr it ↦
            let free = test_has (λ (i : Index). not (is_used s i.name)) (automatics table 0 0 table.uniques) it.0 can.keys it.1 in
            let bad = sym (not-true (is_used s it.0.name) free) ∙ it.2 in cc
      ]
  not_refused BadName h =
      elim (of_it (λ t. (¬ IsUtf8 t.name) ⊎ ((is_reserved t.name ≡ true) × ((length t.uniques == 0) ≡ false))) h) [
        | inl no_text ↦ no_text (IsUtf8-from_is_utf8 table.name can.name)
        | inr it ↦ let bad = rw (it.0, it.1) at can.own in cc
      ]
  not_refused TooBig h =
      elim (of_it (λ t. (65536 ≤ next_tree s + length t.uniques) ⊎ ((2 ^ 64 ≤ table_reals t) ⊎ ((key : List ℕ) × Has t.uniques key × (2 ^ 64 ≤ index_reals (table_reals t) key)))) h) [
        | inl full ↦ let room = ltb-true (next_tree s + length table.uniques) 65536 can.room in omega (arith, room, full)
        | inr big ↦ elim big [
          | inl wide ↦ let none = can.reals in omega (arith, none, wide)
          | inr it ↦
              let none = eqb-true (index_reals 0 it.0) 0 (test_has (λ key. eqb (index_reals 0 key) 0) table.uniques it.0 can.key_reals it.1) in
              let wide = rw can.reals at it.2 in omega (arith, none, wide)
        ]
      ]
  not_refused BadKey h = let bad = sym (of_it (λ t. is_formed t ≡ false) h) ∙ can.formed in cc
  not_refused BadText h = let bad = sym (of_it (λ t. is_fit (Text (codes "table")) (Text t.name) (Text t.name) (Text sql) ≡ false) h) ∙ can.listed in cc
  not_refused (Violates rule) h = h

  never_table : (db : Database) → db.schema ≡ s → (stop : Option Error) → ¬ MakesTable sql db (Err stop)
  never_table db has None h =
      let long = of_it (λ t. 10 ^ 9 ≤ 2 * length t.name + length sql + 200) h in
      let short = ltb-true (2 * length table.name + length sql + 200) (10 ^ 9) can.short in omega (arith, short, long)
  never_table db has (Some e) (inl bad) = bad.0 (IsUtf8-from_is_utf8 sql can.text)
  never_table db has (Some e) (inr it) = not_refused it.0 (subst (λ x. RefusesTable x sql it.0) has it.1)

-- what comes behind the table itself: nothing, or sqlite_sequence
record Completes (made to : Schema) : Type 0 where
  never : (mid : Database) → mid.schema ≡ made → (stop : Option Error) → ¬ MakesSequence mid (Err stop)
  schema : (mid next : Database) → mid.schema ≡ made → MakesSequence mid (Ok next) → next.schema ≡ to
  empty : (mid next : Database) → mid.schema ≡ made → AreEmpty mid.trees made.tables → MakesSequence mid (Ok next) → AreEmpty next.trees to.tables

-- no table counts its rowids, or the counts are there
completes_alone : (made : Schema) → lacks_sequence made ≡ false → Completes made made
completes_alone made none =
    let lacks = λ (mid : Database) (has : mid.schema ≡ made). ap lacks_sequence has ∙ none in
    let same = λ (mid next : Database) (has : mid.schema ≡ made) (h : MakesSequence mid (Ok next)). let it : next ≡ mid = value_is (rw (lacks mid has) at h) in it in
    record {
      never = λ mid has stop h. let bad = rw (lacks mid has) at h in cc;
      schema = λ mid next has h. ap (λ (d : Database). d.schema) (same mid next has h) ∙ has;
      empty = λ mid next has empty h. subst (λ (d : Database). AreEmpty d.trees made.tables) (sym (same mid next has h)) empty;
    }

-- the first that does brings them along
completes_counted : (made : Schema) (counts : Table) → lacks_sequence made ≡ true → CanCreate made sequence_text counts → Completes made (created made counts)
completes_counted made counts some can =
    let lacks = λ (mid : Database) (has : mid.schema ≡ made). ap lacks_sequence has ∙ some in
    let here = λ (mid next : Database) (has : mid.schema ≡ made) (h : MakesSequence mid (Ok next)). one_made made sequence_text counts mid next has can.defined (rw (lacks mid has) at h) in
    record {
      never = λ mid has stop h. never_table made sequence_text counts can mid has stop (rw (lacks mid has) at h);
      schema = λ mid next has h. (here mid next has h).schema;
      empty = λ mid next has empty h. still_empty made counts mid next (here mid next has h) empty;
    }

module _ (st : Statement) (s to : Schema) (table : Table) (can : CanCreate s st.sql table) (completes : Completes (created s table) to) where
  -- the table is there, and then the other
  made : (limit : Option ℕ) (mode : Mode) (trees : Trees) (tally : Tally) (next : Database) → Does limit mode st.parameters (over s trees) st.sql None CreateTable (Ok (tally, next))
      → (mid : Database) × Makes s table (over s trees) mid × MakesSequence mid (Ok next)
  made limit mode trees tally next h =
      let all = passed h in
      let first = passed all.1 in
      let now : next ≡ all.0 = ap (λ (p : Tally × Database). p.1) (value_is all.2) in
      (first.0, one_made s st.sql table (over s trees) first.0 refl can.defined first.1, subst (λ d. MakesSequence first.0 (Ok d)) (sym now) first.2)

  table_extends : Extends CreateTable st s to
  table_extends = record {
    turns = record {
      writes = λ old new text params count w. w;
      schema = λ limit mode trees tally next h. let it = made limit mode trees tally next h in completes.schema it.0 next it.1.schema it.2;
    };
    never = λ trees empty stop h.
        let done = went h (λ t parts.
        let first = went parts (never_table s st.sql table can (over s trees) refl) in
        completes.never first.0 (one_made s st.sql table (over s trees) first.0 refl can.defined first.1).schema t first.2) in
        let bad = done.2 in cc;
    empty = λ limit mode trees tally next empty h.
        let it = made limit mode trees tally next h in completes.empty it.0 next it.1.schema (still_empty s table (over s trees) it.0 it.1 empty) it.2;
  }

pub table_alone : {st : Statement} {s to : Schema} (table : Table) → (lacks_sequence (created s table) ≡ false) × (created s table ≡ to) → CanCreate s st.sql table → Extends CreateTable st s to
table_alone {st} {s} {to} table it can = table_extends st s to table can (subst (Completes (created s table)) it.1 (completes_alone (created s table) it.0))

pub table_counted : {st : Statement} {s to : Schema} (table counts : Table) → (lacks_sequence (created s table) ≡ true) × (created (created s table) counts ≡ to) → CanCreate s st.sql table
    → CanCreate (created s table) sequence_text counts → Extends CreateTable st s to
table_counted {st} {s} {to} table counts it can can_count =
    table_extends st s to table can (subst (Completes (created s table)) it.1 (completes_counted (created s table) counts it.0 can_count))

-- ---- an index: the rows of all tables stay

record Indexes (s : Schema) (table : Table) (index : Index) (old new : Database) : Type 0 where
  schema : new.schema ≡ indexed s table index
  rows : KeepsRows s.tables old.trees new.trees

one_indexed : (s : Schema) (table : Table) (sql : List ℕ) (index : Index) (trees : Trees) (new : Database) → index_defined_by table sql ≡ Ok index
    → MakesIndex sql (over s trees) table (Ok new) → Indexes s table index (over s trees) new
one_indexed s table sql index trees new defined it =
    let same : it.index ≡ index = value_is (sym it.defined ∙ defined) in
    record { schema = it.is ∙ ap (indexed s table) same; rows = it.rows }

-- Nothing stands in the way of the text over this schema.
pub record CanIndex (s : Schema) (table : Table) (sql : List ℕ) (index : Index) : Type 0 where
  pub text : is_utf8 sql ≡ true
  pub defined : index_defined_by table sql ≡ Ok index
  pub short : ltb (length index.name + length table.name + length sql + 200) (10 ^ 9) ≡ true
  pub free : is_used s index.name ≡ false
  pub name : is_utf8 index.name ≡ true
  pub table_name : is_utf8 table.name ≡ true
  pub own : is_reserved index.name ≡ false
  pub room : ltb (next_tree s) 65536 ≡ true
  pub reals : table_reals table ≡ 0
  pub key_reals : index_reals 0 index.columns ≡ 0
  pub listed : is_fit (Text (codes "index")) (Text index.name) (Text table.name) (Text sql) ≡ true

-- tables without rows keep each rule
pub keeps_rules : (P : Table → Row → Type 0) (trees : Trees) (tables : List Table) → AreEmpty trees tables → AllByRecursion (λ t. AllByRecursion (P t) (trees t.tree)) tables
keeps_rules P trees [] empty = tt
keeps_rules P trees (t ∷ tables) empty = (subst (AllByRecursion (P t)) (sym empty.0) tt, keeps_rules P trees tables empty.1)

module _ (s : Schema) (at : ℕ) (table : Table) (there : slice_get s.tables at ≡ Some table) (sql : List ℕ) (index : Index) (can : CanIndex s table sql index)
    (trees : Trees) (empty : AreEmpty trees s.tables) where
  of_index : (P : Index → Type 0) → (i : Index) × (index_defined_by table sql ≡ Ok i) × P i → P index
  of_index P it = subst P (value_is (sym it.1 ∙ can.defined)) it.2

  index_not_refused : (why : Refusal) → ¬ RefusesIndex s trees table sql why
  index_not_refused (Invalid e) h = let bad = sym can.defined ∙ h in cc
  index_not_refused NameTaken h = let bad = sym (of_index (λ i. is_used s i.name ≡ true) h) ∙ can.free in cc
  index_not_refused BadName h =
      elim (of_index (λ i. ((¬ IsUtf8 i.name) ⊎ ((is_reserved i.name ≡ true) × (false ≡ false))) ⊎ (¬ IsUtf8 table.name)) h) [
        | inl bad ↦ elim bad [ inl no_text ↦ no_text (IsUtf8-from_is_utf8 index.name can.name) | inr it ↦ let clash = sym it.0 ∙ can.own in cc ]
        | inr no_text ↦ no_text (IsUtf8-from_is_utf8 table.name can.table_name)
      ]
  index_not_refused TooBig h =
      elim (of_index (λ i. (65536 ≤ next_tree s) ⊎ ((2 ^ 64 ≤ table_reals table) ⊎ (2 ^ 64 ≤ index_reals (table_reals table) i.columns))) h) [
        | inl full ↦ let room = ltb-true (next_tree s) 65536 can.room in omega (arith, room, full)
        | inr big ↦ elim big [
          | inl wide ↦ let none = can.reals in omega (arith, none, wide)
          | inr it ↦ let none = can.key_reals in let wide = rw can.reals at it in omega (arith, none, wide)
        ]
      ]
  index_not_refused BadKey h = h
  index_not_refused BadText h = let bad = sym (of_index (λ i. is_fit (Text (codes "index")) (Text i.name) (Text table.name) (Text sql) ≡ false) h) ∙ can.listed in cc
  index_not_refused (Violates rule) h = h.3 (keeps_rules _ trees s.tables empty)

  never_index : (stop : Option Error) → ¬ MakesIndex sql (over s trees) table (Err stop)
  never_index None h =
      let none = all-slice_get (λ (t : Table). trees t.tree ≡ []) s.tables at table there empty in
      elim h.2 [
        | inl long ↦
            let same : h.0 ≡ index = value_is (sym h.1 ∙ can.defined) in
            let short = ltb-true (length index.name + length table.name + length sql + 200) (10 ^ 9) can.short in
            let big = rw same at long in omega (arith, short, big)
        | inr it ↦ rw none at it.1
      ]
  never_index (Some e) (inl bad) = bad.0 (IsUtf8-from_is_utf8 sql can.text)
  never_index (Some e) (inr it) = index_not_refused it.0 it.1

pub index_extends : {st : Statement} {s to : Schema} {at : ℕ} (table : Table) (index : Index) → slice_get s.tables at ≡ Some table → indexed s table index ≡ to → CanIndex s table st.sql index
    → Extends (CreateIndex at) st s to
index_extends {st} {s} {to} {at} table index there is can = subst (Extends (CreateIndex at) st s) is (record {
  turns = record { writes = λ old new text params count w. w; schema = λ limit mode trees tally next h. (made limit mode trees tally next h).schema };
  never = λ trees empty stop h. let done = went (rw there at h) (never_index s at table there st.sql index can trees empty) in let bad = done.2 in cc;
  empty = λ limit mode trees tally next empty h. same_empty trees next.trees s.tables (made limit mode trees tally next h).rows empty;
})
  where
    made : (limit : Option ℕ) (mode : Mode) (trees : Trees) (tally : Tally) (next : Database) → Does limit mode st.parameters (over s trees) st.sql None (CreateIndex at) (Ok (tally, next))
        → Indexes s table index (over s trees) next
    made limit mode trees tally next h =
        let done = passed (rw there at h) in
        let now : next ≡ done.0 = ap (λ (p : Tally × Database). p.1) (value_is done.2) in
        subst (Indexes s table index (over s trees)) (sym now) (one_indexed s table st.sql index trees done.0 can.defined done.1)
