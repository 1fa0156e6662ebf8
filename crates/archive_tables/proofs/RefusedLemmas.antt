-- SQL refuses none of the statements that make the tables in an empty database.
use Rattle.std.proofs.Common.{◌≡◌, ◌≢◌, inl, inr, ℕ, zero, suc, pos, List, [], ◌∷◌, length, Ok, Err, Option, Some, None, eqb}
use Rattle.std.proofs.Common.{true, false, not, ◌||◌, refl, sym, ap, subst, subst₂, ◌∙◌, arith, lit<, length-append}
use Rattle.std.proofs.lemmas.Bool.{and_parts, not-true, eqb-false}
use Rattle.std.proofs.lemmas.Nat.Bits.{bit_at-zero}
use Rattle.std.proofs.lemmas.List.Elements.{All-from_recursion}
use Rattle.std.specs.List.{AllByRecursion, list_all}
use Rattle.std.specs.Float.{NotNan}
use Rattle.sqlite.specs.declared.error.Error.{Error}
use Rattle.sqlite.specs.declared.types.Value.{Value}
use Rattle.sqlite.specs.declared.types.Value.TheVariants.{Null, Int}
use Rattle.sqlite.specs.Edit.{Edit, edit_of, taken_by, are_fresh, have_rowids, IsRefused, IsOversized, is_referred, id_in}
use Rattle.sqlite.specs.Effect.{Database}
use Rattle.sqlite.specs.Ops.{fits_i64}
use Rattle.sqlite.specs.Order.{Row, number}
use Rattle.sqlite.specs.Rowids.TheVariants.{Chosen}
use Rattle.sqlite.specs.Rows.{Task, Written, Sourced, Edited, Inserts}
use Rattle.sqlite.specs.Schema.{Schema}
use Rattle.sqlite.specs.Source.TheVariants.{Values}
use Rattle.sqlite.specs.Table.{Table}
use Rattle.sqlite.specs.Tree.{Trees, with_tree, rowid}
use Rattle.sqlite.proofs.Callers.{one_step}
use Rattle.sqlite_rules.specs.declared.error.Refusal.{Refusal}
use Rattle.sqlite_rules.specs.declared.error.Refusal.TheVariants.{Violates, Mismatch, NoRowid, BadReference, TooDeep}
use Rattle.sqlite_rules.specs.Action.{Writes, Leads}
use Rattle.sqlite_rules.specs.Lists.{Has}
use Rattle.sqlite_rules.proofs.ListLemmas.{test_has}
use Rattle.sqlite_schema.specs.declared.command.Command.{Command}
use Rattle.sqlite_schema.specs.declared.schema.Index.{Index}
use Rattle.sqlite_schema.specs.declared.schema.Among.TheVariants.{All}
use Rattle.sqlite_schema.specs.declared.schema.Constraint.TheVariants.{Datatype, NotNull, Check, PrimaryKey, Unique, ForeignKey}
use Rattle.sqlite_schema.specs.declared.schema.Keys.TheVariants.{Enforced}
use Rattle.sqlite_schema.specs.Rules.{passes, Keeps, Refers, is_among, has_parent}
use Rattle.sqlite_trees.specs.View.{IsStorableRow}
use Rattle.archive_tables.specs.Schema.{empty_schema, archive_schema, version_table, list_table, person_table, grant_table, message_table, sequence_table, option_table, address_table}
use Rattle.archive_tables.specs.Statements.{Statement, StatementMayEndIn, IsAnyStatementRefused, insert_version_statement, all_create_statements}
use Rattle.archive_tables.specs.Tables.{version_rows}
use Rattle.archive_tables.specs.declared.texts.schema.TheConstants.{VERSION}
use Rattle.archive_tables.proofs.RunLemmas.{passed, value_is, no_action, cast_null, cast_int}
use Rattle.archive_tables.proofs.CreateLemmas.{AreEmpty, Extends, over, at_once, went, keeps_rules}
use Rattle.archive_tables.proofs.SchemaLemmas.{IsStep, may_end, version_step, version_extends, list_step, list_extends, person_step, person_extends, grant_step, grant_extends}
use Rattle.archive_tables.proofs.SchemaLemmas.{message_step, message_extends, month_index_step, month_index_extends, author_index_step, author_index_extends}
use Rattle.archive_tables.proofs.SchemaLemmas.{option_step, option_extends, address_step, address_extends, number_step, version_cells}
use Rattle.archive_tables.proofs.MakeLemmas.{puts}

-- ---- the number of the version

stored : IsStorableRow 0 (Int (pos 1) ∷ Int VERSION ∷ [])
unfolding lib.Ieee.is_nan
stored = (
  record {
    typed = λ c h. absurd (let none = bit_at-zero c in let bad = sym none ∙ h in cc);
    columns = (lit< tt, omega arith);
    numbers = All-from_recursion (λ (v : Value). NotNan (number v)) (Int (pos 1) ∷ Int VERSION ∷ []) (tt, (tt, tt));
    short = omega arith;
  },
  omega arith,
)

abbrev others : List Table
others = list_table ∷ person_table ∷ grant_table ∷ message_table ∷ sequence_table ∷ option_table ∷ address_table ∷ []

still_none : (db next : Trees) (tables : List Table) → list_all (λ t. not (eqb t.tree 0)) tables ≡ true → AllByRecursion (λ (t : Table). t.tree ≢ 0 → next t.tree ≡ db t.tree) tables
    → AreEmpty db tables → AreEmpty next tables
still_none db next [] apart same empty = tt
still_none db next (t ∷ tables) apart same empty =
    let parts = and_parts _ _ apart in
    (same.0 (eqb-false t.tree 0 (not-true (eqb t.tree 0) parts.0)) ∙ empty.0, still_none db next tables parts.1 same.1 empty.1)

abbrev task : Task
task = record { limit = None; keys = Enforced; schema = archive_schema; table = version_table; params = Int VERSION ∷ [] }

module _ (trees : Trees) (empty : AreEmpty trees archive_schema.tables) (given : List Row) (from : given ≡ (Null ∷ Int VERSION ∷ []) ∷ []) where
  abbrev edit : Edit
  edit = edit_of trees version_table [] Chosen 0 given

  news_are : edit.news ≡ version_rows VERSION
  news_are = rw (from, empty.0, cast_null, cast_int VERSION)

  news_pass : (P : List Row → Type 0) → P edit.news → P (version_rows VERSION)
  news_pass P = subst P news_are

  keeps_keys : Keeps Unique archive_schema (with_tree trees 0 (version_rows VERSION))
  keeps_keys =
      let db = with_tree trees 0 (version_rows VERSION) in
      ((refl, tt), keeps_rules (λ t row. passes Unique archive_schema db t row ≡ true) db others empty.1)

  never_wrong : (why : Refusal) → ¬ IsRefused archive_schema Enforced trees edit why
  never_wrong (Violates Datatype) h = let bad = news_pass (λ rows. list_all (passes Datatype archive_schema trees version_table) rows ≡ false) h in cc
  never_wrong (Violates NotNull) h = let bad = news_pass (λ rows. list_all (passes NotNull archive_schema trees version_table) rows ≡ false) h in cc
  never_wrong (Violates Check) h = let bad = news_pass (λ rows. list_all (passes Check archive_schema trees version_table) rows ≡ false) h in cc
  never_wrong (Violates PrimaryKey) h = let bad = subst₂ (λ left rows. are_fresh left rows ≡ false) empty.0 news_are h in cc
  never_wrong (Violates Unique) h = h (subst (λ rows. Keeps Unique archive_schema (with_tree trees 0 rows)) (sym (puts trees given empty.0 from)) keeps_keys)
  never_wrong (Violates ForeignKey) h = h
  never_wrong Mismatch h = let bad = news_pass (λ rows. have_rowids rows ≡ false) h in cc
  never_wrong NoRowid h = let bad = news_pass (λ rows. list_all (λ r. fits_i64 (id_in (rowid r))) rows ≡ false) h in cc
  never_wrong BadReference h = let bad = news_pass (λ rows. is_referred archive_schema Enforced (record edit { news = rows }) ≡ false) h in cc
  never_wrong TooDeep h = h

  never_big : (row : Row) → Has edit.news row → ¬ IsOversized archive_schema version_table row
  never_big row has big =
      let it = news_pass (λ rows. Has rows row) has in
      let same : row ≡ Int (pos 1) ∷ Int VERSION ∷ [] = elim it [ inl same ↦ same | inr none ↦ absurd none ] in
      elim big [
        | inl unstored ↦ unstored (subst (IsStorableRow 0) (sym same) stored)
        -- no index is one of `version`
        | inr i ↦ eqb-false i.0.table 0 (not-true (eqb i.0.table 0) (test_has (λ (x : Index). not (eqb x.table 0)) archive_schema.indexes i.0 refl i.1)) i.2
      ]

  settled : (n : ℕ) (next : Trees) (why : Option Refusal) → ¬ Leads archive_schema Enforced n next [] (Err why)
  settled zero next why h = let bad = h.1 in cc
  settled (suc n) next why h = omega (arith, ap length h.2, length-append h.0 (h.1 ∷ []))

  never_writes : (why : Option Refusal) → ¬ Writes archive_schema Enforced trees edit (Err why)
  never_writes why (inl it) = never_wrong it.0 it.1
  never_writes why (inr (inl it)) = never_big it.0 it.1 it.2
  never_writes why (inr (inr it)) = settled it.2.0 it.0 why (rw (no_action 0 (taken_by trees edit) edit.news) at it.2.1)

  never_edits : (stop : Option Error) → ¬ Edited archive_schema Enforced trees edit (Err stop)
  never_edits stop it = never_writes it.0 it.1

  refers : (next : Trees) → Edited archive_schema Enforced trees edit (Ok next) → Refers All archive_schema next
  refers next written =
      let applied = one_step archive_schema _ trees next edit (no_action 0 (taken_by trees edit) edit.news) written in (
        subst (AllByRecursion (λ row. true ≡ true)) (sym (applied.rows ∙ puts trees given empty.0 from)) (refl, tt),
        keeps_rules (λ t row. list_all (λ ref. not (is_among All ref) || has_parent archive_schema.tables next row ref) t.references ≡ true) next others
            (still_none trees next others refl applied.tables.1 empty.1),
      )

never_sourced : (trees : Trees) (stop : Option Error) → ¬ Sourced None (over archive_schema trees) (Int VERSION ∷ []) (Values version_cells 2) (Err stop)
never_sourced trees None h = h
never_sourced trees (Some e) (inl wrong) = let bad = wrong.1 in cc
never_sourced trees (Some e) (inr interrupted) = let bad = interrupted.1 in cc

module _ (trees : Trees) (empty : AreEmpty trees archive_schema.tables) where
  never_inserts : (stop : Option Error) → ¬ Inserts task (Values version_cells 2) trees (Err stop)
  never_inserts stop h =
      let given = went h (never_sourced trees) in
      let counter = went given.2 (λ t none. cc) in
      let mid = went counter.2 (never_edits trees empty given.0 given.1.1) in
      let next = went mid.2 (λ t none. cc) in
      let bad = next.2 in cc

  inserts : (w : Written) → Inserts task (Values version_cells 2) trees (Ok w) → Refers All archive_schema w.trees
  inserts w h =
      let given = passed h in
      let counter = passed given.2 in
      let mid = passed counter.2 in
      let next = passed mid.2 in
      let same : w.trees ≡ mid.0 = ap (λ (it : Written). it.trees) (value_is next.2) ∙ value_is next.1 in
      subst (Refers All archive_schema) (sym same) (refers trees empty given.0 given.1.1 mid.0 mid.1)

  number_never : (stop : Option Error) → ¬ StatementMayEndIn insert_version_statement (over archive_schema trees) (Err stop)
  number_never stop h =
      let w = went (may_end number_step trees (Err stop) h) never_inserts in
      let tested = went w.2 (λ t refused. refused.0 (inserts w.0 w.1)) in
      let shown = went tested.2 (λ t none. cc) in
      let bad = shown.2 in cc

-- ---- one after the other

-- over tables without rows SQL refuses none of these in its turn
record Never (statements : List Statement) (s : Schema) : Type 0 where
  never : (trees : Trees) → AreEmpty trees s.tables → ¬ IsAnyStatementRefused statements (over s trees)

then_never : {st : Statement} {rest : List Statement} {from to : Schema} {k : Command} → IsStep from st k → Extends k st from to → Never rest to → Never (st ∷ rest) from
then_never {st} {rest} {from} {to} {k} step extends later = record {
  never = λ trees empty it. elim it [
    | inl refused ↦ extends.never trees empty refused.0 (may_end step trees (Err refused.0) refused.1)
    | inr on ↦
        let made = may_end step trees (Ok (on.1.0, on.0)) on.1.1 in
        later.never on.0.trees (extends.empty None at_once trees on.1.0 on.0 empty made)
        (subst (λ s. IsAnyStatementRefused rest (over s on.0.trees)) (extends.turns.schema None at_once trees on.1.0 on.0 made) on.2)
  ];
}

number_last : Never (insert_version_statement ∷ []) archive_schema
number_last = record { never = λ trees empty it. elim it [ inl refused ↦ number_never trees empty refused.0 refused.1 | inr on ↦ on.2 ] }

all_never : Never all_create_statements empty_schema
all_never =
    then_never version_step version_extends (then_never list_step list_extends (then_never person_step person_extends (then_never grant_step grant_extends
    (then_never message_step message_extends (then_never month_index_step month_index_extends (then_never author_index_step author_index_extends
    (then_never option_step option_extends (then_never address_step address_extends number_last))))))))

pub never_unmade : (db : Database) → db.schema ≡ empty_schema → ¬ IsAnyStatementRefused all_create_statements db
never_unmade db none h = all_never.never db.trees tt (subst (λ s. IsAnyStatementRefused all_create_statements (over s db.trees)) none h)
