-- What becomes of all tables where one changes.
use Rattle.std.proofs.Common.{◌≡◌, ◌≢◌, inl, inr, ℕ, ℤ, ◌==◌, List, map, sym, ap, subst, ◌∙◌, arith, eqb-true}
use Rattle.std.proofs.lemmas.Bool.{cases_Bool, eqb-false}
use Rattle.std.specs.List.{AllByRecursion}
use Rattle.sqlite.specs.Order.{Row}
use Rattle.sqlite.specs.Table.{Table}
use Rattle.sqlite.specs.Tree.{Trees, with_tree}
use Rattle.archive_model.specs.Records.{Archive}
use Rattle.archive_tables.specs.Schema.{archive_schema}
use Rattle.archive_tables.specs.Tables.{HoldsIf, HoldsRecords, HaveDistinctKeys, HavePositiveRowids, AreTablesWithVersionRow, AreArchiveTables, newest_version, version_rows, archive_in_trees}
use Rattle.archive_tables.specs.Tables.{list_cells, list_from_row, person_cells, person_from_row, grant_cells, grant_from_row, message_from_row, indexed_message_cells, index_columns_from_row}
use Rattle.archive_tables.specs.Tables.{indexed_message_from_row, option_cells, option_from_row, address_cells, address_from_row, same_grant_key, same_message_key, same_option_key, same_address_key}

-- every table but the one of this tree is as before
pub record SameBut (t : ℕ) (old new : Trees) : Type 0 where
  pub version : 0 ≢ t → new 0 ≡ old 0
  pub lists : 1 ≢ t → new 1 ≡ old 1
  pub persons : 3 ≢ t → new 3 ≡ old 3
  pub grants : 6 ≢ t → new 6 ≡ old 6
  pub messages : 8 ≢ t → new 8 ≡ old 8
  pub options : 13 ≢ t → new 13 ≡ old 13
  pub addresses : 15 ≢ t → new 15 ≡ old 15

pub same_but : (t : ℕ) (old new : Trees) → AllByRecursion (λ (table : Table). table.tree ≢ t → new table.tree ≡ old table.tree) archive_schema.tables → SameBut t old new
same_but t old new all = record {
  version = all.0;
  lists = all.1.0;
  persons = all.1.1.0;
  grants = all.1.1.1.0;
  messages = all.1.1.1.1.0;
  options = all.1.1.1.1.1.1.0;
  addresses = all.1.1.1.1.1.1.1.0;
}

pub archive_same : (a b : Archive) → a.lists ≡ b.lists → a.persons ≡ b.persons → a.grants ≡ b.grants → a.messages ≡ b.messages → a.index_columns ≡ b.index_columns
    → a.options ≡ b.options → a.addresses ≡ b.addresses → a ≡ b
archive_same a b p q r s t u v = λ i. record { lists = p i; persons = q i; grants = r i; messages = s i; index_columns = t i; options = u i; addresses = v i }

-- what is known of the rows of the table of this tree
abbrev pub IsOfTree : ℕ → List Row → Type 0
IsOfTree t rows =
    HoldsIf (t == 1) (HoldsRecords list_cells list_from_row rows)
    × HoldsIf (t == 3) (HoldsRecords person_cells person_from_row rows)
    × HoldsIf (t == 6) (HoldsRecords grant_cells grant_from_row rows × HaveDistinctKeys same_grant_key (map grant_from_row rows))
    × HoldsIf (t == 8) (HoldsRecords indexed_message_cells indexed_message_from_row rows × HaveDistinctKeys same_message_key (map message_from_row rows) × HavePositiveRowids rows)
    × HoldsIf (t == 13) (HoldsRecords option_cells option_from_row rows × HaveDistinctKeys same_option_key (map option_from_row rows))
    × HoldsIf (t == 15) (HoldsRecords address_cells address_from_row rows × HaveDistinctKeys same_address_key (map address_from_row rows))

module _ {said : ℤ} (old new : Trees) (k : AreTablesWithVersionRow said newest_version old) (t : ℕ) (rows : List Row) (is : new t ≡ rows) (holds : IsOfTree t rows) where
  of_tree : (n : ℕ) → (n ≢ t → new n ≡ old n) → IsOfTree n (old n) → IsOfTree n (new n) × (new n ≡ with_tree old t rows n)
  of_tree n same was = elim (cases_Bool (n == t)) [
    | inl e ↦
        let here = eqb-true n t e in
        (subst (λ m. IsOfTree m (new m)) (sym here) (subst (IsOfTree t) (sym is) holds), rw e (ap new here ∙ is))
    | inr e ↦ let kept = same (eqb-false n t e) in (subst (IsOfTree n) (sym kept) was, rw e kept)
  ]

  -- where one table changes, the others are as they were
  pub one_changes : (now_says : ℤ) → SameBut t old new → new 0 ≡ version_rows now_says
      → AreTablesWithVersionRow now_says newest_version new × (archive_in_trees new ≡ archive_in_trees (with_tree old t rows))
  one_changes now_says same version =
      let lists = of_tree 1 same.lists (k.lists, tt, tt, tt, tt, tt) in
      let persons = of_tree 3 same.persons (tt, k.persons, tt, tt, tt, tt) in
      let grants = of_tree 6 same.grants (tt, tt, (k.grants, k.grants_distinct), tt, tt, tt) in
      let messages = of_tree 8 same.messages (tt, tt, tt, (k.messages, k.messages_distinct, k.rowids_are_positive), tt, tt) in
      let options = of_tree 13 same.options (tt, tt, tt, tt, (k.options, k.options_distinct), tt) in
      let addresses = of_tree 15 same.addresses (tt, tt, tt, tt, tt, (k.addresses, k.addresses_distinct)) in (
        record {
          version = version;
          lists = lists.0.0;
          persons = persons.0.1;
          grants = grants.0.2.0;
          messages = messages.0.3.0;
          grants_distinct = grants.0.2.1;
          messages_distinct = messages.0.3.1;
          rowids_are_positive = messages.0.3.2;
          options = options.0.4.0;
          options_distinct = options.0.4.1;
          addresses = addresses.0.5.0;
          addresses_distinct = addresses.0.5.1;
        },
        archive_same _ _ (ap (map list_from_row) lists.1) (ap (map person_from_row) persons.1) (ap (map grant_from_row) grants.1) (ap (map message_from_row) messages.1)
            (ap (map index_columns_from_row) messages.1) (ap (map option_from_row) options.1) (ap (map address_from_row) addresses.1),
      )

module _ (old new : Trees) (k : AreArchiveTables old) where
  pub lists_change : SameBut 1 old new → (rows : List Row) → new 1 ≡ rows → HoldsRecords list_cells list_from_row rows
      → AreArchiveTables new × (archive_in_trees new ≡ record (archive_in_trees old) { lists = map list_from_row rows })
  lists_change same rows is holds = one_changes old new k 1 rows is (holds, tt, tt, tt, tt, tt) _ same (same.version (λ e. omega (arith, e)) ∙ k.version)

  pub persons_change : SameBut 3 old new → (rows : List Row) → new 3 ≡ rows → HoldsRecords person_cells person_from_row rows
      → AreArchiveTables new × (archive_in_trees new ≡ record (archive_in_trees old) { persons = map person_from_row rows })
  persons_change same rows is holds = one_changes old new k 3 rows is (tt, holds, tt, tt, tt, tt) _ same (same.version (λ e. omega (arith, e)) ∙ k.version)

  pub grants_change : SameBut 6 old new → (rows : List Row) → new 6 ≡ rows → HoldsRecords grant_cells grant_from_row rows → HaveDistinctKeys same_grant_key (map grant_from_row rows)
      → AreArchiveTables new × (archive_in_trees new ≡ record (archive_in_trees old) { grants = map grant_from_row rows })
  grants_change same rows is holds apart = one_changes old new k 6 rows is (tt, tt, (holds, apart), tt, tt, tt) _ same (same.version (λ e. omega (arith, e)) ∙ k.version)

  pub messages_change : SameBut 8 old new → (rows : List Row) → new 8 ≡ rows → HoldsRecords indexed_message_cells indexed_message_from_row rows
      → HaveDistinctKeys same_message_key (map message_from_row rows) → HavePositiveRowids rows
      → AreArchiveTables new × (archive_in_trees new ≡ record (archive_in_trees old) { messages = map message_from_row rows; index_columns = map index_columns_from_row rows })
  messages_change same rows is holds apart positive =
      one_changes old new k 8 rows is (tt, tt, tt, (holds, apart, positive), tt, tt) _ same (same.version (λ e. omega (arith, e)) ∙ k.version)

  pub options_change : SameBut 13 old new → (rows : List Row) → new 13 ≡ rows → HoldsRecords option_cells option_from_row rows → HaveDistinctKeys same_option_key (map option_from_row rows)
      → AreArchiveTables new × (archive_in_trees new ≡ record (archive_in_trees old) { options = map option_from_row rows })
  options_change same rows is holds apart = one_changes old new k 13 rows is (tt, tt, tt, tt, (holds, apart), tt) _ same (same.version (λ e. omega (arith, e)) ∙ k.version)

  pub addresses_change : SameBut 15 old new → (rows : List Row) → new 15 ≡ rows → HoldsRecords address_cells address_from_row rows → HaveDistinctKeys same_address_key (map address_from_row rows)
      → AreArchiveTables new × (archive_in_trees new ≡ record (archive_in_trees old) { addresses = map address_from_row rows })
  addresses_change same rows is holds apart = one_changes old new k 15 rows is (tt, tt, tt, tt, tt, (holds, apart)) _ same (same.version (λ e. omega (arith, e)) ∙ k.version)
