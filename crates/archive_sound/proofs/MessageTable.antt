-- The table `message`, as a table of records.
use Rattle.std.proofs.Common.{◌≡◌, ◌≤◌, inl, inr, ℤ, pos, negsuc, List, [], ◌∷◌, map, length, refl, sym, ap, ap₂, ◌∙◌, false, true, Bool, None, Some, arith}
use Rattle.std.specs.Prelude.{◌&&◌, ◌||◌, not, nat_lt, if◌then◌else◌}
use Rattle.std.specs.List.{AllByRecursion, list_any}
use Rattle.sqlite.specs.declared.types.Value.TheVariants.{Int}
use Rattle.sqlite.specs.Order.{Row}
use Rattle.sqlite.specs.Edit.{IsOversized, is_referred}
use Rattle.sqlite.specs.Tree.{Trees, with_tree}
use Rattle.sqlite_rules.proofs.ListLemmas.{all_has}
use Rattle.sqlite_schema.specs.declared.schema.Constraint.TheVariants.{Datatype, NotNull, Check, Unique}
use Rattle.sqlite_schema.specs.declared.schema.Index.{Index}
use Rattle.sqlite_schema.specs.declared.schema.Keys.TheVariants.{Enforced}
use Rattle.sqlite_schema.specs.Rules.{references_fit, agree, clashes, passes, Keeps, table_reals, index_reals}
use Rattle.sqlite_sql.specs.Catalog.{entry_of}
use Rattle.sqlite_tied.specs.Compute.{everything}
use Rattle.sqlite_trees.proofs.ListLemmas.{all_weaker}
use Rattle.sqlite_trees.specs.View.{IsStorable, IsStorableRow}
use Rattle.sqlite_value.specs.Keys.{plain}
use Rattle.archive_model.specs.Records.{Message}
use Rattle.archive_model.specs.Filing.{IndexedMessage}
use Rattle.archive_tables.specs.Schema.{archive_schema, message_table}
use Rattle.archive_tables.specs.Tables.{indexed_message_cells, indexed_message_from_row, message_from_row, index_columns_from_row, int_or_null_value, same_message_key, HoldsRecords, HaveDistinctKeys}
use Rattle.archive_tables.proofs.MessageLemmas.{filed_back, flips, messages_are, filings_are}
use Rattle.archive_tables.proofs.SelectLemmas.{alone, text_is}
use Rattle.archive_sound.specs.Room.{message_bytes, longest_row}
use Rattle.archive_sound.proofs.RecordLemmas.{no_clash}
use Rattle.archive_sound.proofs.ReferLemmas.{names_list, message_names}
use Rattle.archive_sound.proofs.TableLemmas.{IsTableOf}
use Rattle.archive_sound.proofs.ValueLemmas.{is_within, integer, storable}

-- ---- the rules of a row

pub message_typed : (trees : Trees) (n : ℤ) (f : IndexedMessage) → passes Datatype archive_schema trees message_table (Int n ∷ indexed_message_cells f) ≡ true
message_typed trees n f =
    elim f.0.embargo as (λ o. passes Datatype archive_schema trees message_table (Int n ∷ indexed_message_cells (record f.0 { embargo = o }, f.1)) ≡ true) [ None ↦ refl | Some d ↦ refl ]

pub message_present : (trees : Trees) (n : ℤ) (f : IndexedMessage) → passes NotNull archive_schema trees message_table (Int n ∷ indexed_message_cells f) ≡ true
message_present trees n f = refl

pub message_checks : (trees : Trees) (n : ℤ) (f : IndexedMessage) → passes Check archive_schema trees message_table (Int n ∷ indexed_message_cells f)
    ≡ (is_within (pos 0) (pos 2) (Int f.0.withdrawn) && (is_within (negsuc 25566) (pos 2932531) (int_or_null_value f.0.embargo) && true))
message_checks trees n f = refl

-- ---- a row that can be stored

module _ (n : ℤ) (f : IndexedMessage) (short : message_bytes f ≤ longest_row) where
  row_stored : IsStorableRow (table_reals message_table) (Int n ∷ indexed_message_cells f)
  unfolding lib.Ieee.is_nan
  row_stored = elim f.0.embargo as (λ o. IsStorableRow (table_reals message_table) (Int n ∷ indexed_message_cells (record f.0 { embargo = o }, f.1))) [
    | None ↦ (
      storable _ _ refl (omega arith) (omega arith)
          (integer n, (tt, (tt, (tt, (tt, (integer f.0.arrival, (tt, (integer f.0.withdrawn, (tt, (integer f.1.sent, (integer f.1.month, (tt, tt)))))))))))) (omega (arith, short)),
      omega arith,
    )
    | Some day ↦ (
      storable _ _ refl (omega arith) (omega arith)
          (integer n, (tt, (tt, (tt, (tt, (integer f.0.arrival, (tt, (integer f.0.withdrawn, (integer day, (integer f.1.sent, (integer f.1.month, (tt, tt)))))))))))) (omega (arith, short)),
      omega arith,
    )
  ]

  abbrev IsKeyed : Index → Type 0
  IsKeyed i = i.table ≡ 8 → IsStorable (index_reals (table_reals message_table) i.columns) (entry_of i.columns (Int n ∷ indexed_message_cells f))

  key_stored : IsStorable (index_reals (table_reals message_table) (2 ∷ 3 ∷ [])) (entry_of (2 ∷ 3 ∷ []) (Int n ∷ indexed_message_cells f))
  unfolding lib.Ieee.is_nan
  key_stored = storable _ _ refl (omega arith) (omega arith) (tt, (tt, (integer n, tt))) (omega (arith, short))

  month_stored : IsStorable (index_reals (table_reals message_table) (2 ∷ 10 ∷ 9 ∷ 0 ∷ [])) (entry_of (2 ∷ 10 ∷ 9 ∷ 0 ∷ []) (Int n ∷ indexed_message_cells f))
  unfolding lib.Ieee.is_nan
  month_stored = storable _ _ refl (omega arith) (omega arith) (tt, (integer f.1.month, (integer f.1.sent, (integer n, (integer n, tt))))) (omega (arith, short))

  author_stored : IsStorable (index_reals (table_reals message_table) (2 ∷ 11 ∷ 9 ∷ 0 ∷ [])) (entry_of (2 ∷ 11 ∷ 9 ∷ 0 ∷ []) (Int n ∷ indexed_message_cells f))
  unfolding lib.Ieee.is_nan
  author_stored = storable _ _ refl (omega arith) (omega arith) (tt, (tt, (integer f.1.sent, (integer n, (integer n, tt))))) (omega (arith, short))

  keys_stored : AllByRecursion IsKeyed archive_schema.indexes
  keys_stored = (
    λ e. absurd (omega (arith, e)),
    (
      λ e. absurd (omega (arith, e)),
      (
        λ e. absurd (omega (arith, e)),
        (
          λ e. absurd (omega (arith, e)),
          (
            λ e. key_stored,
            (
              λ e. month_stored,
              (
                λ e. author_stored,
                (λ e. absurd (omega (arith, e)), (λ e. absurd (omega (arith, e)), tt)),
              ),
            ),
          ),
        ),
      ),
    ),
  )

  pub message_small : ¬ IsOversized archive_schema message_table (Int n ∷ indexed_message_cells f)
  message_small (inl big) = big row_stored
  message_small (inr it) = it.3 (all_has IsKeyed archive_schema.indexes it.0 keys_stored it.1 it.2)

-- ---- messages of the same key

abbrev pub same_filed : IndexedMessage → IndexedMessage → Bool
same_filed f g = same_message_key f.0 g.0

pub none_alike : (m : Message) (rows : List Row)
    → list_any (λ (f : IndexedMessage). same_message_key m f.0) (map indexed_message_from_row rows) ≡ list_any (same_message_key m) (map message_from_row rows)
none_alike m [] = refl
none_alike m (row ∷ rows) = ap (λ b. same_message_key m (message_from_row row) || b) (none_alike m rows)

pub filed_apart : (rows : List Row) → HaveDistinctKeys same_message_key (map message_from_row rows) → HaveDistinctKeys same_filed (map indexed_message_from_row rows)
filed_apart [] apart = tt
filed_apart (row ∷ rows) apart = (none_alike (message_from_row row) rows ∙ apart.0, filed_apart rows apart.1)

pub messages_apart : (rows : List Row) → HaveDistinctKeys same_filed (map indexed_message_from_row rows) → HaveDistinctKeys same_message_key (map message_from_row rows)
messages_apart [] apart = tt
messages_apart (row ∷ rows) apart = (sym (none_alike (message_from_row row) rows) ∙ apart.0, messages_apart rows apart.1)

-- a message is changed, and what is filed of it stays
module _ (p : Message → Bool) (set : Message → Message) where
  abbrev change_if : Bool → IndexedMessage → IndexedMessage
  change_if b f = if b then (set f.0, f.1) else f

  firsts : (fs : List IndexedMessage) → map (λ (f : IndexedMessage). f.0) (map (λ (f : IndexedMessage). change_if (p f.0) f) fs)
      ≡ map (λ (m : Message). if p m then set m else m) (map (λ (f : IndexedMessage). f.0) fs)
  firsts [] = refl
  firsts (f ∷ fs) = ap₂ ◌∷◌ (by_test (p f.0)) (firsts fs)
    where
      by_test : (b : Bool) → (change_if b f).0 ≡ (if b then set f.0 else f.0)
      by_test true = refl
      by_test false = refl

  seconds : (fs : List IndexedMessage) → map (λ (f : IndexedMessage). f.1) (map (λ (f : IndexedMessage). change_if (p f.0) f) fs) ≡ map (λ (f : IndexedMessage). f.1) fs
  seconds [] = refl
  seconds (f ∷ fs) = ap₂ ◌∷◌ (by_test (p f.0)) (seconds fs)
    where
      by_test : (b : Bool) → (change_if b f).1 ≡ f.1
      by_test true = refl
      by_test false = refl

  pub changed_parts : (new old : List Row) → map indexed_message_from_row new ≡ map (λ (f : IndexedMessage). change_if (p f.0) f) (map indexed_message_from_row old)
      → (map message_from_row new ≡ map (λ (m : Message). if p m then set m else m) (map message_from_row old)) × (map index_columns_from_row new ≡ map index_columns_from_row old)
  changed_parts new old is = (
    sym (messages_are new) ∙ ap (map (λ (f : IndexedMessage). f.0)) is ∙ firsts (map indexed_message_from_row old) ∙ ap (map (λ (m : Message). if p m then set m else m)) (messages_are old),
    sym (filings_are new) ∙ ap (map (λ (f : IndexedMessage). f.1)) is ∙ seconds (map indexed_message_from_row old) ∙ filings_are old,
  )

pub message_agrees : (n m : ℤ) (f g : IndexedMessage) → agree plain (2 ∷ 3 ∷ []) (Int n ∷ indexed_message_cells f) (2 ∷ 3 ∷ []) (Int m ∷ indexed_message_cells g) ≡ same_filed g f
unfolding everything
message_agrees n m f g = ap₂ ◌&&◌ (text_is f.0.list g.0.list) (alone _ ∙ text_is f.0.key g.0.key)

-- the messages of these rows have different keys, and the other tables are as they were
pub messages_unique : (db : Trees) (rows : List Row) → Keeps Unique archive_schema db → HoldsRecords indexed_message_cells indexed_message_from_row rows
    → HaveDistinctKeys same_filed (map indexed_message_from_row rows) → Keeps Unique archive_schema (with_tree db 8 rows)
messages_unique db rows u holds distinct =
    let none = no_clash indexed_message_cells same_filed (2 ∷ 3 ∷ []) (λ n m f g apart. message_agrees n m f g ∙ apart)
    (λ f g. flips f.0 g.0) indexed_message_from_row filed_back rows holds distinct in
    let mine = all_weaker (λ row. clashes plain (2 ∷ 3 ∷ []) rows row ≡ false) (λ row. passes Unique archive_schema (with_tree db 8 rows) message_table row ≡ true)
    (λ row free. ap (λ b. not b && true) free) rows none in
    (u.0, (u.1.0, (u.1.1.0, (u.1.1.1.0, (mine, u.1.1.1.1.1)))))

-- the names that messages refer to are keys
fit : (gone : List ℤ) (news : List Row) → is_referred archive_schema Enforced (record { table = message_table; gone = gone; news = news }) ≡ true
unfolding everything
fit gone news = both (nat_lt 0 (length news)) (nat_lt 0 (length gone))
  where
    both : (adds removes : Bool) → references_fit archive_schema message_table adds removes ≡ true
    both true true = refl
    both true false = refl
    both false true = refl
    both false false = refl

abbrev pub IsShortMessage : IndexedMessage → Type 0
IsShortMessage f = message_bytes f ≤ longest_row

abbrev pub message_list_is_there : Trees → IndexedMessage → Bool
message_list_is_there db f = names_list db f.0.list

pub message_facts : IsTableOf message_table indexed_message_cells indexed_message_from_row same_filed IsShortMessage message_list_is_there
message_facts = record {
  back = filed_back;
  flips = λ f g. flips f.0 g.0;
  typed = message_typed;
  present = message_present;
  small = message_small;
  fit = fit;
  unique = messages_unique;
  checks = λ db c. c.1.1.1.1.0;
  names_are = message_names;
  low = λ trees. refl;
}
