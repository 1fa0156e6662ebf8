-- The table `person`, as a table of records.
use Rattle.std.proofs.Common.{◌≡◌, ◌≤◌, ◌+◌, inl, inr, ℤ, List, [], ◌∷◌, map, length, refl, ap₂, ◌∙◌, false, true, Bool, arith}
use Rattle.std.specs.Prelude.{◌&&◌, ◌||◌, not, nat_lt, bytes_eq}
use Rattle.std.specs.List.{AllByRecursion, list_any}
use Rattle.sqlite.specs.declared.types.Value.TheVariants.{Int}
use Rattle.sqlite.specs.Order.{Row}
use Rattle.sqlite.specs.Edit.{IsOversized, is_referred}
use Rattle.sqlite.specs.Tree.{Trees, with_tree}
use Rattle.sqlite_rules.proofs.ListLemmas.{all_has}
use Rattle.sqlite_schema.specs.declared.schema.Constraint.TheVariants.{Unique}
use Rattle.sqlite_schema.specs.declared.schema.Index.{Index}
use Rattle.sqlite_schema.specs.declared.schema.Keys.TheVariants.{Enforced}
use Rattle.sqlite_schema.specs.Rules.{references_fit, agree, clashes, passes, Keeps, table_reals, index_reals}
use Rattle.sqlite_sql.specs.Catalog.{entry_of}
use Rattle.sqlite_tied.specs.Compute.{everything}
use Rattle.sqlite_trees.proofs.ListLemmas.{all_weaker, all_both}
use Rattle.sqlite_trees.specs.View.{IsStorable, IsStorableRow}
use Rattle.sqlite_value.specs.Keys.{plain}
use Rattle.archive_model.specs.Records.{Person}
use Rattle.archive_tables.specs.Schema.{archive_schema, person_table}
use Rattle.archive_tables.specs.Tables.{person_cells, person_from_row, HoldsRecords, HaveDistinctKeys}
use Rattle.archive_tables.proofs.SelectLemmas.{alone, text_is, text_flips}
use Rattle.archive_sound.specs.Room.{longest_row}
use Rattle.archive_sound.proofs.RecordLemmas.{no_clash, apart_by}
use Rattle.archive_sound.proofs.TableLemmas.{IsTableOf}
use Rattle.archive_sound.proofs.ValueLemmas.{integer, storable, none_of}

abbrev same_name : Person → Person → Bool
same_name p q = bytes_eq q.name p.name

abbrev same_token : Person → Person → Bool
same_token p q = bytes_eq q.token p.token

-- they share their name or their token
abbrev pub same_person : Person → Person → Bool
same_person p q = same_name p q || same_token p q

abbrev pub IsShortPerson : Person → Type 0
IsShortPerson p = length p.name + length p.token ≤ longest_row

abbrev pub names_none : Trees → Person → Bool
names_none db p = true

module _ (n : ℤ) (p : Person) (short : IsShortPerson p) where
  row_stored : IsStorableRow (table_reals person_table) (Int n ∷ person_cells p)
  unfolding lib.Ieee.is_nan
  row_stored = (storable _ _ refl (omega arith) (omega arith) (integer n, (tt, (tt, tt))) (omega (arith, short)), omega arith)

  abbrev IsKeyed : Index → Type 0
  IsKeyed i = i.table ≡ 3 → IsStorable (index_reals (table_reals person_table) i.columns) (entry_of i.columns (Int n ∷ person_cells p))

  name_stored : IsStorable (index_reals (table_reals person_table) (1 ∷ [])) (entry_of (1 ∷ []) (Int n ∷ person_cells p))
  unfolding lib.Ieee.is_nan
  name_stored = storable _ _ refl (omega arith) (omega arith) (tt, (integer n, tt)) (omega (arith, short))

  token_stored : IsStorable (index_reals (table_reals person_table) (2 ∷ [])) (entry_of (2 ∷ []) (Int n ∷ person_cells p))
  unfolding lib.Ieee.is_nan
  token_stored = storable _ _ refl (omega arith) (omega arith) (tt, (integer n, tt)) (omega (arith, short))

  keys_stored : AllByRecursion IsKeyed archive_schema.indexes
  keys_stored = (
    λ e. absurd (omega (arith, e)),
    (
      λ e. name_stored,
      (
        λ e. token_stored,
        (
          λ e. absurd (omega (arith, e)),
          (λ e. absurd (omega (arith, e)), (λ e. absurd (omega (arith, e)), (λ e. absurd (omega (arith, e)), (λ e. absurd (omega (arith, e)), (λ e. absurd (omega (arith, e)), tt))))),
        ),
      ),
    ),
  )

  person_small : ¬ IsOversized archive_schema person_table (Int n ∷ person_cells p)
  person_small (inl big) = big row_stored
  person_small (inr it) = it.3 (all_has IsKeyed archive_schema.indexes it.0 keys_stored it.1 it.2)

name_agrees : (n m : ℤ) (p q : Person) → agree plain (1 ∷ []) (Int n ∷ person_cells p) (1 ∷ []) (Int m ∷ person_cells q) ≡ same_name q p
unfolding everything
name_agrees n m p q = alone _ ∙ text_is p.name q.name

token_agrees : (n m : ℤ) (p q : Person) → agree plain (2 ∷ []) (Int n ∷ person_cells p) (2 ∷ []) (Int m ∷ person_cells q) ≡ same_token q p
unfolding everything
token_agrees n m p q = alone _ ∙ text_is p.token q.token

flips : (p q : Person) → same_person p q ≡ same_person q p
flips p q = ap₂ ◌||◌ (text_flips q.name p.name) (text_flips q.token p.token)

persons_unique : (db : Trees) (rows : List Row) → Keeps Unique archive_schema db → HoldsRecords person_cells person_from_row rows
    → HaveDistinctKeys same_person (map person_from_row rows) → Keeps Unique archive_schema (with_tree db 3 rows)
persons_unique db rows u holds distinct =
    let names = no_clash person_cells same_person (1 ∷ []) (λ n m p q apart. name_agrees n m p q ∙ (none_of _ _ apart).0) flips person_from_row (λ n p. refl) rows holds distinct in
    let tokens = no_clash person_cells same_person (2 ∷ []) (λ n m p q apart. token_agrees n m p q ∙ (none_of _ _ apart).1) flips person_from_row (λ n p. refl) rows holds distinct in
    let mine = all_both (λ row. clashes plain (1 ∷ []) rows row ≡ false) (λ row. clashes plain (2 ∷ []) rows row ≡ false)
    (λ row. passes Unique archive_schema (with_tree db 3 rows) person_table row ≡ true)
    (λ row free other. ap₂ (λ b c. not b && (not c && true)) free other) rows names tokens in
    (u.0, (u.1.0, (mine, u.1.1.1)))

not_so : (b c : Bool) → (not b && (not c && true)) ≡ true → (b ≡ false) × (c ≡ false)
not_so true c h = absurd cc
not_so false true h = absurd cc
not_so false false h = (refl, refl)

distinct_both : (ps : List Person) → HaveDistinctKeys same_name ps → HaveDistinctKeys same_token ps → HaveDistinctKeys same_person ps
distinct_both [] names tokens = tt
distinct_both (p ∷ ps) names tokens = (neither p ps names.0 tokens.0, distinct_both ps names.1 tokens.1)
  where
    neither : (p : Person) (ps : List Person) → list_any (same_name p) ps ≡ false → list_any (same_token p) ps ≡ false → list_any (same_person p) ps ≡ false
    neither p [] name token = refl
    neither p (q ∷ ps) name token = let a = none_of _ _ name in let b = none_of _ _ token in ap₂ ◌||◌ (ap₂ ◌||◌ a.0 b.0) (neither p ps a.1 b.1)

-- no name and no token twice
pub persons_distinct : (db : Trees) → Keeps Unique archive_schema db → HoldsRecords person_cells person_from_row (db 3) → HaveDistinctKeys same_person (map person_from_row (db 3))
persons_distinct db u holds =
    let rows_differ = all_weaker (λ row. passes Unique archive_schema db person_table row ≡ true) (λ row. (clashes plain (1 ∷ []) (db 3) row ≡ false) × (clashes plain (2 ∷ []) (db 3) row ≡ false))
    (λ row h. not_so _ _ h) (db 3) u.1.1.0 in
    distinct_both (map person_from_row (db 3))
    (apart_by person_cells same_name (1 ∷ []) name_agrees person_from_row (λ n p. refl) (db 3) holds
    (all_weaker _ (λ row. clashes plain (1 ∷ []) (db 3) row ≡ false) (λ row both. both.0) (db 3) rows_differ))
    (apart_by person_cells same_token (2 ∷ []) token_agrees person_from_row (λ n p. refl) (db 3) holds
    (all_weaker _ (λ row. clashes plain (2 ∷ []) (db 3) row ≡ false) (λ row both. both.1) (db 3) rows_differ))

fit : (gone : List ℤ) (news : List Row) → is_referred archive_schema Enforced (record { table = person_table; gone = gone; news = news }) ≡ true
unfolding everything
fit gone news = each (nat_lt 0 (length news)) (nat_lt 0 (length gone))
  where
    each : (adds removes : Bool) → references_fit archive_schema person_table adds removes ≡ true
    each true true = refl
    each true false = refl
    each false true = refl
    each false false = refl

pub person_facts : IsTableOf person_table person_cells person_from_row same_person IsShortPerson names_none
person_facts = record {
  back = λ n p. refl;
  flips = flips;
  typed = λ db n p. refl;
  present = λ db n p. refl;
  small = person_small;
  fit = fit;
  unique = persons_unique;
  checks = λ db c. c.1.1.0;
  names_are = λ db n p. refl;
  low = λ trees. refl;
}
