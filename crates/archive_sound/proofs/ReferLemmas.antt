-- The foreign keys of an archive's tables: each is on the name of a list or of a person.
use Rattle.std.proofs.Common.{◌≡◌, inl, inr, ℕ, ℤ, pos, Bool, true, false, List, [], ◌∷◌, ◌++◌, map, refl, sym, ap, ap₂, subst, ◌∙◌, arith}
use Rattle.std.specs.Prelude.{◌&&◌, ◌||◌, bytes_eq}
use Rattle.std.specs.List.{AllByRecursion, list_any}
use Rattle.std.proofs.lemmas.Bool.{or_cases, or_left, or_right}
use Rattle.sqlite.specs.declared.types.Value.TheVariants.{Null, Int, Text}
use Rattle.sqlite.specs.Order.{Row}
use Rattle.sqlite.specs.Table.{Table}
use Rattle.sqlite.specs.Tree.{Trees}
use Rattle.sqlite_schema.specs.declared.schema.Among.TheVariants.{All}
use Rattle.sqlite_schema.specs.declared.schema.Constraint.{Constraint}
use Rattle.sqlite_schema.specs.declared.schema.Constraint.TheVariants.{Datatype, NotNull, Check, PrimaryKey, Unique, ForeignKey}
use Rattle.sqlite_schema.specs.Rules.{Fits, passes, Keeps, Refers}
use Rattle.sqlite_tied.specs.Compute.{everything}
use Rattle.sqlite_trees.proofs.ListLemmas.{all_weaker}
use Rattle.archive_model.specs.Filing.{IndexedMessage}
use Rattle.archive_model.specs.Records.{ListOption, Address, Grant, Person}
use Rattle.archive_tables.specs.Schema.{archive_schema, grant_table, message_table, option_table, address_table}
use Rattle.archive_tables.specs.Tables.{indexed_message_cells, option_cells, address_cells, grant_cells, list_cells, list_from_row, person_cells, person_from_row, HoldsRecords}
use Rattle.archive_tables.specs.Tables.{numbered_row, numbered_from_row}
use Rattle.archive_tables.proofs.SelectLemmas.{alone, text_is}
use Rattle.archive_tables.proofs.TableLemmas.{SameBut}

-- each row of the table names rows that are there
abbrev pub Refer : Trees → Table → List Row → Type 0
Refer trees table = AllByRecursion (λ row. passes ForeignKey archive_schema trees table row ≡ true)

-- the four tables whose rows name others
pub record AllRefer (trees : Trees) : Type 0 where
  pub grants : Refer trees grant_table (trees 6)
  pub messages : Refer trees message_table (trees 8)
  pub options : Refer trees option_table (trees 13)
  pub addresses : Refer trees address_table (trees 15)

pub they_refer : (trees : Trees) → Keeps ForeignKey archive_schema trees → AllRefer trees
they_refer trees keeps = record { grants = keeps.1.1.1.0; messages = keeps.1.1.1.1.0; options = keeps.1.1.1.1.1.1.0; addresses = keeps.1.1.1.1.1.1.1.0 }

trivially : (rows : List Row) → AllByRecursion (λ row. true ≡ true) rows
trivially [] = tt
trivially (row ∷ rows) = (refl, trivially rows)

pub refers : (trees : Trees) → AllRefer trees → Refers All archive_schema trees
refers trees it =
    (trivially (trees 0), (trivially (trees 1), (trivially (trees 3), (it.grants, (it.messages, (trivially (trees 10), (it.options, (it.addresses, tt))))))))

-- every rule, where each but the foreign keys holds, and these too
abbrev is_foreign_key : Constraint → Bool
is_foreign_key ForeignKey = true
is_foreign_key _ = false

other : (rule : Constraint) → rule ≡ ForeignKey → is_foreign_key rule ≡ false → ⊥
other rule same no_key = let bad = sym (ap is_foreign_key same) ∙ no_key in cc

pub all_rules : (next : Trees) → Fits archive_schema next → AllRefer next → (rule : Constraint) → Keeps rule archive_schema next
all_rules next fits all Datatype = fits.rules Datatype (λ e. other Datatype e refl)
all_rules next fits all NotNull = fits.rules NotNull (λ e. other NotNull e refl)
all_rules next fits all Check = fits.rules Check (λ e. other Check e refl)
all_rules next fits all PrimaryKey = fits.rules PrimaryKey (λ e. other PrimaryKey e refl)
all_rules next fits all Unique = fits.rules Unique (λ e. other Unique e refl)
all_rules next fits all ForeignKey = refers next all

-- ---- names that stay

-- what some row has, some row has still
abbrev pub Grows : List Row → List Row → Type 0
Grows old new = (p : Row → Bool) → list_any p old ≡ true → list_any p new ≡ true

pub record KeepsNames (old new : Trees) : Type 0 where
  pub lists : Grows (old 1) (new 1)
  pub persons : Grows (old 3) (new 3)

pub same_names : (old new : Trees) → new 1 ≡ old 1 → new 3 ≡ old 3 → KeepsNames old new
same_names old new lists persons = record {
  lists = λ p some. subst (λ rows. list_any p rows ≡ true) (sym lists) some;
  persons = λ p some. subst (λ rows. list_any p rows ≡ true) (sym persons) some;
}

-- a name that no row need have, or some row has
one_name : (free : Bool) (p : Row → Bool) (old new : List Row) → Grows old new → ((free || list_any p old) && true) ≡ true → ((free || list_any p new) && true) ≡ true
one_name true p old new grows h = refl
one_name false p old new grows h = ap (λ b. b && true) (grows p (first _ h))
  where
    first : (b : Bool) → (b && true) ≡ true → b ≡ true
    first true h = refl
    first false h = h

two_names : (free other : Bool) (p q : Row → Bool) (old new more newer : List Row) → Grows old new → Grows more newer
    → ((free || list_any p old) && ((other || list_any q more) && true)) ≡ true → ((free || list_any p new) && ((other || list_any q newer) && true)) ≡ true
two_names true other p q old new more newer grows grow h = one_name other q more newer grow h
two_names false other p q old new more newer grows grow h =
    let both = parts _ _ h in
    together _ _ (grows p both.0) (one_name other q more newer grow both.1)
  where
    parts : (a b : Bool) → (a && b) ≡ true → (a ≡ true) × (b ≡ true)
    parts true b h = (refl, h)
    parts false b h = absurd cc

    together : (a b : Bool) → a ≡ true → b ≡ true → (a && b) ≡ true
    together true b h k = k
    together false b h k = h

module _ (old new : Trees) (keeps : KeepsNames old new) where
  message_row : (row : Row) → passes ForeignKey archive_schema old message_table row ≡ true → passes ForeignKey archive_schema new message_table row ≡ true
  unfolding everything
  message_row row h = one_name _ _ _ _ keeps.lists h

  option_row : (row : Row) → passes ForeignKey archive_schema old option_table row ≡ true → passes ForeignKey archive_schema new option_table row ≡ true
  unfolding everything
  option_row row h = one_name _ _ _ _ keeps.lists h

  address_row : (row : Row) → passes ForeignKey archive_schema old address_table row ≡ true → passes ForeignKey archive_schema new address_table row ≡ true
  unfolding everything
  address_row row h = one_name _ _ _ _ keeps.persons h

  grant_row : (row : Row) → passes ForeignKey archive_schema old grant_table row ≡ true → passes ForeignKey archive_schema new grant_table row ≡ true
  unfolding everything
  grant_row row h = two_names _ _ _ _ _ _ _ _ keeps.persons keeps.lists h

  pub messages_stay : (rows : List Row) → Refer old message_table rows → Refer new message_table rows
  messages_stay rows all = all_weaker _ (λ row. passes ForeignKey archive_schema new message_table row ≡ true) message_row rows all

  pub options_stay : (rows : List Row) → Refer old option_table rows → Refer new option_table rows
  options_stay rows all = all_weaker _ (λ row. passes ForeignKey archive_schema new option_table row ≡ true) option_row rows all

  pub addresses_stay : (rows : List Row) → Refer old address_table rows → Refer new address_table rows
  addresses_stay rows all = all_weaker _ (λ row. passes ForeignKey archive_schema new address_table row ≡ true) address_row rows all

  pub grants_stay : (rows : List Row) → Refer old grant_table rows → Refer new grant_table rows
  grants_stay rows all = all_weaker _ (λ row. passes ForeignKey archive_schema new grant_table row ≡ true) grant_row rows all

-- ---- where one table changes

module _ (old new : Trees) (before : AllRefer old) where
  pub grants_after : SameBut 6 old new → Refer old grant_table (new 6) → AllRefer new
  grants_after same all =
      let names = same_names old new (same.lists (λ e. omega (arith, e))) (same.persons (λ e. omega (arith, e))) in
      record {
        grants = grants_stay old new names (new 6) all;
        messages = subst (Refer new message_table) (sym (same.messages (λ e. omega (arith, e)))) (messages_stay old new names (old 8) before.messages);
        options = subst (Refer new option_table) (sym (same.options (λ e. omega (arith, e)))) (options_stay old new names (old 13) before.options);
        addresses = subst (Refer new address_table) (sym (same.addresses (λ e. omega (arith, e)))) (addresses_stay old new names (old 15) before.addresses);
      }

  pub messages_after : SameBut 8 old new → Refer old message_table (new 8) → AllRefer new
  messages_after same all =
      let names = same_names old new (same.lists (λ e. omega (arith, e))) (same.persons (λ e. omega (arith, e))) in
      record {
        grants = subst (Refer new grant_table) (sym (same.grants (λ e. omega (arith, e)))) (grants_stay old new names (old 6) before.grants);
        messages = messages_stay old new names (new 8) all;
        options = subst (Refer new option_table) (sym (same.options (λ e. omega (arith, e)))) (options_stay old new names (old 13) before.options);
        addresses = subst (Refer new address_table) (sym (same.addresses (λ e. omega (arith, e)))) (addresses_stay old new names (old 15) before.addresses);
      }

  pub options_after : SameBut 13 old new → Refer old option_table (new 13) → AllRefer new
  options_after same all =
      let names = same_names old new (same.lists (λ e. omega (arith, e))) (same.persons (λ e. omega (arith, e))) in
      record {
        grants = subst (Refer new grant_table) (sym (same.grants (λ e. omega (arith, e)))) (grants_stay old new names (old 6) before.grants);
        messages = subst (Refer new message_table) (sym (same.messages (λ e. omega (arith, e)))) (messages_stay old new names (old 8) before.messages);
        options = options_stay old new names (new 13) all;
        addresses = subst (Refer new address_table) (sym (same.addresses (λ e. omega (arith, e)))) (addresses_stay old new names (old 15) before.addresses);
      }

  pub addresses_after : SameBut 15 old new → Refer old address_table (new 15) → AllRefer new
  addresses_after same all =
      let names = same_names old new (same.lists (λ e. omega (arith, e))) (same.persons (λ e. omega (arith, e))) in
      record {
        grants = subst (Refer new grant_table) (sym (same.grants (λ e. omega (arith, e)))) (grants_stay old new names (old 6) before.grants);
        messages = subst (Refer new message_table) (sym (same.messages (λ e. omega (arith, e)))) (messages_stay old new names (old 8) before.messages);
        options = subst (Refer new option_table) (sym (same.options (λ e. omega (arith, e)))) (options_stay old new names (old 13) before.options);
        addresses = addresses_stay old new names (new 15) all;
      }

  -- in no table that names others
  names_grow : KeepsNames old new → new 6 ≡ old 6 → new 8 ≡ old 8 → new 13 ≡ old 13 → new 15 ≡ old 15 → AllRefer new
  names_grow names grants messages options addresses = record {
    grants = subst (Refer new grant_table) (sym grants) (grants_stay old new names (old 6) before.grants);
    messages = subst (Refer new message_table) (sym messages) (messages_stay old new names (old 8) before.messages);
    options = subst (Refer new option_table) (sym options) (options_stay old new names (old 13) before.options);
    addresses = subst (Refer new address_table) (sym addresses) (addresses_stay old new names (old 15) before.addresses);
  }

  pub lists_after : SameBut 1 old new → Grows (old 1) (new 1) → AllRefer new
  lists_after same grows =
      names_grow (record { lists = grows; persons = λ p some. subst (λ rows. list_any p rows ≡ true) (sym (same.persons (λ e. omega (arith, e)))) some })
      (same.grants (λ e. omega (arith, e))) (same.messages (λ e. omega (arith, e))) (same.options (λ e. omega (arith, e))) (same.addresses (λ e. omega (arith, e)))

  pub persons_after : SameBut 3 old new → Grows (old 3) (new 3) → AllRefer new
  persons_after same grows =
      names_grow (record { lists = λ p some. subst (λ rows. list_any p rows ≡ true) (sym (same.lists (λ e. omega (arith, e)))) some; persons = grows })
      (same.grants (λ e. omega (arith, e))) (same.messages (λ e. omega (arith, e))) (same.options (λ e. omega (arith, e))) (same.addresses (λ e. omega (arith, e)))

  pub sequence_after : SameBut 10 old new → AllRefer new
  sequence_after same =
      names_grow (same_names old new (same.lists (λ e. omega (arith, e))) (same.persons (λ e. omega (arith, e))))
      (same.grants (λ e. omega (arith, e))) (same.messages (λ e. omega (arith, e))) (same.options (λ e. omega (arith, e))) (same.addresses (λ e. omega (arith, e)))

-- with one row more
pub grows_last : (old : List Row) (row : Row) → Grows old (old ++ row ∷ [])
grows_last [] row p h = absurd cc
grows_last (x ∷ old) row p h = elim (or_cases (p x) (list_any p old) h) [
  | inl here ↦ or_left (p x) (list_any p (old ++ row ∷ [])) here
  | inr later ↦ or_right (p x) (list_any p (old ++ row ∷ []))
      (grows_last old row p later)
]

-- ---- the name alone counts

-- some list has the name
abbrev pub names_list : Trees → List ℕ → Bool
names_list trees name = passes ForeignKey archive_schema trees message_table (Int (pos 0) ∷ Null ∷ Text name ∷ [])

pub message_names : (trees : Trees) (n : ℤ) (f : IndexedMessage) → passes ForeignKey archive_schema trees message_table (Int n ∷ indexed_message_cells f) ≡ names_list trees f.0.list
unfolding everything
message_names trees n f = refl

-- some list has the name of an option, some person that of an address, and each of them that of a grant
pub names_person : Trees → List ℕ → Bool
names_person trees name = passes ForeignKey archive_schema trees address_table (Int (pos 0) ∷ Text name ∷ [])

pub option_names : (trees : Trees) (n : ℤ) (o : ListOption) → passes ForeignKey archive_schema trees option_table (Int n ∷ option_cells o) ≡ names_list trees o.list
unfolding everything
option_names trees n o = refl

pub address_names : (trees : Trees) (n : ℤ) (a : Address) → passes ForeignKey archive_schema trees address_table (Int n ∷ address_cells a) ≡ names_person trees a.person
unfolding everything names_person
address_names trees n a = refl

pub grant_names : (trees : Trees) (n : ℤ) (g : Grant) → passes ForeignKey archive_schema trees grant_table (Int n ∷ grant_cells g) ≡ (names_person trees g.person && names_list trees g.list)
unfolding everything names_person
grant_names trees n g = splits _ _
  where
    splits : (a b : Bool) → (a && (b && true)) ≡ ((a && true) && (b && true))
    splits true b = refl
    splits false b = refl

-- ---- the name of a list or a person of the archive is there

any_record : {R : Type 0} (cells : R → Row) (read : Row → R) (p : Row → Bool) (q : R → Bool) → ((n : ℤ) (r : R) → p (Int n ∷ cells r) ≡ q r) → (rows : List Row) → HoldsRecords cells read rows
    → list_any p rows ≡ list_any q (map read rows)
any_record {R} cells read p q same rows k = ap (list_any p) k.rows_read_back ∙ each rows
  where
    each : (rows : List Row) → list_any p (map (numbered_row cells) (map (numbered_from_row read) rows)) ≡ list_any q (map read rows)
    each [] = refl
    each (row ∷ rows) = ap₂ ◌||◌ (same _ _) (each rows)

sum_is : (a b : Bool) → a ≡ b → ((false || a) && true) ≡ b
sum_is true b h = h
sum_is false b h = h

pub list_named : (trees : Trees) (name : List ℕ) → HoldsRecords list_cells list_from_row (trees 1) → names_list trees name ≡ list_any (λ known. bytes_eq known name) (map list_from_row (trees 1))
unfolding everything
list_named trees name k = sum_is _ _ (any_record list_cells list_from_row _ (λ known. bytes_eq known name) (λ n l. alone _ ∙ text_is l name) (trees 1) k)

pub person_named : (trees : Trees) (name : List ℕ) → HoldsRecords person_cells person_from_row (trees 3)
    → names_person trees name ≡ list_any (λ (p : Person). bytes_eq p.name name) (map person_from_row (trees 3))
unfolding everything names_person
person_named trees name k = sum_is _ _ (any_record person_cells person_from_row _ (λ (p : Person). bytes_eq p.name name) (λ n p. alone _ ∙ text_is p.name name) (trees 3) k)
