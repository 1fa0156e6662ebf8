-- A query over one table of records, with no group, limit or offset.
use Rattle.std.proofs.Common.{◌≡◌, inl, inr, ℕ, ℤ, pos, negsuc, Bool, true, false, cond, not, List, [], ◌∷◌, map, filter}
use Rattle.std.proofs.Common.{flat_map, length, Option, None, Some, refl, sym, ap, ap₂, subst, subst₂, ◌∙◌, arith}
use Rattle.std.specs.Prelude.{nat_eq, ◌&&◌, bytes_eq, find, slice_get}
use Rattle.std.specs.Ordering.{is_eq, int_eq, int_cmp}
use Rattle.std.proofs.Math.Path.{fun_ext}
use Rattle.std.proofs.lemmas.Bool.{cases_Bool}
use Rattle.std.proofs.lemmas.Bool.Decides.{nat_tests}
use Rattle.std.proofs.lemmas.Int.{ints}
use Rattle.std.proofs.lemmas.Slice.Eq.{bytes_eq-Decides}
use Rattle.std.proofs.lemmas.Map.Text.{is_eq-slice_cmp}
use Rattle.std.specs.List.{list_all, list_any, AllByRecursion}
use Rattle.std.specs.List.Sorted.{IsPermutation, IsSorted, IsStrictlySortedBy}
use Rattle.std.specs.declared.cmp.Ordering.TheVariants.{Less}
use Rattle.std.proofs.lemmas.List.{length-map}
use Rattle.std.proofs.lemmas.List.Sorted.{length_permutation, IsPermutation-map}
use Rattle.sqlite.specs.declared.error.Error.{Error}
use Rattle.sqlite.specs.declared.types.Value.TheVariants.{Null, Int, Text}
use Rattle.sqlite.specs.Order.{Row, value_cmp}
use Rattle.sqlite.specs.Tree.{Trees, IsTable, rowid}
use Rattle.sqlite.specs.Term.{Term, Env, lit, col, holds}
use Rattle.sqlite.specs.Query.{Query, inner, end, Output, output, output_cmp, IsAnswer}
use Rattle.sqlite.specs.Ops.{is_true, from_truth, binary}
use Rattle.sqlite_sql.specs.declared.ops.BinaryOp.TheVariants.{Compare}
use Rattle.sqlite_sql.specs.declared.ops.CompareOp.TheVariants.{Eq}
use Rattle.sqlite_value.proofs.OrderLemmas.{value_cmp_total, value_cmp-Text, value_cmp-Int}
use Rattle.sqlite.specs.Program.{overlay}
use Rattle.sqlite.specs.Collation.TheVariants.{Binary}
use Rattle.sqlite.specs.Effect.{Database}
use Rattle.sqlite.specs.State.{State, Shown, IsUnchanged, FailsToQuery}
use Rattle.sqlite.specs.Command.TheVariants.{Select}
use Rattle.sqlite.specs.Listing.{understood, reads_listing}
use Rattle.sqlite.proofs.Callers.{IsPlain, command_of, reads_as, one_permutation}
use Rattle.sqlite_value.specs.declared.keys.Key.{Key}
use Rattle.sqlite_value.specs.Keys.{ascending}
use Rattle.sqlite_sql.proofs.QueryLemmas.{output_cmp_total}
use Rattle.sqlite_trees.proofs.ListLemmas.{map-map, filter-map}
use Rattle.archive_tables.specs.Schema.{archive_schema}
use Rattle.archive_tables.specs.Tables.{IsOpenArchive, NumberedRecord, numbered_row, numbered_from_row, HoldsRecords}
use Rattle.archive_tables.specs.Calls.{FaultKeepsRowsOrRollsBack, LeavesRowsUnchanged}
use Rattle.archive_tables.proofs.OrderLemmas.{one_order, ties_flip}
use Rattle.archive_tables.proofs.RunLemmas.{query_fails, query_leaves, rests, stays}
use Rattle.archive_tables.proofs.RowLemmas.{records_are}

abbrev pub plain_query : ℕ → List Term → List Term → List (Term × Key) → Query
plain_query t terms shown order = record {
  from = inner t end;
  filter = terms;
  group = None;
  project = shown;
  distinct = false;
  collations = [];
  order = order;
  limit = lit (Int (negsuc 0));
  offset = lit (Int (pos 0));
}

-- by the numbers of the rows
abbrev pub by_number : List (Term × Key)
by_number = (col 1 0, ascending Binary) ∷ []

abbrev pub env_of : Row → Row → Env
env_of params row = params ∷ row ∷ []

abbrev pub passes : List Term → Row → Row → Bool
passes terms params row = list_all (holds (env_of params row)) terms

pub all_pass : (params : Row) (rows : List Row) → filter (passes [] params) rows ≡ rows
all_pass params [] = refl
all_pass params (row ∷ rows) = ap (λ l. row ∷ l) (all_pass params rows)

-- an order that ORDER BY allows of the rows that pass
pub record Picks (q : Query) (params : Row) (rows shown : List Row) : Type 0 where
  pub ordered : List Output
  pub same : IsPermutation (map (λ row. output q (env_of params row)) (filter (passes q.filter params) rows)) ordered
  pub sorted : IsSorted (output_cmp q) ordered
  pub is : shown ≡ map (λ (o : Output). o.1) ordered

-- ---- lists

pub each_passing : {A B : Type 0} (p : A → Bool) (f : A → B) (xs : List A) → flat_map (λ x. cond (p x) (f x ∷ []) []) xs ≡ map f (filter p xs)
each_passing p f [] = refl
each_passing p f (x ∷ xs) = elim (cases_Bool (p x)) [ inl kept ↦ rw kept (ap (λ l. f x ∷ l) (each_passing p f xs)) | inr dropped ↦ rw dropped (each_passing p f xs) ]

pub any_is_some : {A : Type 0} (p : A → Bool) (xs : List A) → not (nat_eq (length (filter p xs)) 0) ≡ list_any p xs
any_is_some p [] = refl
any_is_some p (x ∷ xs) = elim (cases_Bool (p x)) [ inl kept ↦ rw kept (grind arith) | inr dropped ↦ rw dropped (any_is_some p xs) ]

-- ---- tests in WHERE

pub truth_back : (b : Bool) → is_true (from_truth (Some b)) ≡ b
truth_back true = refl
truth_back false = refl

pub alone : (b : Bool) → (b && true) ≡ b
alone true = refl
alone false = refl

pub text_is : (a b : List ℕ) → is_true (binary (Compare Eq Binary) (Text a) (Text b)) ≡ bytes_eq a b
unfolding binary
text_is a b = truth_back _ ∙ ap is_eq (value_cmp-Text a b) ∙ is_eq-slice_cmp a b

pub text_flips : (a b : List ℕ) → bytes_eq a b ≡ bytes_eq b a
text_flips a b = sym (is_eq-slice_cmp a b) ∙ ap is_eq (sym (value_cmp-Text a b)) ∙ ties_flip value_cmp_total (Text a) (Text b) ∙ ap is_eq (value_cmp-Text b a) ∙ is_eq-slice_cmp b a

pub equal_words : (a b : List ℕ) → bytes_eq a b ≡ true → a ≡ b
equal_words a b same = (bytes_eq-Decides a b).0 same

pub tie_is : (a b : ℤ) → is_eq (int_cmp a b) ≡ int_eq a b
tie_is a b = grind (arith, ints, nat_tests)

pub int_is : (a b : ℤ) → is_true (binary (Compare Eq Binary) (Int a) (Int b)) ≡ int_eq a b
unfolding binary
int_is a b = truth_back _ ∙ ap is_eq (value_cmp-Int a b) ∙ tie_is a b

-- the first that a filter keeps
pub first_kept : {A : Type 0} (p : A → Bool) (xs : List A) → slice_get (filter p xs) 0 ≡ find p xs
first_kept p [] = refl
first_kept p (x ∷ xs) = elim (cases_Bool (p x)) [ inl kept ↦ rw kept refl | inr dropped ↦ rw dropped (first_kept p xs) ]

pub found_passes : {A : Type 0} (p : A → Bool) (xs : List A) (x : A) → find p xs ≡ Some x → p x ≡ true
found_passes p [] x is = absurd cc
found_passes p (y ∷ xs) x is = elim (cases_Bool (p y)) [
  | inl passing ↦ let first = rw passing at is in let same : y ≡ x = cc in subst (λ z. p z ≡ true) same passing
  | inr failing ↦ found_passes p xs x (rw failing at is)
]

-- the first row shows the first record that is wanted
module _ {A : Type 0} (p : A → Bool) (show : A → Row) (xs : List A) (rows : List Row) (are : rows ≡ map show (filter p xs)) where
  first_of : (ys : List A) → rows ≡ map show ys → (row : Row) → slice_get rows 0 ≡ Some row → (x : A) × (slice_get ys 0 ≡ Some x) × (row ≡ show x)
  first_of [] is row first = absurd (let none = rw is at first in cc)
  first_of (y ∷ ys) is row first = (y, refl, let some = rw is at first in cc)

  none_of : (ys : List A) → rows ≡ map show ys → slice_get rows 0 ≡ None → slice_get ys 0 ≡ None
  none_of [] is none = refl
  none_of (y ∷ ys) is none = absurd (let some = rw is at none in cc)

  pub first_found : (row : Row) → slice_get rows 0 ≡ Some row → (x : A) × (find p xs ≡ Some x) × (row ≡ show x)
  first_found row first = let it = first_of (filter p xs) are row first in (it.0, sym (first_kept p xs) ∙ it.1, it.2)

  pub none_found : slice_get rows 0 ≡ None → find p xs ≡ None
  none_found none = sym (first_kept p xs) ∙ none_of (filter p xs) are none

-- ---- an answer

pub picks_of : (t : ℕ) (terms shown : List Term) (order : List (Term × Key)) (trees : Trees) (params : Row) (rows : List Row)
    → IsAnswer (plain_query t terms shown order) trees params rows → Picks (plain_query t terms shown order) params (trees t) rows
picks_of t terms shown order trees params rows a =
    let q = plain_query t terms shown order in
    let kept : a.kept ≡ map (λ row. output q (env_of params row)) (filter (passes terms params) (trees t)) =
    a.distinct ∙ ap (map (output q)) (a.grouped ∙ each_passing (passes terms params) (env_of params) (trees t)) ∙ map-map (output q) (env_of params) _ in
    record { ordered = a.ordered; same = subst (λ l. IsPermutation l a.ordered) kept a.same; sorted = a.sorted; is = a.shown }

pub picks_count : (q : Query) (params : Row) (rows shown : List Row) → Picks q params rows shown → length shown ≡ length (filter (passes q.filter params) rows)
picks_count q params rows shown p = ap length p.is ∙ length-map p.ordered _ ∙ length_permutation _ _ p.same ∙ length-map (filter (passes q.filter params) rows) _

-- where no test is made, each row is shown
pub picks_all : (q : Query) (params : Row) (rows shown : List Row) → q.filter ≡ [] → Picks q params rows shown
    → IsPermutation (map (λ row. (output q (env_of params row)).1) rows) shown
picks_all q params rows shown none p =
    let all = subst (λ terms. filter (passes terms params) rows ≡ rows) (sym none) (all_pass params rows) in
    let same = subst (λ l. IsPermutation (map (λ row. output q (env_of params row)) l) p.ordered) all p.same in
    let each = IsPermutation-map (λ (o : Output). o.1) (map (λ row. output q (env_of params row)) rows) p.ordered same in
    subst₂ IsPermutation (map-map (λ (o : Output). o.1) (λ row. output q (env_of params row)) rows) (sym p.is) each

-- where no row passes, and where one does
pub no_row : (q : Query) (params : Row) (rows shown : List Row) → Picks q params rows shown → filter (passes q.filter params) rows ≡ [] → shown ≡ []
no_row q params rows shown p none = p.is ∙ ap (map (λ (o : Output). o.1)) (nothing p.ordered (subst (λ l. IsPermutation (map (λ row. output q (env_of params row)) l) p.ordered) none p.same))
  where
    nothing : (ys : List Output) → IsPermutation [] ys → ys ≡ []
    nothing [] same = refl
    nothing (y ∷ ys) same = absurd (omega (arith, length_permutation [] (y ∷ ys) same))

pub one_row : (q : Query) (params : Row) (rows shown : List Row) (row : Row) → Picks q params rows shown → filter (passes q.filter params) rows ≡ row ∷ []
    → shown ≡ (output q (env_of params row)).1 ∷ []
one_row q params rows shown row p one =
    p.is ∙ ap (map (λ (o : Output). o.1))
    (one_permutation (output q (env_of params row)) p.ordered (subst (λ l. IsPermutation (map (λ r. output q (env_of params r)) l) p.ordered) one p.same))

-- ---- a text that is such a query

module _ (sql : List ℕ) (t : ℕ) (terms shown : List Term) (order : List (Term × Key)) (names : List (List ℕ))
    (is : command_of (understood archive_schema sql) ≡ Select (record { lets = []; body = plain_query t terms shown order }) names) (plain : IsPlain (understood archive_schema sql))
    (unlisted : reads_listing archive_schema sql ≡ false) (low : (trees : Trees) → overlay trees [] t ≡ trees t) (params : Row) (old new : State) where
  -- whatever the rows are
  pub picked : old.now.schema ≡ archive_schema → (rows : List Row) → Shown sql params old new rows → Picks (plain_query t terms shown order) params (old.now.trees t) rows
  picked has rows h =
      let read = reads_as sql params old new archive_schema has _ is plain unlisted rows h in
      subst (λ all. Picks (plain_query t terms shown order) params all rows) (low old.now.trees)
      (picks_of t terms shown order (overlay old.now.trees []) params rows (read.answer Null))

  module _ {behind : Option Database} (k : IsOpenArchive behind old) where
    plain_here : IsPlain (understood old.now.schema sql)
    plain_here = subst (λ s. IsPlain (understood s sql)) (sym k.schema) plain

    pub asked : (rows : List Row) → Shown sql params old new rows → Picks (plain_query t terms shown order) params (old.now.trees t) rows
    asked rows h = picked k.schema rows h

    pub leaves : (rows : List Row) → Shown sql params old new rows → IsUnchanged old new
    leaves rows h = query_leaves old new sql params rows plain_here h

    pub asked_stays : (rows : List Row) → Shown sql params old new rows → LeavesRowsUnchanged behind old new
    asked_stays rows h = stays old new k (leaves rows h)

    pub asked_rests : (rows : List Row) → Shown sql params old new rows → FaultKeepsRowsOrRollsBack behind old new
    asked_rests rows h = rests old new k (inl (leaves rows h))

    pub refused_rests : (e : Error) → FailsToQuery sql params old new e → FaultKeepsRowsOrRollsBack behind old new
    refused_rests e h = rests old new k (query_fails old new sql params e plain_here h)

-- ---- over the rows of records

module _ {R : Type 0} (cells : R → Row) (read : Row → R) (back : (n : ℤ) (r : R) → read (Int n ∷ cells r) ≡ r) (q : Query) (params : Row) (wanted : R → Bool)
    (tests : (n : ℤ) (r : R) → passes q.filter params (Int n ∷ cells r) ≡ wanted r) where
  abbrev its : List (NumberedRecord R) → List R
  its = map (λ (r : NumberedRecord R). r.content)

  passing : (all : List (NumberedRecord R)) → filter (passes q.filter params) (map (numbered_row cells) all) ≡ map (numbered_row cells) (filter (λ (r : NumberedRecord R). wanted r.content) all)
  passing all = filter-map (passes q.filter params) (numbered_row cells) all
      ∙ ap (λ p. map (numbered_row cells) (filter p all)) (fun_ext (λ (r : NumberedRecord R). tests r.number r.content))

  -- the rows that pass are those of the records that are wanted
  pub hits : (rows : List Row) → HoldsRecords cells read rows → (filter (passes q.filter params) rows ≡ map (numbered_row cells)
      (filter (λ (r : NumberedRecord R). wanted r.content) (map (numbered_from_row read) rows)))
      × (its (filter (λ (r : NumberedRecord R). wanted r.content) (map (numbered_from_row read) rows)) ≡ filter wanted (map read rows))
  hits rows k = (
    ap (filter (passes q.filter params)) k.rows_read_back ∙ passing (map (numbered_from_row read) rows),
    sym (filter-map wanted (λ (r : NumberedRecord R). r.content) (map (numbered_from_row read) rows)) ∙ ap (filter wanted) (sym (records_are cells read back rows k)),
  )

  pub count_wanted : (rows shown : List Row) → HoldsRecords cells read rows → Picks q params rows shown → length shown ≡ length (filter wanted (map read rows))
  count_wanted rows shown k p =
      let it = hits rows k in
      picks_count q params rows shown p ∙ ap length it.0 ∙ length-map (filter (λ (r : NumberedRecord R). wanted r.content) (map (numbered_from_row read) rows)) (numbered_row cells)
      ∙ sym (length-map (filter (λ (r : NumberedRecord R). wanted r.content) (map (numbered_from_row read) rows)) (λ (r : NumberedRecord R). r.content)) ∙ ap length it.1

  pub any_wanted : (rows shown : List Row) → HoldsRecords cells read rows → Picks q params rows shown → not (nat_eq (length shown) 0) ≡ list_any wanted (map read rows)
  any_wanted rows shown k p = ap (λ n. not (nat_eq n 0)) (count_wanted rows shown k p) ∙ any_is_some wanted (map read rows)

-- ---- in the order of the numbers

module _ (t : ℕ) (terms shown : List Term) (params : Row) where
  abbrev query : Query
  query = plain_query t terms shown by_number

  abbrev out : Row → Output
  out row = output query (env_of params row)

  later : (p : Row → Bool) (row : Row) (rows : List Row) → AllByRecursion (λ s. value_cmp (rowid row) (rowid s) ≡ Less) rows
      → AllByRecursion (λ o. output_cmp query (out row) o ≡ Less) (map out (filter p rows))
  later p row [] all = tt
  later p row (s ∷ rows) all =
      elim (cases_Bool (p s)) [ inl kept ↦ rw kept (rw all.0, later p row rows all.1) | inr dropped ↦ rw dropped (later p row rows all.1) ]

  rising : (p : Row → Bool) (rows : List Row) → IsTable rows → IsStrictlySortedBy (output_cmp query) (map out (filter p rows))
  unfolding IsStrictlySortedBy
  rising p [] up = tt
  rising p (row ∷ rows) up =
      elim (cases_Bool (p row)) [ inl kept ↦ rw kept (later p row rows up.0, rising p rows up.1) | inr dropped ↦ rw dropped (rising p rows up.1) ]

  pub in_order : (rows picked : List Row) → IsTable rows → Picks query params rows picked → picked ≡ map (λ row. (out row).1) (filter (passes terms params) rows)
  in_order rows picked up it =
      let order = one_order (output_cmp_total query) (map out (filter (passes terms params) rows)) it.ordered (rising (passes terms params) rows up) it.same it.sorted in
      it.is ∙ ap (map (λ (o : Output). o.1)) order ∙ map-map (λ (o : Output). o.1) out (filter (passes terms params) rows)

  -- the records that are wanted, each as the query shows it
  pub shows : {R : Type 0} (cells : R → Row) (read : Row → R) (back : (n : ℤ) (r : R) → read (Int n ∷ cells r) ≡ r) (wanted : R → Bool)
      (tests : (n : ℤ) (r : R) → passes terms params (Int n ∷ cells r) ≡ wanted r) (show : R → Row) (same : (n : ℤ) (r : R) → (out (Int n ∷ cells r)).1 ≡ show r)
      (rows picked : List Row) → HoldsRecords cells read rows → Picks query params rows picked → picked ≡ map show (filter wanted (map read rows))
  shows {R} cells read back wanted tests show same rows picked k it =
      let found = hits cells read back query params wanted tests rows k in
      in_order rows picked k.is_table it ∙ ap (map (λ row. (out row).1)) found.0 ∙ each (filter (λ (r : NumberedRecord R). wanted r.content) (map (numbered_from_row read) rows)) ∙ ap
      (map show) found.1
    where
      each : (all : List (NumberedRecord R)) → map (λ row. (out row).1) (map (numbered_row cells) all) ≡ map show (map (λ (r : NumberedRecord R). r.content) all)
      each [] = refl
      each (r ∷ all) = ap₂ ◌∷◌ (same r.number r.content) (each all)
