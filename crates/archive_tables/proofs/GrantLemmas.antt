-- The statements on `grant_row`.
use Rattle.std.proofs.Common.{◌≡◌, ℕ, ℤ, List, [], ◌∷◌, ◌++◌, map, filter, codes, refl, sym, ap, ap₂, subst, ◌∙◌, false, true, Bool, arith}
use Rattle.std.specs.Prelude.{⊤, not, ◌&&◌, bytes_eq, if◌then◌else◌}
use Rattle.std.specs.List.{list_any}
use Rattle.std.specs.Ordering.{int_eq}
use Rattle.std.proofs.lemmas.Bool.{and_parts}
use Rattle.std.proofs.lemmas.Bool.Decides.{Decides-int_eq, nat_tests}
use Rattle.std.proofs.lemmas.Int.{ints}
use Rattle.sqlite.specs.declared.types.Value.TheVariants.{Null, Int, Text}
use Rattle.sqlite.specs.Order.{Row}
use Rattle.sqlite.specs.Term.{Term, lit, col, op2}
use Rattle.sqlite.specs.Collation.TheVariants.{Binary}
use Rattle.sqlite.specs.Tree.{Trees}
use Rattle.sqlite.specs.Listing.{understood}
use Rattle.sqlite_resolve.specs.Compile.{first}
use Rattle.sqlite_tied.specs.Compute.{everything}
use Rattle.sqlite_sql.specs.declared.ops.BinaryOp.TheVariants.{Compare}
use Rattle.sqlite_sql.specs.declared.ops.CompareOp.TheVariants.{Eq}
use Rattle.archive_model.specs.Records.{Grant}
use Rattle.archive_model.specs.Questions.{is_grant_of_rank}
use Rattle.archive_tables.specs.Schema.{grant_table}
use Rattle.archive_tables.specs.Tables.{AreArchiveTables, HoldsRecords, HaveDistinctKeys, grant_cells, grant_from_row, same_grant_key, archive_in_trees}
use Rattle.archive_tables.specs.Rows.{grant_result_row}
use Rattle.archive_tables.specs.Statements.{insert_grant_statement, update_grant_statement, delete_grant_statement}
use Rattle.archive_tables.proofs.RunLemmas.{cast_null, cast_int}
use Rattle.archive_tables.proofs.TableLemmas.{SameBut, grants_change}
use Rattle.archive_tables.proofs.ChangeLemmas.{apart_more, apart_mapped, apart_filtered}
use Rattle.archive_tables.proofs.SelectLemmas.{passes, alone, text_is, int_is, text_flips, equal_words}
use Rattle.archive_tables.proofs.AskLemmas.{Question, HasWanted, ShowsWanted, KeepsRecords, asks_whether, asks_which}
use Rattle.archive_tables.proofs.WriteLemmas.{Write, InsertText, UpdateText, DeleteText, inserts, updates, deletes, part_stays}

kept : KeepsRecords grant_table grant_cells grant_from_row
kept = record { back = λ n g. refl; low = λ db. refl; holds = λ db k. k.grants }

ends : (db next : Trees) → AreArchiveTables db → SameBut 6 db next → HoldsRecords grant_cells grant_from_row (next 6) → (all : List Grant) → map grant_from_row (next 6) ≡ all
    → HaveDistinctKeys same_grant_key all → AreArchiveTables next × (archive_in_trees next ≡ record (archive_in_trees db) { grants = all })
ends db next k same holds all are apart =
    let it = grants_change db next k same (next 6) refl holds (subst (HaveDistinctKeys same_grant_key) (sym are) apart) in
    (it.0, it.1 ∙ ap (λ l. record (archive_in_trees db) { grants = l }) are)

-- ---- keys of grants

number_flips : (a b : ℤ) → int_eq a b ≡ int_eq b a
number_flips a b = grind (arith, ints, nat_tests)

flips : (a b : Grant) → same_grant_key a b ≡ same_grant_key b a
flips a b = ap₂ ◌&&◌ (text_flips b.person a.person) (ap₂ ◌&&◌ (text_flips b.list a.list) (number_flips b.rank a.rank))

alike : (person list : List ℕ) (rank : ℤ) (a b : Grant) → is_grant_of_rank person list rank a ≡ true → same_grant_key a b ≡ is_grant_of_rank person list rank b
alike person list rank a b found =
    let first = and_parts (bytes_eq a.person person) _ found in
    let rest = and_parts (bytes_eq a.list list) (int_eq a.rank rank) first.1 in
    ap₂ ◌&&◌ (ap (bytes_eq b.person) (equal_words a.person person first.0))
    (ap₂ ◌&&◌ (ap (bytes_eq b.list) (equal_words a.list list rest.0)) (ap (int_eq b.rank) ((Decides-int_eq a.rank rank).0 rest.1)))

-- ---- WHERE

abbrev at_key : List Term
at_key = op2 (Compare Eq Binary) (col 1 1) (col 0 0) ∷ op2 (Compare Eq Binary) (col 1 2) (col 0 1) ∷ op2 (Compare Eq Binary) (col 1 3) (col 0 2) ∷ []

abbrev of_both : List Term
of_both = op2 (Compare Eq Binary) (col 1 1) (col 0 0) ∷ op2 (Compare Eq Binary) (col 1 2) (col 0 1) ∷ []

has_key : (person list : List ℕ) (rank : ℤ) (more : Row) (n : ℤ) (g : Grant)
    → passes at_key (Text person ∷ Text list ∷ Int rank ∷ more) (Int n ∷ grant_cells g) ≡ is_grant_of_rank person list rank g
has_key person list rank more n g = ap₂ ◌&&◌ (text_is g.person person) (ap₂ ◌&&◌ (text_is g.list list) (alone _ ∙ int_is g.rank rank))

has_both : (person list : List ℕ) (n : ℤ) (g : Grant) → passes of_both (Text person ∷ Text list ∷ []) (Int n ∷ grant_cells g) ≡ (bytes_eq g.person person && bytes_eq g.list list)
has_both person list n g = ap₂ ◌&&◌ (text_is g.person person) (alone _ ∙ text_is g.list list)

-- ---- INSERT

abbrev pub add_text : List ℕ
add_text = codes "INSERT INTO grant_row (person, list, kind, from_day, until_day) VALUES (?1, ?2, ?3, ?4, ?5)"

add_is : (g : Grant) → InsertText (insert_grant_statement g) 3 grant_table (lit Null ∷ col 0 0 ∷ col 0 1 ∷ col 0 2 ∷ col 0 3 ∷ col 0 4 ∷ []) 6
unfolding understood first everything
add_is g = record { is = refl; knows = record { fits = (refl, refl); plain = (refl, refl); writes = tt }; ours = tt; runs = λ old new words count h. h; does = λ limit db words out h. h }

pub added : (g : Grant) → Write (insert_grant_statement g) (λ a. list_any (is_grant_of_rank g.person g.list g.rank) a.grants ≡ false) (λ a. record a { grants = a.grants ++ g ∷ [] })
added g = inserts kept (add_is g) g (λ db given from. rw (from, cast_null, cast_int g.rank, cast_int g.from_day, cast_int g.until_day)) (λ db next rows k none left holds are.
    ends db next k left.same holds _ are (apart_more same_grant_key (map grant_from_row (db 6)) g flips none k.grants_distinct))

-- ---- UPDATE

abbrev pub change_text : List ℕ
change_text = codes "UPDATE grant_row SET from_day = ?4, until_day = ?5 WHERE person = ?1 AND list = ?2 AND kind = ?3"

-- the number of the row, and then the new row
abbrev changed_cells : List Term
changed_cells = col 1 0 ∷ col 1 0 ∷ col 1 1 ∷ col 1 2 ∷ col 1 3 ∷ col 0 3 ∷ col 0 4 ∷ []

change_is : (g : Grant) → UpdateText (update_grant_statement g) 3 grant_table at_key changed_cells
unfolding understood first everything
change_is g = record { is = refl; knows = record { fits = (refl, refl); plain = (refl, refl); writes = tt }; ours = tt; runs = λ old new words count h. h; does = λ limit db words out h. h }

module _ (g : Grant) where
  abbrev is_its : Grant → Bool
  is_its = is_grant_of_rank g.person g.list g.rank

  abbrev days : Grant → Grant
  days old = record old { from_day = g.from_day; until_day = g.until_day }

  abbrev change : Grant → Grant
  change old = if is_its old then days old else old

  keeps : (a b : Grant) → same_grant_key (change a) (change b) ≡ same_grant_key a b
  keeps a b = ap₂ ◌&&◌ (ap₂ bytes_eq (same_person b) (same_person a)) (ap₂ ◌&&◌ (ap₂ bytes_eq (same_list b) (same_list a)) (ap₂ int_eq (same_rank b) (same_rank a)))
    where
      same_person : (x : Grant) → (change x).person ≡ x.person
      same_person = part_stays (λ (x : Grant). x.person) is_its days (λ x. refl)

      same_list : (x : Grant) → (change x).list ≡ x.list
      same_list = part_stays (λ (x : Grant). x.list) is_its days (λ x. refl)

      same_rank : (x : Grant) → (change x).rank ≡ x.rank
      same_rank = part_stays (λ (x : Grant). x.rank) is_its days (λ x. refl)

  pub changed : Write (update_grant_statement g) (λ _. ⊤) (λ a. record a { grants = map change a.grants })
  changed = updates kept same_grant_key (λ db k. k.grants_distinct) (update_grant_statement g) at_key changed_cells is_its
      (has_key g.person g.list g.rank (Int g.from_day ∷ Int g.until_day ∷ [])) (alike g.person g.list g.rank) days (change_is g)
      (λ db r given from. rw (from, cast_int r.number, cast_int r.content.rank, cast_int g.from_day, cast_int g.until_day))
      (λ db next rows k left holds are above. ends db next k left.same holds _ are (apart_mapped same_grant_key change keeps (map grant_from_row (db 6)) k.grants_distinct))

-- ---- DELETE

abbrev pub remove_text : List ℕ
remove_text = codes "DELETE FROM grant_row WHERE person = ?1 AND list = ?2 AND kind = ?3"

remove_is : (person list : List ℕ) (rank : ℤ) → DeleteText (delete_grant_statement person list rank) 3 grant_table at_key (col 1 0 ∷ [])
unfolding understood first everything
remove_is person list rank =
    record { is = refl; knows = record { fits = (refl, refl); plain = (refl, refl); writes = tt }; ours = tt; runs = λ old new words count h. h; does = λ limit db words out h. h }

pub removed : (person list : List ℕ) (rank : ℤ)
    → Write (delete_grant_statement person list rank) (λ _. ⊤) (λ a. record a { grants = filter (λ g. not (is_grant_of_rank person list rank g)) a.grants })
removed person list rank = deletes kept same_grant_key (λ db k. k.grants_distinct) (delete_grant_statement person list rank) at_key (col 1 0 ∷ []) (is_grant_of_rank person list rank)
    (has_key person list rank []) (alike person list rank) (remove_is person list rank) (λ db r given from. rw (from)) (λ db next rows k left holds are.
    ends db next k left.same holds _ are (apart_filtered same_grant_key (λ g. not (is_grant_of_rank person list rank g)) (map grant_from_row (db 6)) k.grants_distinct))

-- ---- SELECT

pub has_grant : (person list : List ℕ) (rank : ℤ) → Question (codes "SELECT kind FROM grant_row WHERE person = ?1 AND list = ?2 AND kind = ?3")
    (Text person ∷ Text list ∷ Int rank ∷ []) (HasWanted (is_grant_of_rank person list rank) (λ db. (archive_in_trees db).grants))
unfolding understood first everything
has_grant person list rank = asks_whether kept at_key (col 1 3 ∷ [])
    (record { names = _; is = refl; plain = (refl, refl); unlisted = refl; fits = (refl, refl); typed = refl; asks = tt })
    (is_grant_of_rank person list rank) (has_key person list rank [])

pub grants_of : (person list : List ℕ) → Question (codes "SELECT kind, from_day, until_day FROM grant_row WHERE person = ?1 AND list = ?2 ORDER BY rowid")
    (Text person ∷ Text list ∷ []) (ShowsWanted grant_result_row (λ g. bytes_eq g.person person && bytes_eq g.list list) (λ db. (archive_in_trees db).grants))
unfolding understood first everything
grants_of person list = asks_which kept of_both (col 1 3 ∷ col 1 4 ∷ col 1 5 ∷ [])
    (record { names = _; is = refl; plain = (refl, refl); unlisted = refl; fits = (refl, refl); typed = refl; asks = tt })
    grant_result_row (λ g. bytes_eq g.person person && bytes_eq g.list list) (has_both person list) (λ n g. refl)
