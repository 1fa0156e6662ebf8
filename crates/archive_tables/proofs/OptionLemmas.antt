-- The statements on `list_option`.
use Rattle.std.proofs.Common.{◌≡◌, ℕ, ℤ, List, [], ◌∷◌, ◌++◌, map, codes, refl, sym, ap, subst, ◌∙◌, false, true, Bool, w64}
use Rattle.std.specs.Prelude.{⊤}
use Rattle.std.specs.Int.{cast_signed, cast_unsigned}
use Rattle.sqlite.specs.declared.types.Value.TheVariants.{Null, Int, Text}
use Rattle.sqlite.specs.Order.{Row, column}
use Rattle.sqlite.specs.Term.{Term, lit, col}
use Rattle.sqlite.specs.Tree.{Trees}
use Rattle.sqlite.specs.Listing.{understood}
use Rattle.sqlite_resolve.specs.Compile.{first}
use Rattle.sqlite_tied.specs.Compute.{everything}
use Rattle.sqlite_schema.specs.declared.schema.Constraint.TheVariants.{Unique}
use Rattle.archive_model.specs.Records.{ListOption}
use Rattle.archive_model.specs.Questions.{is_option_of}
use Rattle.archive_model.specs.Machine.{with_merge_setting}
use Rattle.archive_tables.specs.Schema.{option_table}
use Rattle.archive_tables.specs.Tables.{AreArchiveTables, HoldsRecords, HaveDistinctKeys, option_cells, option_from_row, merge_flag, same_option_key, archive_in_trees}
use Rattle.archive_tables.specs.Rows.{merge_result_row}
use Rattle.archive_tables.specs.Statements.{insert_option_statement, update_option_statement}
use Rattle.archive_tables.proofs.RunLemmas.{cast_null, cast_int}
use Rattle.archive_tables.proofs.TableLemmas.{SameBut, options_change}
use Rattle.archive_tables.proofs.ApartLemmas.{apart_by_key, one_option_a_list, is_no_foreign_key}
use Rattle.archive_tables.proofs.SelectLemmas.{passes}
use Rattle.archive_tables.proofs.AskLemmas.{Question, ShowsWanted, KeepsRecords, asks_which}
use Rattle.archive_tables.proofs.WriteLemmas.{Write, InsertText, UpdateText, inserts, updates, by_first, has_word, alike_word, words_stay}

pub option_back : (n : ℤ) (o : ListOption) → option_from_row (Int n ∷ option_cells o) ≡ o
option_back n o = elim o.merge as (λ b. option_from_row (Int n ∷ option_cells (record { list = o.list; merge = b })) ≡ record { list = o.list; merge = b }) [ true ↦ refl | false ↦ refl ]

-- the number as a parameter holds it
pub number_is : (merge : Bool) → cast_signed w64 (cast_unsigned w64 (merge_flag merge)) ≡ merge_flag merge
number_is true = refl
number_is false = refl

pub list_of_option : (n : ℤ) (o : ListOption) → column (Int n ∷ option_cells o) 1 ≡ Text o.list
list_of_option n o = refl

kept : KeepsRecords option_table option_cells option_from_row
kept = record { back = option_back; low = λ db. refl; holds = λ db k. k.options }

ends : (db next : Trees) → AreArchiveTables db → SameBut 13 db next → HoldsRecords option_cells option_from_row (next 13) → HaveDistinctKeys same_option_key (map option_from_row (next 13))
    → (all : List ListOption) → map option_from_row (next 13) ≡ all → AreArchiveTables next × (archive_in_trees next ≡ record (archive_in_trees db) { options = all })
ends db next k same holds apart all are =
    let it = options_change db next k same (next 13) refl holds apart in (it.0, it.1 ∙ ap (λ l. record (archive_in_trees db) { options = l }) are)

is_of_list : (list : List ℕ) (more : Row) (n : ℤ) (o : ListOption) → passes by_first (Text list ∷ more) (Int n ∷ option_cells o) ≡ is_option_of list o
is_of_list = has_word option_cells (λ (o : ListOption). o.list) list_of_option

-- ---- INSERT

abbrev pub add_text : List ℕ
add_text = codes "INSERT INTO list_option (list, merge) VALUES (?1, ?2)"

add_is : (o : ListOption) → InsertText (insert_option_statement o) 6 option_table (lit Null ∷ col 0 0 ∷ col 0 1 ∷ []) 3
unfolding understood first everything
add_is o = record { is = refl; knows = record { fits = (refl, refl); plain = (refl, refl); writes = tt }; ours = tt; runs = λ old new words count h. h; does = λ limit db words out h. h }

pub added : (o : ListOption) → Write (insert_option_statement o) (λ _. ⊤) (λ a. record a { options = a.options ++ o ∷ [] })
added o = inserts kept (add_is o) o (λ db given from. rw (from, cast_null, cast_int (merge_flag o.merge))) (λ db next rows k needs left holds are. ends db next k left.same holds
    (apart_by_key option_cells (λ (x : ListOption). x.list) list_of_option option_from_row option_back (next 13) holds (one_option_a_list next (left.fits.rules Unique is_no_foreign_key))) _ are)

-- ---- UPDATE

abbrev pub change_text : List ℕ
change_text = codes "UPDATE list_option SET merge = ?2 WHERE list = ?1"

-- the number of the row, and then the new row
abbrev changed_cells : List Term
changed_cells = col 1 0 ∷ col 1 0 ∷ col 1 1 ∷ col 0 1 ∷ []

change_is : (o : ListOption) → UpdateText (update_option_statement o) 6 option_table by_first changed_cells
unfolding understood first everything
change_is o = record { is = refl; knows = record { fits = (refl, refl); plain = (refl, refl); writes = tt }; ours = tt; runs = λ old new words count h. h; does = λ limit db words out h. h }

pub changed : (o : ListOption) → Write (update_option_statement o) (λ _. ⊤) (λ a. record a { options = map (with_merge_setting o.list o.merge) a.options })
changed o =
    let said = λ (old : ListOption). record old { merge = o.merge } in
    updates kept same_option_key (λ db k. k.options_distinct) (update_option_statement o) by_first changed_cells (is_option_of o.list) (is_of_list o.list (Int (merge_flag o.merge) ∷ []))
    (alike_word (λ (x : ListOption). x.list) o.list) said (change_is o) (λ db r given from. rw (from, cast_int r.number, cast_int (merge_flag o.merge))) (λ db next rows k left holds are above.
    let apart = words_stay (λ (x : ListOption). x.list) o.list said (λ x. refl) (map option_from_row (db 13)) k.options_distinct in
    ends db next k left.same holds (subst (HaveDistinctKeys same_option_key) (sym are) apart) _ are)

-- ---- SELECT

pub find_option : (list : List ℕ) → Question (codes "SELECT merge FROM list_option WHERE list = ?1 ORDER BY rowid")
    (Text list ∷ []) (ShowsWanted merge_result_row (is_option_of list) (λ db. (archive_in_trees db).options))
unfolding understood first everything
find_option list = asks_which kept by_first (col 1 2 ∷ [])
    (record { names = _; is = refl; plain = (refl, refl); unlisted = refl; fits = (refl, refl); typed = refl; asks = tt })
    merge_result_row (is_option_of list) (is_of_list list []) (λ n o. refl)
