-- The statements on `address`.
use Rattle.std.proofs.Common.{◌≡◌, ℕ, ℤ, List, [], ◌∷◌, ◌++◌, map, codes, refl, sym, ap, subst, ◌∙◌}
use Rattle.std.specs.Prelude.{⊤}
use Rattle.sqlite.specs.declared.types.Value.TheVariants.{Null, Int, Text}
use Rattle.sqlite.specs.Order.{Row}
use Rattle.sqlite.specs.Term.{Term, lit, col}
use Rattle.sqlite.specs.Tree.{Trees}
use Rattle.sqlite.specs.Listing.{understood}
use Rattle.sqlite_resolve.specs.Compile.{first}
use Rattle.sqlite_tied.specs.Compute.{everything}
use Rattle.sqlite_schema.specs.declared.schema.Constraint.TheVariants.{Unique}
use Rattle.archive_model.specs.Records.{Address}
use Rattle.archive_model.specs.Questions.{is_address_of}
use Rattle.archive_model.specs.Machine.{with_replaced_address}
use Rattle.archive_tables.specs.Schema.{address_table}
use Rattle.archive_tables.specs.Tables.{AreArchiveTables, HoldsRecords, HaveDistinctKeys, address_cells, address_from_row, same_address_key, archive_in_trees}
use Rattle.archive_tables.specs.Rows.{name_result_row}
use Rattle.archive_tables.specs.Statements.{insert_address_statement, update_address_statement}
use Rattle.archive_tables.proofs.RunLemmas.{cast_null, cast_int}
use Rattle.archive_tables.proofs.TableLemmas.{SameBut, addresses_change}
use Rattle.archive_tables.proofs.ApartLemmas.{apart_by_key, one_address_a_person, is_no_foreign_key}
use Rattle.archive_tables.proofs.SelectLemmas.{passes}
use Rattle.archive_tables.proofs.AskLemmas.{Question, HasWanted, ShowsWanted, KeepsRecords, asks_whether, asks_which}
use Rattle.archive_tables.proofs.WriteLemmas.{Write, InsertText, UpdateText, inserts, updates, by_first, has_word, alike_word, words_stay}

kept : KeepsRecords address_table address_cells address_from_row
kept = record { back = λ n a. refl; low = λ db. refl; holds = λ db k. k.addresses }

ends : (db next : Trees) → AreArchiveTables db → SameBut 15 db next → HoldsRecords address_cells address_from_row (next 15) → HaveDistinctKeys same_address_key (map address_from_row (next 15))
    → (all : List Address) → map address_from_row (next 15) ≡ all → AreArchiveTables next × (archive_in_trees next ≡ record (archive_in_trees db) { addresses = all })
ends db next k same holds apart all are =
    let it = addresses_change db next k same (next 15) refl holds apart in (it.0, it.1 ∙ ap (λ l. record (archive_in_trees db) { addresses = l }) are)

is_of_person : (person : List ℕ) (more : Row) (n : ℤ) (a : Address) → passes by_first (Text person ∷ more) (Int n ∷ address_cells a) ≡ is_address_of person a
is_of_person = has_word address_cells (λ (a : Address). a.person) (λ n a. refl)

-- ---- INSERT

abbrev pub add_text : List ℕ
add_text = codes "INSERT INTO address (person, address) VALUES (?1, ?2)"

add_is : (a : Address) → InsertText (insert_address_statement a) 7 address_table (lit Null ∷ col 0 0 ∷ col 0 1 ∷ []) 3
unfolding understood first everything
add_is a = record { is = refl; knows = record { fits = (refl, refl); plain = (refl, refl); writes = tt }; ours = tt; runs = λ old new words count h. h; does = λ limit db words out h. h }

pub added : (a : Address) → Write (insert_address_statement a) (λ _. ⊤) (λ archive. record archive { addresses = archive.addresses ++ a ∷ [] })
added a = inserts kept (add_is a) a (λ db given from. rw (from, cast_null)) (λ db next rows k needs left holds are. ends db next k left.same holds
    (apart_by_key address_cells (λ (x : Address). x.person) (λ n x. refl) address_from_row (λ n x. refl) (next 15) holds (one_address_a_person next (left.fits.rules Unique is_no_foreign_key))) _ are)

-- ---- UPDATE

abbrev pub change_text : List ℕ
change_text = codes "UPDATE address SET address = ?2 WHERE person = ?1"

-- the number of the row, and then the new row
abbrev changed_cells : List Term
changed_cells = col 1 0 ∷ col 1 0 ∷ col 1 1 ∷ col 0 1 ∷ []

change_is : (a : Address) → UpdateText (update_address_statement a) 7 address_table by_first changed_cells
unfolding understood first everything
change_is a = record { is = refl; knows = record { fits = (refl, refl); plain = (refl, refl); writes = tt }; ours = tt; runs = λ old new words count h. h; does = λ limit db words out h. h }

pub changed : (a : Address) → Write (update_address_statement a) (λ _. ⊤) (λ archive. record archive { addresses = map (with_replaced_address a) archive.addresses })
changed a =
    let said = λ (old : Address). record old { address = a.address } in
    updates kept same_address_key (λ db k. k.addresses_distinct) (update_address_statement a) by_first changed_cells (is_address_of a.person) (is_of_person a.person (Text a.address ∷ []))
    (alike_word (λ (x : Address). x.person) a.person) said (change_is a) (λ db r given from. rw (from, cast_int r.number)) (λ db next rows k left holds are above.
    let apart = words_stay (λ (x : Address). x.person) a.person said (λ x. refl) (map address_from_row (db 15)) k.addresses_distinct in
    ends db next k left.same holds (subst (HaveDistinctKeys same_address_key) (sym are) apart) _ are)

-- ---- SELECT

pub find_address : (person : List ℕ) → Question (codes "SELECT address FROM address WHERE person = ?1 ORDER BY rowid")
    (Text person ∷ []) (ShowsWanted (λ (a : Address). name_result_row a.address) (is_address_of person) (λ db. (archive_in_trees db).addresses))
unfolding understood first everything
find_address person = asks_which kept by_first (col 1 2 ∷ [])
    (record { names = _; is = refl; plain = (refl, refl); unlisted = refl; fits = (refl, refl); typed = refl; asks = tt })
    (λ a. name_result_row a.address) (is_address_of person) (is_of_person person []) (λ n a. refl)

pub has_address : (person : List ℕ) → Question (codes "SELECT person FROM address WHERE person = ?1") (Text person ∷ []) (HasWanted (is_address_of person) (λ db. (archive_in_trees db).addresses))
unfolding understood first everything
has_address person = asks_whether kept by_first (col 1 1 ∷ [])
    (record { names = _; is = refl; plain = (refl, refl); unlisted = refl; fits = (refl, refl); typed = refl; asks = tt })
    (is_address_of person) (is_of_person person [])
