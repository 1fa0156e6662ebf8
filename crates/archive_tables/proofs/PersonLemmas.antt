-- The statements on `person`.
use Rattle.std.proofs.Common.{ℕ, List, [], ◌∷◌, ◌++◌, codes, refl, ap, ◌∙◌}
use Rattle.std.specs.Prelude.{⊤, bytes_eq}
use Rattle.sqlite.specs.declared.types.Value.TheVariants.{Null, Text}
use Rattle.sqlite.specs.Term.{Term, lit, col, op2}
use Rattle.sqlite.specs.Collation.TheVariants.{Binary}
use Rattle.sqlite.specs.Listing.{understood}
use Rattle.sqlite_resolve.specs.Compile.{first}
use Rattle.sqlite_tied.specs.Compute.{everything}
use Rattle.sqlite_sql.specs.declared.ops.BinaryOp.TheVariants.{Compare}
use Rattle.sqlite_sql.specs.declared.ops.CompareOp.TheVariants.{Eq}
use Rattle.archive_model.specs.Records.{Person}
use Rattle.archive_tables.specs.Schema.{person_table}
use Rattle.archive_tables.specs.Tables.{person_cells, person_from_row, archive_in_trees}
use Rattle.archive_tables.specs.Rows.{name_result_row}
use Rattle.archive_tables.specs.Statements.{insert_person_statement}
use Rattle.archive_tables.proofs.RunLemmas.{cast_null}
use Rattle.archive_tables.proofs.TableLemmas.{persons_change}
use Rattle.archive_tables.proofs.SelectLemmas.{alone, text_is}
use Rattle.archive_tables.proofs.AskLemmas.{Question, HasWanted, ShowsWanted, KeepsRecords, asks_whether, asks_which}
use Rattle.archive_tables.proofs.WriteLemmas.{Write, InsertText, inserts, by_first, has_word}

kept : KeepsRecords person_table person_cells person_from_row
kept = record { back = λ n p. refl; low = λ db. refl; holds = λ db k. k.persons }

-- ---- INSERT

abbrev pub add_text : List ℕ
add_text = codes "INSERT INTO person (name, token) VALUES (?1, ?2)"

add_is : (p : Person) → InsertText (insert_person_statement p) 2 person_table (lit Null ∷ col 0 0 ∷ col 0 1 ∷ []) 3
unfolding understood first everything
add_is p = record { is = refl; knows = record { fits = (refl, refl); plain = (refl, refl); writes = tt }; ours = tt; runs = λ old new words count h. h; does = λ limit db words out h. h }

pub added : (p : Person) → Write (insert_person_statement p) (λ _. ⊤) (λ a. record a { persons = a.persons ++ p ∷ [] })
added p = inserts kept (add_is p) p (λ db given from. rw (from, cast_null)) (λ db next rows k needs left holds are.
    let it = persons_change db next k left.same (next 3) refl holds in (it.0, it.1 ∙ ap (λ l. record (archive_in_trees db) { persons = l }) are))

-- ---- SELECT by name

pub has_name : (name : List ℕ) → Question (codes "SELECT name FROM person WHERE name = ?1") (Text name ∷ []) (HasWanted (λ (p : Person). bytes_eq p.name name) (λ db. (archive_in_trees db).persons))
unfolding understood first everything
has_name name = asks_whether kept by_first (col 1 1 ∷ [])
    (record { names = _; is = refl; plain = (refl, refl); unlisted = refl; fits = (refl, refl); typed = refl; asks = tt })
    (λ p. bytes_eq p.name name) (has_word person_cells (λ (p : Person). p.name) (λ n p. refl) name [])

-- ---- SELECT by token

abbrev with_token : List Term
with_token = op2 (Compare Eq Binary) (col 1 2) (col 0 0) ∷ []

pub has_token : (token : List ℕ) → Question (codes "SELECT token FROM person WHERE token = ?1")
    (Text token ∷ []) (HasWanted (λ (p : Person). bytes_eq p.token token) (λ db. (archive_in_trees db).persons))
unfolding understood first everything
has_token token = asks_whether kept with_token (col 1 2 ∷ [])
    (record { names = _; is = refl; plain = (refl, refl); unlisted = refl; fits = (refl, refl); typed = refl; asks = tt })
    (λ p. bytes_eq p.token token) (λ n p. alone _ ∙ text_is p.token token)

pub holder : (token : List ℕ) → Question (codes "SELECT name FROM person WHERE token = ?1 ORDER BY rowid")
    (Text token ∷ []) (ShowsWanted (λ (p : Person). name_result_row p.name) (λ p. bytes_eq p.token token) (λ db. (archive_in_trees db).persons))
unfolding understood first everything
holder token = asks_which kept with_token (col 1 1 ∷ [])
    (record { names = _; is = refl; plain = (refl, refl); unlisted = refl; fits = (refl, refl); typed = refl; asks = tt })
    (λ p. name_result_row p.name) (λ p. bytes_eq p.token token) (λ n p. alone _ ∙ text_is p.token token) (λ n p. refl)
