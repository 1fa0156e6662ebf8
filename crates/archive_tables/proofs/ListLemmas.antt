-- The statements on `list`.
use Rattle.std.proofs.Common.{ℕ, List, [], ◌∷◌, ◌++◌, codes, refl, ap, ◌∙◌}
use Rattle.std.specs.Prelude.{⊤, bytes_eq}
use Rattle.sqlite.specs.declared.types.Value.TheVariants.{Null, Text}
use Rattle.sqlite.specs.Term.{lit, col}
use Rattle.sqlite.specs.Listing.{understood}
use Rattle.sqlite_resolve.specs.Compile.{first}
use Rattle.sqlite_tied.specs.Compute.{everything}
use Rattle.archive_tables.specs.Schema.{list_table}
use Rattle.archive_tables.specs.Tables.{list_cells, list_from_row, archive_in_trees}
use Rattle.archive_tables.specs.Statements.{insert_list_statement}
use Rattle.archive_tables.proofs.RunLemmas.{cast_null}
use Rattle.archive_tables.proofs.TableLemmas.{lists_change}
use Rattle.archive_tables.proofs.AskLemmas.{Question, HasWanted, KeepsRecords, asks_whether}
use Rattle.archive_tables.proofs.WriteLemmas.{Write, InsertText, inserts, by_first, has_word}

kept : KeepsRecords list_table list_cells list_from_row
kept = record { back = λ n name. refl; low = λ db. refl; holds = λ db k. k.lists }

-- ---- INSERT

abbrev pub add_text : List ℕ
add_text = codes "INSERT INTO list (name) VALUES (?1)"

add_is : (name : List ℕ) → InsertText (insert_list_statement name) 1 list_table (lit Null ∷ col 0 0 ∷ []) 2
unfolding understood first everything
add_is name = record { is = refl; knows = record { fits = (refl, refl); plain = (refl, refl); writes = tt }; ours = tt; runs = λ old new words count h. h; does = λ limit db words out h. h }

pub added : (name : List ℕ) → Write (insert_list_statement name) (λ _. ⊤) (λ a. record a { lists = a.lists ++ name ∷ [] })
added name = inserts kept (add_is name) name (λ db given from. rw (from, cast_null)) (λ db next rows k needs left holds are.
    let it = lists_change db next k left.same (next 1) refl holds in (it.0, it.1 ∙ ap (λ l. record (archive_in_trees db) { lists = l }) are))

-- ---- SELECT by name

pub has : (name : List ℕ) → Question (codes "SELECT name FROM list WHERE name = ?1") (Text name ∷ []) (HasWanted (λ (n : List ℕ). bytes_eq n name) (λ db. (archive_in_trees db).lists))
unfolding understood first everything
has name = asks_whether kept by_first (col 1 1 ∷ [])
    (record { names = _; is = refl; plain = (refl, refl); unlisted = refl; fits = (refl, refl); typed = refl; asks = tt })
    (λ n. bytes_eq n name) (has_word list_cells (λ n. n) (λ n it. refl) name [])
