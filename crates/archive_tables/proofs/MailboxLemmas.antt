-- The questions on `message`.
use Rattle.std.proofs.Common.{◌≡◌, ℕ, ℤ, List, [], ◌∷◌, filter, codes, refl, ap₂, ◌∙◌}
use Rattle.std.specs.Prelude.{◌&&◌, length, bytes_eq}
use Rattle.sqlite.specs.declared.types.Value.TheVariants.{Int, Text}
use Rattle.sqlite.specs.Order.{Row}
use Rattle.sqlite.specs.Term.{Term, col, op2}
use Rattle.sqlite.specs.Collation.TheVariants.{Binary}
use Rattle.sqlite.specs.Listing.{understood}
use Rattle.sqlite_resolve.specs.Compile.{first}
use Rattle.sqlite_tied.specs.Compute.{everything}
use Rattle.sqlite_sql.specs.declared.ops.BinaryOp.TheVariants.{Compare}
use Rattle.sqlite_sql.specs.declared.ops.CompareOp.TheVariants.{Eq}
use Rattle.archive_model.specs.Filing.{IndexedMessage}
use Rattle.archive_model.specs.Questions.{is_message_at_key}
use Rattle.archive_tables.specs.Tables.{indexed_message_cells, archive_in_trees}
use Rattle.archive_tables.specs.Rows.{message_result_row, dated_marks_result_row}
use Rattle.archive_tables.proofs.MessageLemmas.{shows_messages, counts_messages, has_messages}
use Rattle.archive_tables.proofs.SelectLemmas.{by_number, passes, alone, text_is}
use Rattle.archive_tables.proofs.AskLemmas.{Question, HasWanted, ShowsWanted, table_question}

abbrev pub of_list : List Term
of_list = op2 (Compare Eq Binary) (col 1 2) (col 0 0) ∷ []

abbrev pub at_key : List Term
at_key = op2 (Compare Eq Binary) (col 1 2) (col 0 0) ∷ op2 (Compare Eq Binary) (col 1 3) (col 0 1) ∷ []

pub has_list : (list : List ℕ) (n : ℤ) (f : IndexedMessage) → passes of_list (Text list ∷ []) (Int n ∷ indexed_message_cells f) ≡ bytes_eq f.0.list list
has_list list n f = alone _ ∙ text_is f.0.list list

-- whatever the later parameters are
pub has_key : (list key : List ℕ) (more : Row) (n : ℤ) (f : IndexedMessage) → passes at_key (Text list ∷ Text key ∷ more) (Int n ∷ indexed_message_cells f) ≡ is_message_at_key list key f.0
has_key list key more n f = ap₂ ◌&&◌ (text_is f.0.list list) (alone _ ∙ text_is f.0.key key)

abbrev all_cells : List Term
all_cells = col 1 3 ∷ col 1 4 ∷ col 1 5 ∷ col 1 6 ∷ col 1 7 ∷ col 1 8 ∷ []

-- ---- the message of a key

pub one : (list key : List ℕ) → Question (codes "SELECT key, sender, arrival, text, withdrawn, embargo FROM message WHERE list = ?1 AND key = ?2 ORDER BY pos")
    (Text list ∷ Text key ∷ []) (ShowsWanted message_result_row (is_message_at_key list key) (λ db. (archive_in_trees db).messages))
unfolding understood first everything
one list key = table_question 8 at_key all_cells by_number
    (λ db. refl) (record { names = _; is = refl; plain = (refl, refl); unlisted = refl; fits = (refl, refl); typed = refl; asks = tt })
    (λ db k rows p. record { are = shows_messages at_key all_cells _ (is_message_at_key list key) (has_key list key []) message_result_row (λ n f. refl) (db 8) rows k.messages p })

-- ---- its arrival and marks

abbrev mark_cells : List Term
mark_cells = col 1 5 ∷ col 1 7 ∷ col 1 8 ∷ []

pub marks : (list key : List ℕ) → Question (codes "SELECT arrival, withdrawn, embargo FROM message WHERE list = ?1 AND key = ?2 ORDER BY pos")
    (Text list ∷ Text key ∷ []) (ShowsWanted dated_marks_result_row (is_message_at_key list key) (λ db. (archive_in_trees db).messages))
unfolding understood first everything
marks list key = table_question 8 at_key mark_cells by_number
    (λ db. refl) (record { names = _; is = refl; plain = (refl, refl); unlisted = refl; fits = (refl, refl); typed = refl; asks = tt })
    (λ db k rows p. record { are = shows_messages at_key mark_cells _ (is_message_at_key list key) (has_key list key []) dated_marks_result_row (λ n f. refl) (db 8) rows k.messages p })

-- ---- whether a key is there

abbrev number_cell : List Term
number_cell = col 1 0 ∷ []

pub has : (list key : List ℕ) → Question (codes "SELECT pos FROM message WHERE list = ?1 AND key = ?2")
    (Text list ∷ Text key ∷ []) (HasWanted (is_message_at_key list key) (λ db. (archive_in_trees db).messages))
unfolding understood first everything
has list key = table_question 8 at_key number_cell []
    (λ db. refl) (record { names = _; is = refl; plain = (refl, refl); unlisted = refl; fits = (refl, refl); typed = refl; asks = tt })
    (λ db k rows p. record { is = has_messages at_key number_cell _ (is_message_at_key list key) (has_key list key []) (db 8) rows k.messages p })

-- ---- how many a list has

pub count : (list : List ℕ) → Question (codes "SELECT pos FROM message WHERE list = ?1")
    (Text list ∷ []) (λ db rows. length rows ≡ length (filter (λ m. bytes_eq m.list list) (archive_in_trees db).messages))
unfolding understood first everything
count list = table_question 8 of_list number_cell []
    (λ db. refl) (record { names = _; is = refl; plain = (refl, refl); unlisted = refl; fits = (refl, refl); typed = refl; asks = tt })
    (λ db k rows p. counts_messages of_list number_cell _ (λ m. bytes_eq m.list list) (has_list list) (db 8) rows k.messages p)
