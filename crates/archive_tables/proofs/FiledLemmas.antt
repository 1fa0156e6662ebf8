-- The messages that are filed under a month or an author key, by their numbers.
use Rattle.std.proofs.Common.{◌≡◌, ℕ, ℤ, Bool, true, false, cond, List, [], ◌∷◌, map, filter, codes, Option, Some, refl, sym, ap, ap₂, ◌∙◌, None}
use Rattle.std.specs.Prelude.{◌&&◌, bytes_eq, int_lt}
use Rattle.std.specs.Ordering.{int_cmp, is_eq, ordering_then}
use Rattle.std.specs.declared.cmp.Ordering.{Ordering}
use Rattle.std.specs.declared.cmp.Ordering.TheVariants.{Less, Equal, Greater}
use Rattle.sqlite.specs.declared.error.Error.{Error}
use Rattle.sqlite.specs.declared.types.Value.TheVariants.{Int, Text, Blob}
use Rattle.sqlite.specs.Order.{Row, value_cmp}
use Rattle.sqlite.specs.Tree.{Trees}
use Rattle.sqlite.specs.Term.{Term, col, op2}
use Rattle.sqlite.specs.Ops.{is_true, binary}
use Rattle.sqlite.specs.Query.{output_cmp}
use Rattle.sqlite.specs.Collation.TheVariants.{Binary}
use Rattle.sqlite.specs.Listing.{understood}
use Rattle.sqlite.specs.Effect.{Database}
use Rattle.sqlite.specs.State.{State, Shown, FailsToQuery}
use Rattle.sqlite_tied.specs.Compute.{everything}
use Rattle.sqlite_sql.specs.declared.ops.BinaryOp.TheVariants.{Compare}
use Rattle.sqlite_sql.specs.declared.ops.CompareOp.TheVariants.{Eq}
use Rattle.sqlite_trees.proofs.ListLemmas.{map-map, all-filter, all-permutation}
use Rattle.sqlite_value.specs.declared.keys.Key.{Key}
use Rattle.sqlite_value.specs.Keys.{ascending}
use Rattle.sqlite_value.proofs.OrderLemmas.{value_cmp-Int, value_cmp-Blob}
use Rattle.std.proofs.lemmas.Map.Text.{is_eq-slice_cmp}
use Rattle.archive_model.specs.Records.{Message}
use Rattle.archive_model.specs.Filing.{IndexedMessage, indexed_messages, insert_by_indexed_date, sort_by_indexed_date, is_sent_before, is_indexed_in_month, is_indexed_by_author}
use Rattle.archive_model.specs.Filing.{messages_in_month, messages_by_author}
use Rattle.archive_tables.specs.Schema.{archive_schema}
use Rattle.archive_tables.specs.Tables.{IsOpenArchive, AreArchiveTables, NumberedRecord, indexed_message_cells, indexed_message_from_row, archive_in_trees}
use Rattle.archive_tables.specs.Rows.{numbered_indexed_messages, message_at, rowid_result_row, was_sent_before, with_dated_row, rows_by_date, message_rowids_where, month_rowids, author_rowids}
use Rattle.archive_tables.specs.Calls.{FaultKeepsRowsOrRollsBack, LeavesRowsUnchanged, IsMemoryOrDiskError}
use Rattle.archive_tables.proofs.MessageLemmas.{filed_back, filed_are}
use Rattle.archive_tables.proofs.SelectLemmas.{plain_query, passes, Picks, hits, alone, text_is, int_is, truth_back}
use Rattle.archive_tables.proofs.WalkLemmas.{finds, all_found, messages_at}
use Rattle.archive_tables.proofs.QuestionLemmas.{IsQuestion, answers, fault_rests, fault_caused}
use Rattle.archive_tables.proofs.SortLemmas.{Sorts, sort_same, sort_maps, number_cell, IsLower, IsBefore, out, picked_places}

-- ---- rows in the order of the dates

by_date_sorts : Sorts was_sent_before with_dated_row rows_by_date
by_date_sorts = record { alone = λ r. refl; puts = λ r s rows. refl; none = refl; next = λ r rows. refl }

-- and what is filed of them
filed_sorts : Sorts is_sent_before insert_by_indexed_date sort_by_indexed_date
filed_sorts = record { alone = λ f. refl; puts = λ f g all. refl; none = refl; next = λ f all. refl }

-- ---- a query by such an order

abbrev pub by_date : List (Term × Key)
by_date = (col 1 9, ascending Binary) ∷ (col 1 0, ascending Binary) ∷ []

module _ (terms : List Term) (params : Row) where
  by_both : (r s : NumberedRecord IndexedMessage) → output_cmp (plain_query 8 terms number_cell by_date) (out terms by_date params r) (out terms by_date params s)
      ≡ ordering_then (int_cmp r.content.1.sent s.content.1.sent) (ordering_then (value_cmp (Int r.number) (Int s.number)) Equal)
  by_both r s = ap (λ o. ordering_then o (ordering_then (value_cmp (Int r.number) (Int s.number)) Equal)) (value_cmp-Int r.content.1.sent s.content.1.sent)

  sent_first : (r s : NumberedRecord IndexedMessage) → was_sent_before r s ≡ true → IsBefore terms by_date params r s
  sent_first r s first = by_both r s ∙ earlier (int_lt r.content.1.sent s.content.1.sent) (int_lt s.content.1.sent r.content.1.sent)
      (ordering_then (value_cmp (Int r.number) (Int s.number)) Equal) first
    where
      earlier : (t u : Bool) (o : Ordering) → t ≡ true → ordering_then (cond t Less (cond u Greater Equal)) o ≡ Less
      earlier true u o e = refl
      earlier false u o e = absurd cc

  or_lower : (r s : NumberedRecord IndexedMessage) → was_sent_before s r ≡ false → IsLower r s → IsBefore terms by_date params r s
  or_lower r s not_first lower = by_both r s ∙ later (int_lt r.content.1.sent s.content.1.sent) (int_lt s.content.1.sent r.content.1.sent) (value_cmp (Int r.number) (Int s.number)) not_first lower
    where
      later : (t u : Bool) (o : Ordering) → u ≡ false → o ≡ Less → ordering_then (cond t Less (cond u Greater Equal)) (ordering_then o Equal) ≡ Less
      later true u o e l = refl
      later false true o e l = absurd cc
      later false false o e l = rw l refl

  module _ (wanted : IndexedMessage → Bool) (tests : (n : ℤ) (f : IndexedMessage) → passes terms params (Int n ∷ indexed_message_cells f) ≡ wanted f) (trees : Trees) (k : AreArchiveTables trees) where
    abbrev them : List (NumberedRecord IndexedMessage)
    them = filter (λ (r : NumberedRecord IndexedMessage). wanted r.content) (numbered_indexed_messages trees)

    picked_where : (shown : List Row) → Picks (plain_query 8 terms number_cell by_date) params (trees 8) shown → shown ≡ map rowid_result_row (message_rowids_where wanted trees)
    picked_where =
        let hit = hits indexed_message_cells indexed_message_from_row filed_back (plain_query 8 terms number_cell by_date) params wanted tests (trees 8) k.messages in
        picked_places terms by_date params by_date_sorts sent_first or_lower (trees 8) k.messages.is_table them hit.0

    -- the messages of these numbers
    walked_where : map (message_at trees) (message_rowids_where wanted trees) ≡ map Some
        (map (λ (f : IndexedMessage). f.0) (sort_by_indexed_date (filter wanted (indexed_messages (archive_in_trees trees)))))
    walked_where =
        let all = numbered_indexed_messages trees in
        let hit = hits indexed_message_cells indexed_message_from_row filed_back (plain_query 8 terms number_cell by_date) params wanted tests (trees 8) k.messages in
        let found = all-permutation (λ r. finds all r ≡ Some r) them (rows_by_date them) (sort_same by_date_sorts them)
        (all-filter (λ r. finds all r ≡ Some r) (λ (r : NumberedRecord IndexedMessage). wanted r.content) all (all_found trees k)) in
        let its : map (λ (r : NumberedRecord IndexedMessage). r.content) (rows_by_date them) ≡ sort_by_indexed_date (filter wanted (indexed_messages (archive_in_trees trees))) =
        sort_maps (λ (r : NumberedRecord IndexedMessage). r.content) by_date_sorts filed_sorts (λ r s. refl) them
        ∙ ap sort_by_indexed_date (hit.1 ∙ ap (filter wanted) (sym (filed_are (trees 8)))) in
        messages_at (λ r. r.content.0) all (rows_by_date them) found
        ∙ sym (map-map (λ (f : IndexedMessage). Some f.0) (λ (r : NumberedRecord IndexedMessage). r.content) (rows_by_date them)) ∙ ap (map (λ (f : IndexedMessage). Some f.0)) its
        ∙ sym (map-map (λ (m : Message). Some m) (λ (f : IndexedMessage). f.0) (sort_by_indexed_date (filter wanted (indexed_messages (archive_in_trees trees)))))

-- ---- the two texts

abbrev pub month_text : List ℕ
month_text = codes "SELECT pos FROM message WHERE list = ?1 AND month = ?2 ORDER BY sent, pos"

abbrev of_month : List Term
of_month = op2 (Compare Eq Binary) (col 1 2) (col 0 0) ∷ op2 (Compare Eq Binary) (col 1 10) (col 0 1) ∷ []

month_question : (list : List ℕ) (month : ℤ) → IsQuestion archive_schema month_text 8 of_month number_cell by_date (codes "pos" ∷ []) (Text list ∷ Int month ∷ [])
unfolding understood everything
month_question list month = record { is = refl; unlisted = refl; plain = (refl, refl); fits = (refl, refl); typed = refl; low = λ trees. refl }

abbrev pub author_text : List ℕ
author_text = codes "SELECT pos FROM message WHERE list = ?1 AND author = ?2 ORDER BY sent, pos"

abbrev of_author : List Term
of_author = op2 (Compare Eq Binary) (col 1 2) (col 0 0) ∷ op2 (Compare Eq Binary) (col 1 11) (col 0 1) ∷ []

author_question : (list key : List ℕ) → IsQuestion archive_schema author_text 8 of_author number_cell by_date (codes "pos" ∷ []) (Text list ∷ Blob key ∷ [])
unfolding understood everything
author_question list key = record { is = refl; unlisted = refl; plain = (refl, refl); fits = (refl, refl); typed = refl; low = λ trees. refl }

has_month : (list : List ℕ) (month : ℤ) (n : ℤ) (f : IndexedMessage) → passes of_month (Text list ∷ Int month ∷ []) (Int n ∷ indexed_message_cells f) ≡ is_indexed_in_month list month f
has_month list month n f = ap₂ ◌&&◌ (text_is f.0.list list) (alone _ ∙ int_is f.1.month month)

blob_is : (a b : List ℕ) → is_true (binary (Compare Eq Binary) (Blob a) (Blob b)) ≡ bytes_eq a b
unfolding binary
blob_is a b = truth_back _ ∙ ap is_eq (value_cmp-Blob a b) ∙ is_eq-slice_cmp a b

has_author : (list key : List ℕ) (n : ℤ) (f : IndexedMessage) → passes of_author (Text list ∷ Blob key ∷ []) (Int n ∷ indexed_message_cells f) ≡ is_indexed_by_author list key f
has_author list key n f = ap₂ ◌&&◌ (text_is f.0.list list) (alone _ ∙ blob_is f.1.author key)

-- ---- the laws: a walk over these numbers shows the messages

pub walked_month : (trees : Trees) (list : List ℕ) (month : ℤ) → AreArchiveTables trees → map (message_at trees) (month_rowids trees list month) ≡ map Some
    (messages_in_month (archive_in_trees trees) list month)
walked_month trees list month k = walked_where of_month (Text list ∷ Int month ∷ []) (is_indexed_in_month list month) (has_month list month) trees k

pub walked_author : (trees : Trees) (list key : List ℕ) → AreArchiveTables trees → map (message_at trees) (author_rowids trees list key) ≡ map Some
    (messages_by_author (archive_in_trees trees) list key)
walked_author trees list key k = walked_where of_author (Text list ∷ Blob key ∷ []) (is_indexed_by_author list key) (has_author list key) trees k

-- ---- what the texts show

module _ (old new : State) {behind : Option Database} (k : IsOpenArchive behind old) (list : List ℕ) where
  pub month_found : (month : ℤ) (rows : List Row) → Shown month_text (Text list ∷ Int month ∷ []) old new rows
      → (rows ≡ map rowid_result_row (month_rowids old.now.trees list month)) × LeavesRowsUnchanged behind old new
  month_found month rows h =
      let it = answers (month_question list month) old new k rows h in
      (picked_where of_month (Text list ∷ Int month ∷ []) (is_indexed_in_month list month) (has_month list month) old.now.trees k.tables rows it.0, it.1)

  pub no_month : (month : ℤ) (e : Error) → FailsToQuery month_text (Text list ∷ Int month ∷ []) old new e → FaultKeepsRowsOrRollsBack behind old new
  no_month month = fault_rests (month_question list month) old new k

  pub no_month_caused : (month : ℤ) (e : Error) → FailsToQuery month_text (Text list ∷ Int month ∷ []) old new e → old.step_limit ≡ None → IsMemoryOrDiskError old new e
  no_month_caused month = fault_caused (month_question list month) old new k

  pub author_found : (key : List ℕ) (rows : List Row) → Shown author_text (Text list ∷ Blob key ∷ []) old new rows
      → (rows ≡ map rowid_result_row (author_rowids old.now.trees list key)) × LeavesRowsUnchanged behind old new
  author_found key rows h =
      let it = answers (author_question list key) old new k rows h in
      (picked_where of_author (Text list ∷ Blob key ∷ []) (is_indexed_by_author list key) (has_author list key) old.now.trees k.tables rows it.0, it.1)

  pub no_author : (key : List ℕ) (e : Error) → FailsToQuery author_text (Text list ∷ Blob key ∷ []) old new e → FaultKeepsRowsOrRollsBack behind old new
  no_author key = fault_rests (author_question list key) old new k

  pub no_author_caused : (key : List ℕ) (e : Error) → FailsToQuery author_text (Text list ∷ Blob key ∷ []) old new e → old.step_limit ≡ None → IsMemoryOrDiskError old new e
  no_author_caused key = fault_caused (author_question list key) old new k
