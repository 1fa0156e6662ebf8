-- All messages by the names of their lists, by their numbers.
use Rattle.std.proofs.Common.{◌≡◌, ℕ, ℤ, true, false, List, [], ◌∷◌, map, filter, codes, Option, Some, None, refl, sym, ap, ◌∙◌}
use Rattle.std.specs.Prelude.{option_map, slice_get}
use Rattle.std.specs.Cmp.Lexicographic.{slice_cmp, nat_list_cmp_total}
use Rattle.std.specs.Ordering.{is_lt, nat_cmp, ordering_then, ordering_reverse}
use Rattle.std.specs.declared.cmp.Ordering.{Ordering}
use Rattle.std.specs.declared.cmp.Ordering.TheVariants.{Less, Equal, Greater}
use Rattle.sqlite.specs.declared.error.Error.{Error}
use Rattle.sqlite.specs.declared.types.Value.TheVariants.{Int}
use Rattle.sqlite.specs.Order.{Row, value_cmp}
use Rattle.sqlite.specs.Tree.{Trees}
use Rattle.sqlite.specs.Term.{Term, col}
use Rattle.sqlite.specs.Query.{output_cmp}
use Rattle.sqlite.specs.Collation.TheVariants.{Binary}
use Rattle.sqlite.specs.Listing.{understood}
use Rattle.sqlite.specs.Effect.{Database}
use Rattle.sqlite.specs.State.{State, Shown, FailsToQuery}
use Rattle.sqlite_tied.specs.Compute.{everything}
use Rattle.sqlite_trees.proofs.ListLemmas.{map-map, all-permutation}
use Rattle.sqlite_value.specs.declared.keys.Key.{Key}
use Rattle.sqlite_value.specs.Keys.{ascending}
use Rattle.sqlite_value.proofs.OrderLemmas.{value_cmp-Text}
use Rattle.archive_model.specs.Filing.{IndexedMessage, indexed_messages}
use Rattle.archive_model.specs.Damage.{has_lower_list_name, insert_by_list_name, sort_by_list_name}
use Rattle.archive_tables.specs.Schema.{archive_schema}
use Rattle.archive_tables.specs.Tables.{IsOpenArchive, AreArchiveTables, NumberedRecord, indexed_message_cells, indexed_message_from_row, archive_in_trees}
use Rattle.archive_tables.specs.Rows.{numbered_indexed_messages, rowid_result_row}
use Rattle.archive_tables.specs.Listed.{was_listed_before, insert_row_by_list, rows_by_list, all_rowids, filed_at, indexed_result_row}
use Rattle.archive_tables.specs.Calls.{FaultKeepsRowsOrRollsBack, LeavesRowsUnchanged, IsMemoryOrDiskError}
use Rattle.archive_tables.proofs.MessageLemmas.{filed_back, filed_are}
use Rattle.archive_tables.proofs.RowLemmas.{records_are}
use Rattle.archive_tables.proofs.SelectLemmas.{plain_query, by_number, all_pass, first_kept}
use Rattle.archive_tables.proofs.WalkLemmas.{at_place, is_at, picked_at, finds, all_found as all_at, messages_at}
use Rattle.archive_tables.proofs.QuestionLemmas.{IsQuestion, answers, fault_rests, fault_caused}
use Rattle.archive_tables.proofs.SortLemmas.{Sorts, sort_same, sort_maps, number_cell, IsLower, IsBefore, out, picked_places}

-- ---- rows in the order of the lists' names

by_list_sorts : Sorts was_listed_before insert_row_by_list rows_by_list
by_list_sorts = record { alone = λ r. refl; puts = λ r s rows. refl; none = refl; next = λ r rows. refl }

-- and what is filed of them
filed_sorts : Sorts has_lower_list_name insert_by_list_name sort_by_list_name
filed_sorts = record { alone = λ f. refl; puts = λ f g all. refl; none = refl; next = λ f all. refl }

-- ---- the query by this order

abbrev pub places_text : List ℕ
places_text = codes "SELECT pos FROM message ORDER BY list, pos"

abbrev list_then_number : List (Term × Key)
list_then_number = (col 1 2, ascending Binary) ∷ (col 1 0, ascending Binary) ∷ []

places_question : IsQuestion archive_schema places_text 8 [] number_cell list_then_number (codes "pos" ∷ []) []
unfolding understood everything
places_question = record { is = refl; unlisted = refl; plain = (refl, refl); fits = (refl, refl); typed = refl; low = λ trees. refl }

abbrev order : List ℕ → List ℕ → Ordering
order = slice_cmp nat_cmp

by_both : (r s : NumberedRecord IndexedMessage) → output_cmp (plain_query 8 [] number_cell list_then_number) (out [] list_then_number [] r) (out [] list_then_number [] s)
    ≡ ordering_then (order r.content.0.list s.content.0.list) (ordering_then (value_cmp (Int r.number) (Int s.number)) Equal)
by_both r s = ap (λ o. ordering_then o (ordering_then (value_cmp (Int r.number) (Int s.number)) Equal)) (value_cmp-Text r.content.0.list s.content.0.list)

list_first : (r s : NumberedRecord IndexedMessage) → was_listed_before r s ≡ true → IsBefore [] list_then_number [] r s
list_first r s first = by_both r s ∙ earlier (order r.content.0.list s.content.0.list) (ordering_then (value_cmp (Int r.number) (Int s.number)) Equal) first
  where
    earlier : (o n : Ordering) → is_lt o ≡ true → ordering_then o n ≡ Less
    earlier Less n e = refl
    earlier Equal n e = absurd cc
    earlier Greater n e = absurd cc

or_lower : (r s : NumberedRecord IndexedMessage) → was_listed_before s r ≡ false → IsLower r s → IsBefore [] list_then_number [] r s
or_lower r s not_first lower =
    by_both r s ∙ later (order s.content.0.list r.content.0.list) (order r.content.0.list s.content.0.list) (value_cmp (Int r.number) (Int s.number))
    (nat_list_cmp_total.antisymm r.content.0.list s.content.0.list) not_first lower
  where
    later : (back o n : Ordering) → o ≡ ordering_reverse back → is_lt back ≡ false → n ≡ Less → ordering_then o (ordering_then n Equal) ≡ Less
    later Less o n e not_less l = absurd cc
    later Equal o n e not_less l = rw (e, l) refl
    later Greater o n e not_less l = rw e refl

-- ---- the law: a walk over these numbers shows all messages

pub walked_all : (trees : Trees) → AreArchiveTables trees → map (filed_at trees) (all_rowids trees) ≡ map Some (sort_by_list_name (indexed_messages (archive_in_trees trees)))
walked_all trees k =
    let all = numbered_indexed_messages trees in
    let found = all-permutation (λ r. finds all r ≡ Some r) all (rows_by_list all) (sort_same by_list_sorts all) (all_at trees k) in
    let its : map (λ (r : NumberedRecord IndexedMessage). r.content) all ≡ indexed_messages (archive_in_trees trees) = sym
    (records_are indexed_message_cells indexed_message_from_row filed_back (trees 8) k.messages) ∙ sym (filed_are (trees 8)) in
    messages_at (λ r. r.content) all (rows_by_list all) found
    ∙ sym (map-map (λ (f : IndexedMessage). Some f) (λ (r : NumberedRecord IndexedMessage). r.content) (rows_by_list all))
    ∙ ap (map Some) (sort_maps (λ (r : NumberedRecord IndexedMessage). r.content) by_list_sorts filed_sorts (λ r s. refl) all ∙ ap sort_by_list_name its)

-- ---- the message of a number

abbrev pub filed_text : List ℕ
filed_text = codes "SELECT list, key, sender, arrival, text, sent, month, author FROM message WHERE pos = ?1 ORDER BY pos"

abbrev cells : List Term
cells = col 1 2 ∷ col 1 3 ∷ col 1 4 ∷ col 1 5 ∷ col 1 6 ∷ col 1 9 ∷ col 1 10 ∷ col 1 11 ∷ []

abbrev names : List (List ℕ)
names = codes "list" ∷ codes "key" ∷ codes "sender" ∷ codes "arrival" ∷ codes "text" ∷ codes "sent" ∷ codes "month" ∷ codes "author" ∷ []

filed_question : (place : ℤ) → IsQuestion archive_schema filed_text 8 at_place cells by_number names (Int place ∷ [])
unfolding understood everything
filed_question place = record { is = refl; unlisted = refl; plain = (refl, refl); fits = (refl, refl); typed = refl; low = λ trees. refl }

first_shown : (all : List (NumberedRecord IndexedMessage)) → slice_get (map (λ (r : NumberedRecord IndexedMessage). indexed_result_row r.content) all) 0
    ≡ option_map indexed_result_row (option_map (λ (r : NumberedRecord IndexedMessage). r.content) (slice_get all 0))
first_shown [] = refl
first_shown (r ∷ all) = refl

-- ---- what the texts show

module _ (old new : State) {behind : Option Database} (k : IsOpenArchive behind old) where
  pub all_found : (rows : List Row) → Shown places_text [] old new rows → (rows ≡ map rowid_result_row (all_rowids old.now.trees)) × LeavesRowsUnchanged behind old new
  all_found rows h =
      let it = answers places_question old new k rows h in
      let messages = k.tables.messages in
      let hit = all_pass [] (old.now.trees 8) ∙ messages.rows_read_back in
      (picked_places [] list_then_number [] by_list_sorts list_first or_lower (old.now.trees 8) messages.is_table (numbered_indexed_messages old.now.trees) hit rows it.0, it.1)

  pub none_found : (e : Error) → FailsToQuery places_text [] old new e → FaultKeepsRowsOrRollsBack behind old new
  none_found = fault_rests places_question old new k

  pub none_found_caused : (e : Error) → FailsToQuery places_text [] old new e → old.step_limit ≡ None → IsMemoryOrDiskError old new e
  none_found_caused = fault_caused places_question old new k

  pub filed_found : (place : ℤ) (rows : List Row) → Shown filed_text (Int place ∷ []) old new rows
      → (slice_get rows 0 ≡ option_map indexed_result_row (filed_at old.now.trees place)) × LeavesRowsUnchanged behind old new
  filed_found place rows h =
      let it = answers (filed_question place) old new k rows h in
      let all = numbered_indexed_messages old.now.trees in (
        ap (λ l. slice_get l 0) (picked_at place cells (λ r. indexed_result_row r.content) (λ r. refl) old.now.trees k.tables rows it.0) ∙ first_shown (filter (is_at place) all)
            ∙ ap (λ o. option_map indexed_result_row (option_map (λ (r : NumberedRecord IndexedMessage). r.content) o)) (first_kept (is_at place) all),
        it.1,
      )

  pub not_filed : (place : ℤ) (e : Error) → FailsToQuery filed_text (Int place ∷ []) old new e → FaultKeepsRowsOrRollsBack behind old new
  not_filed place = fault_rests (filed_question place) old new k

  pub not_filed_caused : (place : ℤ) (e : Error) → FailsToQuery filed_text (Int place ∷ []) old new e → old.step_limit ≡ None → IsMemoryOrDiskError old new e
  not_filed_caused place = fault_caused (filed_question place) old new k
