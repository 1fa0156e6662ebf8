-- A list's messages by their numbers.
use Rattle.std.proofs.Common.{◌≡◌, ℕ, ℤ, Bool, true, false, List, [], ◌∷◌, map, filter, codes, arith, Option, Some, refl, sym, ap, ap₂, subst, ◌∙◌, None}
use Rattle.std.specs.Prelude.{bytes_eq, find, option_map}
use Rattle.std.specs.List.{AllByRecursion}
use Rattle.std.specs.Ordering.{int_eq, int_cmp, is_eq}
use Rattle.std.specs.declared.cmp.Ordering.TheVariants.{Less}
use Rattle.std.proofs.lemmas.Int.{ints}
use Rattle.sqlite.specs.declared.error.Error.{Error}
use Rattle.sqlite.specs.declared.types.Value.TheVariants.{Int, Text}
use Rattle.sqlite.specs.Order.{Row, value_cmp}
use Rattle.sqlite.specs.Tree.{Trees, IsTable, rowid}
use Rattle.sqlite.specs.Term.{Term, col, op2}
use Rattle.sqlite.specs.Query.{output}
use Rattle.sqlite.specs.Collation.TheVariants.{Binary}
use Rattle.sqlite.specs.Listing.{understood}
use Rattle.sqlite.specs.Effect.{Database}
use Rattle.sqlite.specs.State.{State, Shown, FailsToQuery}
use Rattle.sqlite_tied.specs.Compute.{everything}
use Rattle.sqlite_sql.specs.declared.ops.BinaryOp.TheVariants.{Compare}
use Rattle.sqlite_sql.specs.declared.ops.CompareOp.TheVariants.{Eq}
use Rattle.sqlite_value.proofs.OrderLemmas.{value_cmp-Int}
use Rattle.sqlite_trees.proofs.ListLemmas.{map-map, filter-map, filter_same, all_of, all_both, all-filter, all_from_map}
use Rattle.archive_model.specs.Records.{Message}
use Rattle.archive_model.specs.Filing.{IndexedMessage}
use Rattle.archive_model.specs.Questions.{messages_in}
use Rattle.archive_tables.specs.Schema.{archive_schema}
use Rattle.archive_tables.specs.Tables.{IsOpenArchive, AreArchiveTables, NumberedRecord, numbered_row, indexed_message_cells, indexed_message_from_row, archive_in_trees}
use Rattle.archive_tables.specs.Rows.{message_result_row, numbered_indexed_messages, message_rowids_in, message_at, rowid_result_row}
use Rattle.archive_tables.specs.Calls.{FaultKeepsRowsOrRollsBack, LeavesRowsUnchanged, IsMemoryOrDiskError}
use Rattle.archive_tables.proofs.MessageLemmas.{filed_back, wanted_messages}
use Rattle.archive_tables.proofs.MailboxLemmas.{of_list, has_list}
use Rattle.archive_tables.proofs.SelectLemmas.{plain_query, by_number, env_of, passes, Picks, hits, in_order, alone, int_is, tie_is}
use Rattle.archive_tables.proofs.QuestionLemmas.{IsQuestion, answers, answer_rests, fault_rests, fault_caused}
use Rattle.archive_tables.proofs.SortLemmas.{number_cell}

-- ---- the numbers of a list's messages

abbrev pub places_text : List ℕ
places_text = codes "SELECT pos FROM message WHERE list = ?1 ORDER BY pos"

places_question : (list : List ℕ) → IsQuestion archive_schema places_text 8 of_list number_cell by_number (codes "pos" ∷ []) (Text list ∷ [])
unfolding understood everything
places_question list = record { is = refl; unlisted = refl; plain = (refl, refl); fits = (refl, refl); typed = refl; low = λ trees. refl }

-- ---- the message of a number

abbrev pub at_text : List ℕ
at_text = codes "SELECT key, sender, arrival, text, withdrawn, embargo FROM message WHERE pos = ?1 ORDER BY pos"

abbrev pub at_place : List Term
at_place = op2 (Compare Eq Binary) (col 1 0) (col 0 0) ∷ []

abbrev all_cells : List Term
all_cells = col 1 3 ∷ col 1 4 ∷ col 1 5 ∷ col 1 6 ∷ col 1 7 ∷ col 1 8 ∷ []

abbrev all_names : List (List ℕ)
all_names = codes "key" ∷ codes "sender" ∷ codes "arrival" ∷ codes "text" ∷ codes "withdrawn" ∷ codes "embargo" ∷ []

at_question : (place : ℤ) → IsQuestion archive_schema at_text 8 at_place all_cells by_number all_names (Int place ∷ [])
unfolding understood everything
at_question place = record { is = refl; unlisted = refl; plain = (refl, refl); fits = (refl, refl); typed = refl; low = λ trees. refl }

module _ (place : ℤ) where
  abbrev pub is_at : NumberedRecord IndexedMessage → Bool
  is_at r = int_eq r.number place

  abbrev has_place : NumberedRecord IndexedMessage → Bool
  has_place r = passes at_place (Int place ∷ []) (numbered_row indexed_message_cells r)

  passing : (all : List (NumberedRecord IndexedMessage)) → filter (passes at_place (Int place ∷ [])) (map (numbered_row indexed_message_cells) all)
      ≡ map (numbered_row indexed_message_cells) (filter is_at all)
  passing all =
      filter-map (passes at_place (Int place ∷ [])) (numbered_row indexed_message_cells) all
      ∙ ap (map (numbered_row indexed_message_cells)) (filter_same has_place is_at all (all_of (λ r. has_place r ≡ is_at r) (λ r. alone _ ∙ int_is r.number place) all))

  -- what a query of these columns shows
  pub picked_at : (cells : List Term) (show : NumberedRecord IndexedMessage → Row)
      → ((r : NumberedRecord IndexedMessage) → (output (plain_query 8 at_place cells by_number) (env_of (Int place ∷ []) (numbered_row indexed_message_cells r))).1 ≡ show r)
      → (trees : Trees) → AreArchiveTables trees → (shown : List Row) → Picks (plain_query 8 at_place cells by_number) (Int place ∷ []) (trees 8) shown
      → shown ≡ map show (filter is_at (numbered_indexed_messages trees))
  picked_at cells show same trees k shown it =
      let cells_of = λ (row : Row). (output (plain_query 8 at_place cells by_number) (env_of (Int place ∷ []) row)).1 in
      let them = filter is_at (numbered_indexed_messages trees) in
      in_order 8 at_place cells (Int place ∷ []) (trees 8) shown k.messages.is_table it
      ∙ ap (map cells_of) (ap (filter (passes at_place (Int place ∷ []))) k.messages.rows_read_back ∙ passing (numbered_indexed_messages trees))
      ∙ map-map cells_of (numbered_row indexed_message_cells) them ∙ (λ i. map (λ r. same r i) them)

-- ---- a walk

abbrev pub finds : List (NumberedRecord IndexedMessage) → NumberedRecord IndexedMessage → Option (NumberedRecord IndexedMessage)
finds all r = find (λ (s : NumberedRecord IndexedMessage). int_eq s.number r.number) all

itself : (n : ℤ) → int_eq n n ≡ true
itself n = sym (tie_is n n) ∙ same
  where
    same : is_eq (int_cmp n n) ≡ true
    same = grind (arith, ints)

-- the numbers rise, so that each message is found by its own
each_found : (all : List (NumberedRecord IndexedMessage)) → IsTable (map (numbered_row indexed_message_cells) all) → AllByRecursion (λ r. finds all r ≡ Some r) all
each_found [] up = tt
each_found (x ∷ all) up = (
  rw (itself x.number) refl,
  all_both (λ (r : NumberedRecord IndexedMessage). value_cmp (Int x.number) (Int r.number) ≡ Less) (λ r. finds all r ≡ Some r) (λ r. finds (x ∷ all) r ≡ Some r) (λ r above found.
      let other : int_eq x.number r.number ≡ false = sym (tie_is x.number r.number) ∙ ap is_eq (sym (value_cmp-Int x.number r.number) ∙ above) in
      rw other found) all (all_from_map (λ row. value_cmp (Int x.number) (rowid row) ≡ Less) (numbered_row indexed_message_cells) all up.0) (each_found all up.1),
)

pub all_found : (trees : Trees) → AreArchiveTables trees → (let all = numbered_indexed_messages trees in AllByRecursion (λ r. finds all r ≡ Some r) all)
all_found trees k = each_found (numbered_indexed_messages trees) (subst IsTable k.messages.rows_read_back k.messages.is_table)

pub messages_at : {X : Type 0} (show : NumberedRecord IndexedMessage → X) (all wanted : List (NumberedRecord IndexedMessage)) → AllByRecursion (λ r. finds all r ≡ Some r) wanted
    → map (λ place. option_map show (find (λ (r : NumberedRecord IndexedMessage). int_eq r.number place) all)) (map (λ (r : NumberedRecord IndexedMessage). r.number) wanted)
    ≡ map (λ r. Some (show r)) wanted
messages_at show all [] h = refl
messages_at show all (r ∷ wanted) h = ap₂ ◌∷◌ (ap (option_map show) h.0) (messages_at show all wanted h.1)

pub walked : (trees : Trees) (list : List ℕ) → AreArchiveTables trees → map (message_at trees) (message_rowids_in trees list) ≡ map Some (messages_in (archive_in_trees trees) list)
walked trees list t =
    let all = numbered_indexed_messages trees in
    let is_wanted = λ (r : NumberedRecord IndexedMessage). bytes_eq r.content.0.list list in
    let found = all-filter (λ r. finds all r ≡ Some r) is_wanted all (all_found trees t) in
    let its = hits indexed_message_cells indexed_message_from_row filed_back (plain_query 8 of_list number_cell by_number) (Text list ∷ []) (λ (f : IndexedMessage). bytes_eq f.0.list list)
    (has_list list) (trees 8) t.messages in
    messages_at (λ r. r.content.0) all (filter is_wanted all) found ∙ sym (map-map (λ (f : IndexedMessage). Some f.0) (λ (r : NumberedRecord IndexedMessage). r.content) (filter is_wanted all))
    ∙ ap (map (λ (f : IndexedMessage). Some f.0)) its.1 ∙ wanted_messages (λ (m : Message). bytes_eq m.list list) Some (trees 8)

-- ---- what the texts show

module _ (old new : State) {behind : Option Database} (k : IsOpenArchive behind old) where
  pub places_found : (list : List ℕ) (rows : List Row) → Shown places_text (Text list ∷ []) old new rows
      → (rows ≡ map rowid_result_row (message_rowids_in old.now.trees list)) × LeavesRowsUnchanged behind old new
  places_found list rows h =
      let it = answers (places_question list) old new k rows h in
      let cell_of = λ (row : Row). (output (plain_query 8 of_list number_cell by_number) (env_of (Text list ∷ []) row)).1 in
      let wanted = filter (λ (r : NumberedRecord IndexedMessage). bytes_eq r.content.0.list list) (numbered_indexed_messages old.now.trees) in
      let its = hits indexed_message_cells indexed_message_from_row filed_back (plain_query 8 of_list number_cell by_number) (Text list ∷ []) (λ (f : IndexedMessage). bytes_eq f.0.list list)
      (has_list list) (old.now.trees 8) k.tables.messages in (
        in_order 8 of_list number_cell (Text list ∷ []) (old.now.trees 8) rows k.tables.messages.is_table it.0 ∙ ap (map cell_of) its.0
            ∙ map-map cell_of (numbered_row indexed_message_cells) wanted ∙ sym (map-map rowid_result_row (λ (r : NumberedRecord IndexedMessage). r.number) wanted),
        it.1,
      )

  pub no_places : (list : List ℕ) (e : Error) → FailsToQuery places_text (Text list ∷ []) old new e → FaultKeepsRowsOrRollsBack behind old new
  no_places list = fault_rests (places_question list) old new k

  pub no_places_caused : (list : List ℕ) (e : Error) → FailsToQuery places_text (Text list ∷ []) old new e → old.step_limit ≡ None → IsMemoryOrDiskError old new e
  no_places_caused list = fault_caused (places_question list) old new k

  pub at_found : (place : ℤ) (rows : List Row) → Shown at_text (Int place ∷ []) old new rows
      → (rows ≡ map (λ (r : NumberedRecord IndexedMessage). message_result_row r.content.0) (filter (is_at place) (numbered_indexed_messages old.now.trees))) × LeavesRowsUnchanged behind old new
  at_found place rows h =
      let it = answers (at_question place) old new k rows h in
      (picked_at place all_cells (λ r. message_result_row r.content.0) (λ r. refl) old.now.trees k.tables rows it.0, it.1)

  pub none_at : (place : ℤ) (e : Error) → FailsToQuery at_text (Int place ∷ []) old new e → FaultKeepsRowsOrRollsBack behind old new
  none_at place = fault_rests (at_question place) old new k

  pub none_at_caused : (place : ℤ) (e : Error) → FailsToQuery at_text (Int place ∷ []) old new e → old.step_limit ≡ None → IsMemoryOrDiskError old new e
  none_at_caused place = fault_caused (at_question place) old new k

  pub at_rests : (place : ℤ) (rows : List Row) → Shown at_text (Int place ∷ []) old new rows → FaultKeepsRowsOrRollsBack behind old new
  at_rests place = answer_rests (at_question place) old new k
