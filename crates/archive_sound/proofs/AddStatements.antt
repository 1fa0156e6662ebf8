-- SQL refuses no message that comes.
use Rattle.std.proofs.Common.{◌≡◌, ◌⊎◌, ◌≤ℤ◌, ◌<ℤ◌, ◌^◌, ◌++◌, suc, fold, inl, inr, ℕ, ℤ, pos, negsuc, ◌+ℤ◌, List, [], ◌∷◌, map, Ok, Err, Result, refl, sym, ap, ap₂, subst, ◌∙◌, false, true}
use Rattle.std.proofs.Common.{None, Some, Option, arith}
use Rattle.std.specs.Prelude.{find}
use Rattle.std.specs.List.{list_any}
use Rattle.std.specs.Ordering.{is_eq, is_lt, int_cmp}
use Rattle.std.proofs.lemmas.Bool.{cases_Bool}
use Rattle.std.proofs.lemmas.Int.{ints}
use Rattle.sqlite.specs.declared.error.Error.{Error}
use Rattle.sqlite.specs.declared.types.Value.TheVariants.{Null, Int, Text, Blob}
use Rattle.sqlite.specs.Command.TheVariants.{Insert}
use Rattle.sqlite.specs.Does.{Tally, Does}
use Rattle.sqlite.specs.Edit.{Edit, edit_of, taken_by, next_rowid, at_least}
use Rattle.sqlite.specs.Effect.{Database}
use Rattle.sqlite.specs.Listing.{understood}
use Rattle.sqlite.specs.Ops.{fits_i64}
use Rattle.sqlite.specs.Order.{Row, column, value_cmp}
use Rattle.sqlite.specs.Rowids.TheVariants.{Above}
use Rattle.sqlite.specs.Rows.{Written, Sourced, Edited, Counter, Counts, Inserts, count_of, counter_in, higher}
use Rattle.sqlite.specs.Source.TheVariants.{Values}
use Rattle.sqlite.specs.Term.{Term, lit, col}
use Rattle.sqlite.specs.Tree.{Trees, put_row}
use Rattle.sqlite.proofs.Callers.{one_step}
use Rattle.sqlite_tied.specs.Compute.{everything}
use Rattle.sqlite_typing.specs.Types.{accepts_terms}
use Rattle.sqlite_rules.specs.Edit.{Applies}
use Rattle.sqlite_schema.specs.declared.schema.Among.TheVariants.{All}
use Rattle.sqlite_schema.specs.declared.schema.Constraint.TheVariants.{Check, Unique, ForeignKey}
use Rattle.sqlite_schema.specs.declared.schema.Keys.TheVariants.{Enforced}
use Rattle.sqlite_schema.specs.Rules.{Obeys, Fits, passes, Refers}
use Rattle.archive_model.specs.Records.{IndexColumns}
use Rattle.archive_model.specs.Filing.{IndexedMessage}
use Rattle.archive_tables.specs.Rows.{unmarked_message}
use Rattle.archive_tables.specs.Schema.{archive_schema, message_table, sequence_table}
use Rattle.archive_tables.specs.Statements.{StatementMayEndIn, StatementExecutesTo, IsStatementRefused, insert_message_statement}
use Rattle.archive_tables.specs.Tables.{AreArchiveTables, HaveDistinctKeys, HoldsRecords, archive_in_trees, indexed_message_cells, indexed_message_from_row}
use Rattle.archive_tables.specs.Tables.{index_columns_from_row, message_from_row, same_message_key}
use Rattle.archive_tables.proofs.ApartLemmas.{is_no_foreign_key}
use Rattle.archive_tables.proofs.CreateLemmas.{over, at_once, went}
use Rattle.archive_tables.proofs.ChangeLemmas.{apart_more}
use Rattle.archive_tables.proofs.MessageLemmas.{add_text, filed_back, flips, one_filed}
use Rattle.archive_tables.proofs.RowLemmas.{raised, put_past, positive_more}
use Rattle.archive_tables.proofs.RunLemmas.{passed, value_is, no_action, cast_null, cast_int}
use Rattle.archive_tables.proofs.TableLemmas.{SameBut, same_but, messages_change}
use Rattle.archive_sound.specs.Room.{IsSoundArchive, HasCountedNumber, HasNumbersFor, HaveShortNumbers, HasFreeNumber, message_count, sequence_cells, sequence_from_row}
use Rattle.archive_sound.proofs.CountLemmas.{IsCountedTo, past, chosen, count_says, counts_to, next_behind}
use Rattle.archive_sound.proofs.EditLemmas.{IsAccepted, never_edits}
use Rattle.archive_sound.proofs.MessageTable.{none_alike, message_checks, message_facts, same_filed, filed_apart, IsShortMessage, message_list_is_there}
use Rattle.archive_sound.proofs.NumberLemmas.{LeavesMessage}
use Rattle.archive_sound.proofs.ReferLemmas.{AllRefer, all_rules, Refer, they_refer, refers, messages_after, sequence_after}
use Rattle.archive_sound.proofs.SequenceTable.{task, never_sought, counter_is, never_counts, counts_leave}
use Rattle.archive_sound.proofs.TableLemmas.{accepts_more, refer_more, never_ends}
use Rattle.archive_sound.proofs.ValueLemmas.{both, within_none, within_range}

abbrev new_cells : List Term
new_cells = lit Null ∷ lit Null ∷ col 0 0 ∷ col 0 1 ∷ col 0 2 ∷ col 0 3 ∷ col 0 4 ∷ lit (Int (pos 0)) ∷ lit Null ∷ col 0 5 ∷ col 0 6 ∷ col 0 7 ∷ []

-- a value is no stop
no_value : {A E : Type 0} {a : A} {e : E} → ◌≡◌ {A = Result A E} (Err e) (Ok a) → ⊥
no_value same = let bad = same in cc

-- the last number and the count stay so far from the end
within : (top id n : ℤ) (more : ℕ) → (n ≡ id) ⊎ (n ≡ top +ℤ pos 1) → pos 0 ≤ℤ id → (id +ℤ pos (suc more)) ≤ℤ pos (2 ^ 63) → pos 0 ≤ℤ top → (top +ℤ pos (suc more)) <ℤ pos (2 ^ 63)
    → (pos 0 ≤ℤ (n +ℤ pos 1)) × (((n +ℤ pos 1) +ℤ pos more) ≤ℤ pos (2 ^ 63)) × (pos 0 ≤ℤ n) × ((n +ℤ pos more) <ℤ pos (2 ^ 63))
within top id n more (inl is) a b c d = (omega (arith, ints, is, a), omega (arith, ints, is, b), omega (arith, ints, is, a), omega (arith, ints, is, b))
within top id n more (inr is) a b c d = (omega (arith, ints, is, c), omega (arith, ints, is, d), omega (arith, ints, is, c), omega (arith, ints, is, d))

-- the number that follows both the last row's and the count
fits_above : (top id : ℤ) → fits_i64 id ≡ true → fits_i64 (top +ℤ pos 1) ≡ true → fits_i64 (at_least (Above top) id) ≡ true
fits_above top id after_last after_count = elim (cases_Bool (is_lt (int_cmp top id))) [ inl below ↦ rw below after_last | inr past ↦ rw past after_count ]

module _ (list key sender : List ℕ) (arrival : ℤ) (text : List ℕ) (filing : IndexColumns) where
  abbrev params : Row
  params = Text list ∷ Text key ∷ Blob sender ∷ Int arrival ∷ Blob text ∷ Int filing.sent ∷ Int filing.month ∷ Blob filing.author ∷ []

  abbrev f : IndexedMessage
  f = (unmarked_message list key sender arrival text, filing)

  add_may : (trees : Trees) (out : Result (Tally × Database) (Option Error))
      → StatementMayEndIn (insert_message_statement (unmarked_message list key sender arrival text) filing) (over archive_schema trees) out
      → Does None at_once params (over archive_schema trees) add_text None (Insert 4 (Values new_cells 12)) out
  unfolding understood everything
  add_may trees out h = h

  add_typed : accepts_terms new_cells params ≡ true
  unfolding everything
  add_typed = refl

  module _ (db : Trees) (k : AreArchiveTables db) (obeys : Obeys archive_schema db) (short : IsShortMessage f) (room : HasCountedNumber db) (named : message_list_is_there db f ≡ true)
      (new : list_any (same_filed f) (map indexed_message_from_row (db 8)) ≡ false) where
    abbrev top : ℤ
    top = message_count db

    abbrev n : ℤ
    n = at_least (Above top) (next_rowid (db 8))

    abbrev the_edit : Edit
    the_edit = record { table = message_table; gone = []; news = (Int n ∷ indexed_message_cells f) ∷ [] }

    checked : passes Check archive_schema db message_table (Int n ∷ indexed_message_cells f) ≡ true
    checked = message_checks db n f ∙ both _ _ (within_range (pos 0) (pos 2) (pos 0) (omega (arith, ints)) (omega (arith, ints))) (both _ _ (within_none (negsuc 25566) (pos 2932531)) refl)

    distinct : HaveDistinctKeys same_filed (map indexed_message_from_row (db 8))
    distinct = filed_apart (db 8) k.messages_distinct

    accepted : IsAccepted db the_edit
    accepted = accepts_more message_table indexed_message_cells indexed_message_from_row same_filed IsShortMessage message_list_is_there message_facts db obeys k.messages distinct
        n f (raised top (next_rowid (db 8))) short (fits_above top (next_rowid (db 8)) room.after_last room.after_count) checked new

    put_in : (given : List Row)
        → given ≡ (Null ∷ Null ∷ Text list ∷ Text key ∷ Blob sender ∷ Int arrival ∷ Blob text ∷ Int (pos 0) ∷ Null ∷ Int filing.sent ∷ Int filing.month ∷ Blob filing.author ∷ []) ∷ []
        → edit_of db message_table [] (Above top) 0 given ≡ the_edit
    put_in given from = rw (from, cast_null, cast_int arrival, cast_int (pos 0), cast_int filing.sent, cast_int filing.month)

    edit_is : (counter : Option Row) → Counter (task params) db (Ok counter) → (given : List Row)
        → given ≡ (Null ∷ Null ∷ Text list ∷ Text key ∷ Blob sender ∷ Int arrival ∷ Blob text ∷ Int (pos 0) ∷ Null ∷ Int filing.sent ∷ Int filing.month ∷ Blob filing.author ∷ []) ∷ []
        → edit_of db message_table [] (Above (count_of counter)) 0 given ≡ the_edit
    edit_is counter sought given from = ap (λ c. edit_of db message_table [] (Above (count_of c)) 0 given) (counter_is params db counter sought) ∙ put_in given from

    never_sourced : (stop : Option Error) → ¬ Sourced None (over archive_schema db) params (Values new_cells 12) (Err stop)
    never_sourced None h = h
    never_sourced (Some e) (inl mistyped) = let bad = sym add_typed ∙ mistyped.1 in cc
    never_sourced (Some e) (inr interrupted) = let bad = interrupted.1 in cc

    -- what the message's own edit leaves
    applies : (edit : Edit) → edit ≡ the_edit → (mid : Trees) → Edited archive_schema Enforced db edit (Ok mid) → Applies archive_schema Enforced db the_edit mid
    applies edit is mid written = one_step archive_schema Enforced db mid the_edit (no_action 8 (taken_by db the_edit) the_edit.news)
        (subst (λ (e : Edit). Edited archive_schema Enforced db e (Ok mid)) is written)

    count_stays : (mid : Trees) → Applies archive_schema Enforced db the_edit mid → mid 10 ≡ db 10
    count_stays mid applied = applied.tables.1.1.1.1.1.0 (λ e. omega (arith, e))

    never_counted : (mid : Trees) → Applies archive_schema Enforced db the_edit mid → (counter : Option Row) → Counter (task params) db (Ok counter) → (high : ℤ) (stop : Option Error)
        → ¬ Counts (task params) mid counter high (Err stop)
    never_counted mid applied counter sought high =
        let same = count_stays mid applied in
        never_counts params mid (applied.fits.rules Unique is_no_foreign_key) (subst (HoldsRecords sequence_cells sequence_from_row) (sym same) room.sequence)
        (subst HaveShortNumbers (sym same) room.numbers)
        (subst (λ rows. find (λ r. is_eq (value_cmp (column r 1) (Text message_table.name))) rows ≡ None → HasFreeNumber rows) (sym same) room.number) high counter
        (counter_is params db counter sought ∙ ap (find (λ r. is_eq (value_cmp (column r 1) (Text message_table.name)))) (sym same))

    never_inserts : (stop : Option Error) → ¬ Inserts (task params) (Values new_cells 12) db (Err stop)
    never_inserts stop h =
        let given = went h never_sourced in
        let counter = went given.2 (never_sought params db) in
        let is = edit_is counter.0 counter.1 given.0 given.1.1 in
        let mid = went counter.2 (never_edits db (edit_of db message_table [] (Above (count_of counter.0)) 0 given.0) (subst (IsAccepted db) (sym is) accepted)) in
        let next = went mid.2 (never_counted mid.0 (applies _ is mid.0 mid.1) counter.0 counter.1 _) in
        no_value next.2

    refer : (w : Written) → Inserts (task params) (Values new_cells 12) db (Ok w) → Refers All archive_schema w.trees
    refer w h =
        let given = passed h in
        let counter = passed given.2 in
        let is = edit_is counter.0 counter.1 given.0 given.1.1 in
        let mid = passed counter.2 in
        let next = passed mid.2 in
        let applied = applies _ is mid.0 mid.1 in
        let before = they_refer db (obeys.rules ForeignKey) in
        let rows = refer_more message_table indexed_message_cells indexed_message_from_row same_filed IsShortMessage message_list_is_there message_facts db obeys k.messages distinct
        n f (raised top (next_rowid (db 8))) short (fits_above top (next_rowid (db 8)) room.after_last room.after_count) checked new before.messages named in
        let middle = messages_after db mid.0 before (same_but 8 db mid.0 applied.tables) (subst (Refer db message_table) (sym applied.rows) rows) in
        let after = sequence_after mid.0 next.0 middle (counts_leave params mid.0 next.0 counter.0 _ next.1) in
        subst (Refers All archive_schema) (sym (ap (λ (x : Written). x.trees) (value_is next.2))) (refers next.0 after)

    pub never_added : (stop : Option Error) → ¬ Does None at_once params (over archive_schema db) add_text None (Insert 4 (Values new_cells 12)) (Err stop)
    never_added stop h = never_ends (task params) (Inserts (task params) (Values new_cells 12) db) never_inserts refer stop h

    -- what is done in turn: the message comes in, and its number is counted
    record Added (next : Trees) : Type 0 where
      mid : Trees
      applied : Applies archive_schema Enforced db the_edit mid
      counter : Option Row
      sought : counter ≡ counter_in db message_table sequence_table
      counted : Counts (task params) mid counter (fold higher (count_of counter) the_edit.news) (Ok next)

    added : (w : Written) → Inserts (task params) (Values new_cells 12) db (Ok w) → Added w.trees
    added w h =
        let given = passed h in
        let counter = passed given.2 in
        let is = edit_is counter.0 counter.1 given.0 given.1.1 in
        let mid = passed counter.2 in
        let next = passed mid.2 in
        record {
          mid = mid.0;
          applied = applies _ is mid.0 mid.1;
          counter = counter.0;
          sought = counter_is params db counter.0 counter.1;
          counted = subst (λ (t : Trees). Counts (task params) mid.0 counter.0 (fold higher (count_of counter.0) the_edit.news) (Ok t)) (sym (ap (λ (x : Written). x.trees) (value_is next.2)))
              (subst (λ (e : Edit). Counts (task params) mid.0 counter.0 (fold higher (count_of counter.0) e.news) (Ok next.0)) is next.1);
        }

    module _ (next : Trees) (it : Added next) where
      mid_refers : AllRefer it.mid
      mid_refers =
          let before = they_refer db (obeys.rules ForeignKey) in
          let rows = refer_more message_table indexed_message_cells indexed_message_from_row same_filed IsShortMessage message_list_is_there message_facts db obeys k.messages distinct
          n f (raised top (next_rowid (db 8))) short (fits_above top (next_rowid (db 8)) room.after_last room.after_count) checked new before.messages named in
          messages_after db it.mid before (same_but 8 db it.mid it.applied.tables) (subst (Refer db message_table) (sym it.applied.rows) rows)

      later : SameBut 10 it.mid next
      later = counts_leave params it.mid next it.counter _ it.counted

      high_is : fold higher (count_of it.counter) the_edit.news ≡ n
      high_is = ap (λ c. fold higher (count_of c) the_edit.news) it.sought ∙ rw (past top (next_rowid (db 8))) refl

      up : is_lt (int_cmp (count_of it.counter) n) ≡ true
      up = ap (λ c. is_lt (int_cmp (count_of c) n)) it.sought ∙ past top (next_rowid (db 8))

      counts : IsCountedTo n (next 10) × Fits archive_schema next
      counts =
          let same = count_stays it.mid it.applied in
          counts_to params it.mid next it.counter n up (it.sought ∙ ap (find (λ r. is_eq (value_cmp (column r 1) (Text message_table.name)))) (sym same))
          (subst (HoldsRecords sequence_cells sequence_from_row) (sym same) room.sequence) (subst HaveShortNumbers (sym same) room.numbers)
          (subst (λ rows. find (λ r. is_eq (value_cmp (column r 1) (Text message_table.name))) rows ≡ None → HasFreeNumber rows) (sym same) room.number)
          (subst (λ high. Counts (task params) it.mid it.counter high (Ok next)) high_is it.counted)

      put : HoldsRecords indexed_message_cells indexed_message_from_row (put_row (Int n ∷ indexed_message_cells f) (db 8))
          × (map indexed_message_from_row (put_row (Int n ∷ indexed_message_cells f) (db 8)) ≡ map indexed_message_from_row (db 8) ++ f ∷ [])
          × (put_row (Int n ∷ indexed_message_cells f) (db 8) ≡ db 8 ++ (Int n ∷ indexed_message_cells f) ∷ [])
      put = put_past indexed_message_cells indexed_message_from_row filed_back (db 8) (record { number = n; content = f }) (raised top (next_rowid (db 8))) k.messages

      rows_are : next 8 ≡ put_row (Int n ∷ indexed_message_cells f) (db 8)
      rows_are = later.messages (λ e. omega (arith, e)) ∙ it.applied.rows

      same : SameBut 8 db next
      same =
          let first = same_but 8 db it.mid it.applied.tables in
          record {
            version = λ e. later.version (λ g. omega (arith, g)) ∙ first.version e;
            lists = λ e. later.lists (λ g. omega (arith, g)) ∙ first.lists e;
            persons = λ e. later.persons (λ g. omega (arith, g)) ∙ first.persons e;
            grants = λ e. later.grants (λ g. omega (arith, g)) ∙ first.grants e;
            messages = λ e. later.messages (λ g. omega (arith, g)) ∙ first.messages e;
            options = λ e. later.options (λ g. omega (arith, g)) ∙ first.options e;
            addresses = λ e. later.addresses (λ g. omega (arith, g)) ∙ first.addresses e;
          }

      changed : AreArchiveTables next
          × (archive_in_trees next ≡ record (archive_in_trees db) { messages = map message_from_row (db 8) ++ f.0 ∷ []; index_columns = map index_columns_from_row (db 8) ++ f.1 ∷ [] })
      changed =
          let both = one_filed (put_row (Int n ∷ indexed_message_cells f) (db 8)) (db 8) f put.1 in
          let apart = apart_more same_message_key (map message_from_row (db 8)) f.0 flips (sym (none_alike f.0 (db 8)) ∙ new) k.messages_distinct in
          let all = messages_change db next k same (put_row (Int n ∷ indexed_message_cells f) (db 8)) rows_are put.0 (subst (HaveDistinctKeys same_message_key) (sym both.0) apart)
          (positive_more indexed_message_cells indexed_message_from_row filed_back (db 8) (record { number = n; content = f }) (raised top (next_rowid (db 8))) k.messages k.rowids_are_positive) in
          (all.0, all.1 ∙ ap₂ (λ l i. record (archive_in_trees db) { messages = l; index_columns = i }) both.0 both.1)

      obeys_after : Obeys archive_schema next
      obeys_after = record { rules = all_rules next counts.1 (sequence_after it.mid next mid_refers later); indexed = counts.1.indexed }

      numbers_after : (more : ℕ) → HasNumbersFor (suc more) db → HasNumbersFor more next
      numbers_after more has =
          let it_is = counts.0 in
          let last_is : next_rowid (next 8) ≡ n +ℤ pos 1 = ap next_rowid (rows_are ∙ put.2) ∙ next_behind (pos 1) (db 8) (Int n ∷ indexed_message_cells f) in
          let count_is : message_count next ≡ n = ap count_of it_is.found ∙ count_says it_is.row n it_is.says in
          let bounds = within top (next_rowid (db 8)) n more (chosen top (next_rowid (db 8))) has.last_is_positive has.last has.count_is_positive has.count in
          record {
            last_is_positive = subst (λ z. pos 0 ≤ℤ z) (sym last_is) bounds.0;
            last = subst (λ z. (z +ℤ pos more) ≤ℤ pos (2 ^ 63)) (sym last_is) bounds.1;
            count_is_positive = subst (λ z. pos 0 ≤ℤ z) (sym count_is) bounds.2;
            count = subst (λ z. (z +ℤ pos more) <ℤ pos (2 ^ 63)) (sym count_is) bounds.3;
            sequence = it_is.holds;
            numbers = it_is.numbers;
            number = λ none. absurd (let bad = sym it_is.found ∙ none in cc);
          }

    -- it is an archive with a message more, whose list is there as before
    pub leaves : (tally : Tally) (next : Database) → Does None at_once params (over archive_schema db) add_text None (Insert 4 (Values new_cells 12)) (Ok (tally, next)) → LeavesMessage f db next
    leaves tally next h =
        let made = passed h in
        let now : next ≡ over archive_schema made.0.trees = ap (λ (p : Tally × Database). p.1) (value_is (passed (passed made.2).2).2) in
        subst (LeavesMessage f db) (sym now) (of_trees made.0.trees (added made.0 made.1))
      where
        of_trees : (after : Trees) → Added after → LeavesMessage f db (over archive_schema after)
        of_trees after it = record {
          sound = record { schema = refl; tables = (changed after it).0; obeys = obeys_after after it };
          archive_is = (changed after it).1;
          same = same after it;
          numbers = numbers_after after it;
          number = n;
          last = rows_are after it ∙ (put after it).2;
        }

module _ (db : Database) (sound : IsSoundArchive db) where
  pub never_message_added : (list key sender : List ℕ) (arrival : ℤ) (text : List ℕ) (filing : IndexColumns) → IsShortMessage (unmarked_message list key sender arrival text, filing)
      → HasCountedNumber db.trees
      → message_list_is_there db.trees (unmarked_message list key sender arrival text, filing) ≡ true
      → list_any (same_filed (unmarked_message list key sender arrival text, filing)) (map indexed_message_from_row (db.trees 8)) ≡ false
      → ¬ IsStatementRefused (insert_message_statement (unmarked_message list key sender arrival text) filing) db
  never_message_added list key sender arrival text filing short room named new refused =
      let it = subst (λ s. IsStatementRefused (insert_message_statement (unmarked_message list key sender arrival text) filing) (over s db.trees)) sound.schema refused in
      never_added list key sender arrival text filing db.trees sound.tables sound.obeys short room named new it.0 (add_may list key sender arrival text filing db.trees (Err it.0) it.1)

  pub message_added : (list key sender : List ℕ) (arrival : ℤ) (text : List ℕ) (filing : IndexColumns) → IsShortMessage (unmarked_message list key sender arrival text, filing)
      → HasCountedNumber db.trees
      → message_list_is_there db.trees (unmarked_message list key sender arrival text, filing) ≡ true
      → list_any (same_filed (unmarked_message list key sender arrival text, filing)) (map indexed_message_from_row (db.trees 8)) ≡ false → (next : Database)
      → StatementExecutesTo (insert_message_statement (unmarked_message list key sender arrival text) filing) db next
      → LeavesMessage (unmarked_message list key sender arrival text, filing) db.trees next
  message_added list key sender arrival text filing short room named new next executes =
      let it = subst (λ s. StatementExecutesTo (insert_message_statement (unmarked_message list key sender arrival text) filing) (over s db.trees) next) sound.schema executes in
      leaves list key sender arrival text filing db.trees sound.tables sound.obeys short room named new it.0 next (add_may list key sender arrival text filing db.trees (Ok (it.0, next)) it.1)
