-- SQL does not refuse the four statements that mark a message.
use Rattle.std.proofs.Common.{◌≡◌, ℕ, ℤ, pos, negsuc, ◌≤ℤ◌, ◌≤◌, List, [], ◌∷◌, map, Ok, Err, Result, refl, sym, ap, ap₂, subst, ◌∙◌, false, true, Bool, cond, None, Some, Option, arith}
use Rattle.std.specs.Prelude.{◌&&◌, bytes_eq, if◌then◌else◌}
use Rattle.std.specs.List.{AllByRecursion}
use Rattle.std.specs.declared.cmp.Ordering.TheVariants.{Less}
use Rattle.sqlite.specs.declared.error.Error.{Error}
use Rattle.sqlite.specs.declared.types.Value.TheVariants.{Null, Int, Text}
use Rattle.sqlite.specs.Command.TheVariants.{Update}
use Rattle.sqlite.specs.Does.{Tally, Does}
use Rattle.sqlite.specs.Edit.{edit_of, id_in}
use Rattle.sqlite.specs.Effect.{Database}
use Rattle.sqlite.specs.Listing.{understood}
use Rattle.sqlite.specs.Ops.{fits_i64}
use Rattle.sqlite.specs.Order.{Row, value_cmp}
use Rattle.sqlite.specs.Query.{output}
use Rattle.sqlite.specs.Rowids.TheVariants.{Given}
use Rattle.sqlite_schema.specs.declared.program.Program.{Program}
use Rattle.sqlite.specs.Rows.{Task, Written, Updates}
use Rattle.sqlite.specs.Term.{Term, lit, col}
use Rattle.sqlite.specs.Tree.{Trees, rowid}
use Rattle.sqlite_tied.specs.Compute.{everything}
use Rattle.sqlite_trees.proofs.ListLemmas.{all_weaker}
use Rattle.sqlite_typing.specs.Types.{accepts_program}
use Rattle.sqlite_rules.specs.Calls.{ids_of}
use Rattle.sqlite_schema.specs.declared.schema.Among.TheVariants.{All}
use Rattle.sqlite_schema.specs.declared.schema.Constraint.TheVariants.{Check, ForeignKey}
use Rattle.sqlite_schema.specs.declared.schema.Keys.TheVariants.{Enforced}
use Rattle.sqlite_schema.specs.Rules.{Obeys, passes, Refers}
use Rattle.archive_model.specs.Records.{Message, Archive}
use Rattle.archive_model.specs.Filing.{IndexedMessage}
use Rattle.archive_model.specs.Machine.{change_at_key, with_withdrawal, with_embargo}
use Rattle.archive_model.specs.Questions.{is_message_at_key}
use Rattle.archive_tables.specs.Schema.{archive_schema, message_table}
use Rattle.archive_tables.specs.Statements.{Statement, StatementMayEndIn, StatementExecutesTo, IsStatementRefused, set_withdrawn_statement, set_embargo_statement, clear_embargo_statement}
use Rattle.archive_tables.specs.Tables.{AreArchiveTables, archive_in_trees, NumberedRecord, numbered_row, indexed_message_cells, indexed_message_from_row}
use Rattle.archive_tables.specs.Tables.{message_from_row, HaveDistinctKeys}
use Rattle.archive_tables.proofs.ChangeLemmas.{apart_mapped}
use Rattle.archive_tables.proofs.CreateLemmas.{over, at_once}
use Rattle.archive_tables.proofs.MailboxLemmas.{at_key, has_key}
use Rattle.archive_tables.proofs.MessageLemmas.{filed_are, filed_back}
use Rattle.archive_tables.proofs.RunLemmas.{cast_null, cast_int}
use Rattle.archive_tables.proofs.SelectLemmas.{plain_query, env_of}
use Rattle.archive_tables.proofs.TableLemmas.{same_but, messages_change}
use Rattle.archive_tables.proofs.UpdateLemmas.{alike, withdrawn_text, embargo_text, clear_text, cast_or_null}
use Rattle.archive_sound.specs.Room.{IsSoundArchive, HasRoomForMarks, AreShort, IsDay, message_bytes, longest_row}
use Rattle.archive_sound.proofs.ListLemmas.{map_all}
use Rattle.archive_sound.proofs.MadeLemmas.{task_on, concluded, Holds, kept_numbers, leaves_of, updates_hold}
use Rattle.archive_sound.proofs.NumberLemmas.{LeavesMarked}
use Rattle.archive_sound.proofs.MessageTable.{message_checks, message_facts, same_filed, filed_apart, messages_apart, changed_parts, IsShortMessage, message_list_is_there}
use Rattle.archive_sound.proofs.ReferLemmas.{Refer, they_refer, refers, messages_after, names_list}
use Rattle.archive_sound.proofs.TableLemmas.{never_updates, updates_leave, never_ends}
use Rattle.archive_sound.proofs.ValueLemmas.{parts, both, within_none, within_range}

-- ---- an UPDATE by list and key

-- what a change of a message has to keep
record MayMark (list key : List ℕ) (more : Row) (new_cells : List Term) (set : Message → Message) : Type 0 where
  keeps_list : (m : Message) → (set m).list ≡ m.list
  keeps_key : (m : Message) → (set m).key ≡ m.key
  keeps_bytes : (f : IndexedMessage) → message_bytes (set f.0, f.1) ≡ message_bytes f
  checked : (db : Trees) (n : ℤ) (f : IndexedMessage) → passes Check archive_schema db message_table (Int n ∷ indexed_message_cells f) ≡ true
      → passes Check archive_schema db message_table (Int n ∷ indexed_message_cells (set f.0, f.1)) ≡ true
  typed : accepts_program archive_schema [] (plain_query 8 at_key new_cells []) (Text list ∷ Text key ∷ more) ≡ true
  edits : (db : Trees) (r : NumberedRecord IndexedMessage) (given : List Row)
      → given ≡ (output (plain_query 8 at_key new_cells []) (env_of (Text list ∷ Text key ∷ more) (numbered_row indexed_message_cells r))).1 ∷ []
      → edit_of db message_table (ids_of given) Given 1 given
      ≡ record { table = message_table; gone = r.number ∷ []; news = numbered_row indexed_message_cells (record r { content = (set r.content.0, r.content.1) }) ∷ [] }

module _ (list key : List ℕ) (more : Row) (new_cells : List Term) (set : Message → Message) (may : MayMark list key more new_cells set) where
  abbrev params : Row
  params = Text list ∷ Text key ∷ more

  abbrev wanted : IndexedMessage → Bool
  wanted f = is_message_at_key list key f.0

  abbrev changed : IndexedMessage → IndexedMessage
  changed f = (set f.0, f.1)

  keeps : (f g : IndexedMessage) → same_filed (if wanted f then changed f else f) (if wanted g then changed g else g) ≡ same_filed f g
  keeps f g = ap₂ ◌&&◌ (ap₂ bytes_eq (same_list g) (same_list f)) (ap₂ bytes_eq (same_key g) (same_key f))
    where
      same_list : (h : IndexedMessage) → (if wanted h then changed h else h).0.list ≡ h.0.list
      same_list h = elim (wanted h) as (λ c. (cond c (changed h) h).0.list ≡ h.0.list) [ true ↦ may.keeps_list h.0 | false ↦ refl ]

      same_key : (h : IndexedMessage) → (if wanted h then changed h else h).0.key ≡ h.0.key
      same_key h = elim (wanted h) as (λ c. (cond c (changed h) h).0.key ≡ h.0.key) [ true ↦ may.keeps_key h.0 | false ↦ refl ]

  same_key : (f g : IndexedMessage) → wanted f ≡ true → same_filed f g ≡ wanted g
  same_key f g found = alike list key f.0 g.0 found

  abbrev program : Program
  program = record { lets = []; body = plain_query 8 at_key new_cells [] }

  abbrev task : Task
  task = record { limit = None; keys = Enforced; schema = archive_schema; table = message_table; params = params }

  module _ (db : Trees) (k : AreArchiveTables db) where
    distinct : HaveDistinctKeys same_filed (map indexed_message_from_row (db 8))
    distinct = filed_apart (db 8) k.messages_distinct

    module _ (obeys : Obeys archive_schema db) (short : AreShort (map indexed_message_from_row (db 8))) (numbers : AllByRecursion (λ row. fits_i64 (id_in (rowid row)) ≡ true) (db 8)) where
      still_short : AllByRecursion (λ (f : IndexedMessage). wanted f ≡ true → IsShortMessage (changed f)) (map indexed_message_from_row (db 8))
      still_short = all_weaker _ (λ (f : IndexedMessage). wanted f ≡ true → IsShortMessage (changed f)) (λ f here found. subst (λ b. b ≤ longest_row) (sym (may.keeps_bytes f)) here)
          (map indexed_message_from_row (db 8)) short

      same_names : (f : IndexedMessage) → message_list_is_there db (changed f) ≡ message_list_is_there db f
      same_names f = ap (names_list db) (may.keeps_list f.0)

      still_checked : (n : ℤ) (f : IndexedMessage) → wanted f ≡ true → passes Check archive_schema db message_table (Int n ∷ indexed_message_cells f) ≡ true
          → passes Check archive_schema db message_table (Int n ∷ indexed_message_cells (changed f)) ≡ true
      still_checked n f found here = may.checked db n f here

      refer : (w : Written) → Updates task program params db (Ok w) → Refers All archive_schema w.trees
      refer w made =
          let before = they_refer db (obeys.rules ForeignKey) in
          let left = updates_leave message_table indexed_message_cells indexed_message_from_row same_filed IsShortMessage message_list_is_there message_facts db obeys k.messages distinct
          at_key new_cells params wanted (has_key list key more) same_key may.typed changed keeps same_names still_short numbers still_checked (may.edits db) before.messages w made in
          refers w.trees (messages_after db w.trees before (same_but 8 db w.trees left.1.others) (subst (Refer db message_table) (sym left.1.rows_are) left.2))

      never_marks : (text : List ℕ) (stop : Option Error) → ¬ Does None at_once params (over archive_schema db) text None (Update 4 program) (Err stop)
      never_marks text stop h =
          never_ends task (Updates task program params db)
          (never_updates message_table indexed_message_cells indexed_message_from_row same_filed IsShortMessage message_list_is_there message_facts db obeys k.messages distinct
          at_key new_cells params wanted (has_key list key more) same_key may.typed changed keeps same_names still_short numbers still_checked (may.edits db)) refer stop h

    -- ---- what it leaves

    abbrev change : IndexedMessage → IndexedMessage
    change f = if wanted f then changed f else f

    abbrev marked : List IndexedMessage
    marked = map change (map indexed_message_from_row (db 8))

    abbrev archive_then : Archive
    archive_then = record (archive_in_trees db) { messages = map (change_at_key list key set) (map message_from_row (db 8)) }

    as_short : (fs : List IndexedMessage) → AreShort fs → AreShort (map change fs)
    as_short fs all =
        map_all change (λ (f : IndexedMessage). message_bytes f ≤ longest_row) fs (all_weaker _ (λ (f : IndexedMessage). message_bytes (change f) ≤ longest_row) each_short fs all)
      where
        each_short : (f : IndexedMessage) → message_bytes f ≤ longest_row → message_bytes (change f) ≤ longest_row
        each_short f here = elim (wanted f) as (λ c. message_bytes (cond c (changed f) f) ≤ longest_row) [ true ↦ subst (λ b. b ≤ longest_row) (sym (may.keeps_bytes f)) here | false ↦ here ]

    of_table : (after : Trees) → Holds message_table indexed_message_cells indexed_message_from_row db after marked [] → Refers All archive_schema after
        → LeavesMarked archive_then db (over archive_schema after)
    of_table after it refers =
        let both = changed_parts (is_message_at_key list key) set (after 8) (db 8) it.records_are in
        let apart = messages_apart (after 8) (subst (HaveDistinctKeys same_filed) (sym it.records_are) (apart_mapped same_filed change keeps (map indexed_message_from_row (db 8)) distinct)) in
        let all = messages_change db after k (same_but 8 db after it.others) (after 8) refl it.holds apart (it.numbers (λ v. value_cmp (Int (pos 0)) v ≡ Less) tt k.rowids_are_positive) in
        record {
          leaves = leaves_of message_table indexed_message_cells indexed_message_from_row db (λ e. omega (arith, e)) after marked [] it refers
              (kept_numbers message_table indexed_message_cells indexed_message_from_row db after marked it) archive_then
              (all.0, all.1 ∙ ap₂ (λ l n. record (archive_in_trees db) { messages = l; index_columns = n }) both.0 both.1);
          short = λ short. subst AreShort (sym (filed_are (after 8) ∙ it.records_are)) (as_short (map indexed_message_from_row (db 8)) (subst AreShort (filed_are (db 8)) short));
        }

    mark_leaves : (text : List ℕ) (tally : Tally) (next : Database) → Does None at_once params (over archive_schema db) text None (Update 4 program) (Ok (tally, next))
        → LeavesMarked archive_then db next
    mark_leaves text tally next h =
        let end = concluded message_table params (Updates (task_on message_table params) program params db) tally next h in
        let it = updates_hold message_table indexed_message_cells indexed_message_from_row same_filed filed_back (λ trees. refl) db k.messages distinct
        at_key new_cells params wanted (has_key list key more) same_key changed (may.edits db) end.0 end.1 in
        subst (LeavesMarked archive_then db) (sym end.2) (of_table end.0.trees it end.3)

-- ---- who withdrew it

-- the number of the row, and then the new row
abbrev withdrawn_cells : List Term
withdrawn_cells = col 1 0 ∷ col 1 0 ∷ lit Null ∷ col 1 2 ∷ col 1 3 ∷ col 1 4 ∷ col 1 5 ∷ col 1 6 ∷ col 0 2 ∷ col 1 8 ∷ col 1 9 ∷ col 1 10 ∷ col 1 11 ∷ []

withdrawn_may : (trees : Trees) (list key : List ℕ) (by : ℤ) (out : Result (Tally × Database) (Option Error)) → StatementMayEndIn (set_withdrawn_statement list key by) (over archive_schema trees) out
    → Does None at_once (Text list ∷ Text key ∷ Int by ∷ []) (over archive_schema trees) withdrawn_text None (Update 4 (record { lets = []; body = plain_query 8 at_key withdrawn_cells [] })) out
unfolding understood everything
withdrawn_may trees list key by out h = h

withdrawn_typed : (list key : List ℕ) (by : ℤ) → accepts_program archive_schema [] (plain_query 8 at_key withdrawn_cells []) (Text list ∷ Text key ∷ Int by ∷ []) ≡ true
unfolding everything
withdrawn_typed list key by = refl

may_withdraw : (list key : List ℕ) (by : ℤ) → pos 0 ≤ℤ by → by ≤ℤ pos 2 → MayMark list key (Int by ∷ []) withdrawn_cells (λ m. record m { withdrawn = by })
may_withdraw list key by low high = record {
  keeps_list = λ m. refl;
  keeps_key = λ m. refl;
  keeps_bytes = λ f. refl;
  checked = λ db n f h.
      message_checks db n (record f.0 { withdrawn = by }, f.1) ∙ both _ _ (within_range (pos 0) (pos 2) by low high) (parts _ _ (sym (message_checks db n f) ∙ h)).1;
  typed = withdrawn_typed list key by;
  edits = λ db r given from. rw (
    from,
    cast_null,
    cast_int r.number,
    cast_int r.content.0.arrival,
    cast_int by,
    cast_or_null r.content.0.embargo,
    cast_int r.content.1.sent,
    cast_int r.content.1.month,
  );
}

-- ---- the day of its embargo

abbrev embargo_cells : List Term
embargo_cells = col 1 0 ∷ col 1 0 ∷ lit Null ∷ col 1 2 ∷ col 1 3 ∷ col 1 4 ∷ col 1 5 ∷ col 1 6 ∷ col 1 7 ∷ col 0 2 ∷ col 1 9 ∷ col 1 10 ∷ col 1 11 ∷ []

embargo_may : (trees : Trees) (list key : List ℕ) (until : ℤ) (out : Result (Tally × Database) (Option Error))
    → StatementMayEndIn (set_embargo_statement list key until) (over archive_schema trees) out
    → Does None at_once (Text list ∷ Text key ∷ Int until ∷ []) (over archive_schema trees) embargo_text None (Update 4 (record { lets = []; body = plain_query 8 at_key embargo_cells [] })) out
unfolding understood everything
embargo_may trees list key until out h = h

embargo_typed : (list key : List ℕ) (until : ℤ) → accepts_program archive_schema [] (plain_query 8 at_key embargo_cells []) (Text list ∷ Text key ∷ Int until ∷ []) ≡ true
unfolding everything
embargo_typed list key until = refl

may_embargo : (list key : List ℕ) (until : ℤ) → IsDay until → MayMark list key (Int until ∷ []) embargo_cells (λ m. record m { embargo = Some until })
may_embargo list key until day = record {
  keeps_list = λ m. refl;
  keeps_key = λ m. refl;
  keeps_bytes = λ f. refl;
  checked = λ db n f h.
      message_checks db n (record f.0 { embargo = Some until }, f.1) ∙ both _ _ (parts _ _ (sym (message_checks db n f) ∙ h)).0
      (both _ _ (within_range (negsuc 25566) (pos 2932531) until day.at_least day.at_most) refl);
  typed = embargo_typed list key until;
  edits = λ db r given from. rw (
    from,
    cast_null,
    cast_int r.number,
    cast_int r.content.0.arrival,
    cast_int r.content.0.withdrawn,
    cast_int until,
    cast_int r.content.1.sent,
    cast_int r.content.1.month,
  );
}

abbrev clear_cells : List Term
clear_cells = col 1 0 ∷ col 1 0 ∷ lit Null ∷ col 1 2 ∷ col 1 3 ∷ col 1 4 ∷ col 1 5 ∷ col 1 6 ∷ col 1 7 ∷ lit Null ∷ col 1 9 ∷ col 1 10 ∷ col 1 11 ∷ []

clear_may : (trees : Trees) (list key : List ℕ) (out : Result (Tally × Database) (Option Error)) → StatementMayEndIn (clear_embargo_statement list key) (over archive_schema trees) out
    → Does None at_once (Text list ∷ Text key ∷ []) (over archive_schema trees) clear_text None (Update 4 (record { lets = []; body = plain_query 8 at_key clear_cells [] })) out
unfolding understood everything
clear_may trees list key out h = h

clear_typed : (list key : List ℕ) → accepts_program archive_schema [] (plain_query 8 at_key clear_cells []) (Text list ∷ Text key ∷ []) ≡ true
unfolding everything
clear_typed list key = refl

may_clear : (list key : List ℕ) → MayMark list key [] clear_cells (λ m. record m { embargo = None })
may_clear list key = record {
  keeps_list = λ m. refl;
  keeps_key = λ m. refl;
  keeps_bytes = λ f. refl;
  checked = λ db n f h.
      message_checks db n (record f.0 { embargo = None }, f.1) ∙ both _ _ (parts _ _ (sym (message_checks db n f) ∙ h)).0 (both _ _ (within_none (negsuc 25566) (pos 2932531)) refl);
  typed = clear_typed list key;
  edits = λ db r given from. rw (
    from,
    cast_null,
    cast_int r.number,
    cast_int r.content.0.arrival,
    cast_int r.content.0.withdrawn,
    cast_int r.content.1.sent,
    cast_int r.content.1.month,
  );
}

-- ---- the statements

module _ (db : Database) (sound : IsSoundArchive db) (room : HasRoomForMarks db) where
  short : AreShort (map indexed_message_from_row (db.trees 8))
  short = subst AreShort (filed_are (db.trees 8)) room.messages

  here : (st : Statement) → IsStatementRefused st db → IsStatementRefused st (over archive_schema db.trees)
  here st it = subst (λ s. IsStatementRefused st (over s db.trees)) sound.schema it

  pub never_withdrawn : (list key : List ℕ) (by : ℤ) → pos 0 ≤ℤ by → by ≤ℤ pos 2 → ¬ IsStatementRefused (set_withdrawn_statement list key by) db
  never_withdrawn list key by low high refused =
      let it = here (set_withdrawn_statement list key by) refused in
      never_marks list key (Int by ∷ []) withdrawn_cells (λ m. record m { withdrawn = by }) (may_withdraw list key by low high) db.trees sound.tables sound.obeys short room.numbers
      withdrawn_text it.0 (withdrawn_may db.trees list key by (Err it.0) it.1)

  pub never_embargoed : (list key : List ℕ) (until : ℤ) → IsDay until → ¬ IsStatementRefused (set_embargo_statement list key until) db
  never_embargoed list key until day refused =
      let it = here (set_embargo_statement list key until) refused in
      never_marks list key (Int until ∷ []) embargo_cells (λ m. record m { embargo = Some until }) (may_embargo list key until day) db.trees sound.tables sound.obeys short room.numbers
      embargo_text it.0 (embargo_may db.trees list key until (Err it.0) it.1)

  pub never_cleared : (list key : List ℕ) → ¬ IsStatementRefused (clear_embargo_statement list key) db
  never_cleared list key refused =
      let it = here (clear_embargo_statement list key) refused in
      never_marks list key [] clear_cells (λ m. record m { embargo = None }) (may_clear list key) db.trees sound.tables sound.obeys short room.numbers
      clear_text it.0 (clear_may db.trees list key (Err it.0) it.1)

module _ (db : Database) (sound : IsSoundArchive db) where
  carried : (st : Statement) (next : Database) → StatementExecutesTo st db next → StatementExecutesTo st (over archive_schema db.trees) next
  carried st next it = subst (λ s. StatementExecutesTo st (over s db.trees) next) sound.schema it

  pub message_withdrawn : (list key : List ℕ) (by : ℤ) → pos 0 ≤ℤ by → by ≤ℤ pos 2 → (next : Database) → StatementExecutesTo (set_withdrawn_statement list key by) db next
      → LeavesMarked (record (archive_in_trees db.trees) { messages = map (change_at_key list key (with_withdrawal by)) (map message_from_row (db.trees 8)) }) db.trees next
  message_withdrawn list key by low high next executes =
      let it = carried (set_withdrawn_statement list key by) next executes in
      mark_leaves list key (Int by ∷ []) withdrawn_cells (λ m. record m { withdrawn = by }) (may_withdraw list key by low high) db.trees sound.tables
      withdrawn_text it.0 next (withdrawn_may db.trees list key by (Ok (it.0, next)) it.1)

  pub message_embargoed : (list key : List ℕ) (until : ℤ) → IsDay until → (next : Database) → StatementExecutesTo (set_embargo_statement list key until) db next
      → LeavesMarked (record (archive_in_trees db.trees) { messages = map (change_at_key list key (with_embargo (Some until))) (map message_from_row (db.trees 8)) }) db.trees next
  message_embargoed list key until day next executes =
      let it = carried (set_embargo_statement list key until) next executes in
      mark_leaves list key (Int until ∷ []) embargo_cells (λ m. record m { embargo = Some until }) (may_embargo list key until day) db.trees sound.tables
      embargo_text it.0 next (embargo_may db.trees list key until (Ok (it.0, next)) it.1)

  pub message_cleared : (list key : List ℕ) (next : Database) → StatementExecutesTo (clear_embargo_statement list key) db next
      → LeavesMarked (record (archive_in_trees db.trees) { messages = map (change_at_key list key (with_embargo None)) (map message_from_row (db.trees 8)) }) db.trees next
  message_cleared list key next executes =
      let it = carried (clear_embargo_statement list key) next executes in
      mark_leaves list key [] clear_cells (λ m. record m { embargo = None }) (may_clear list key) db.trees sound.tables
      clear_text it.0 next (clear_may db.trees list key (Ok (it.0, next)) it.1)
