-- The statements on `message`.
use Rattle.std.proofs.Common.{◌≡◌, inl, inr, ℕ, ℤ, pos, List, [], ◌∷◌, ◌++◌, map, length, Bool, fold, codes, Ok, arith, refl, sym, ap, ap₂, subst, ◌∙◌, false, None, Some, Option}
use Rattle.std.specs.Prelude.{◌&&◌, filter, zip, not, nat_eq}
use Rattle.std.proofs.lemmas.List.{length-map, map-append}
use Rattle.sqlite_trees.proofs.ListLemmas.{map-map, filter-map}
use Rattle.sqlite.specs.Query.{output}
use Rattle.std.specs.List.{list_any}
use Rattle.std.specs.Ordering.{is_lt, int_cmp}
use Rattle.std.proofs.lemmas.Bool.{cases_Bool}
use Rattle.sqlite.specs.declared.types.Value.TheVariants.{Null, Int, Text, Blob}
use Rattle.sqlite.specs.Order.{Row}
use Rattle.sqlite.specs.Term.{Term, lit, col}
use Rattle.sqlite.specs.Source.TheVariants.{Values}
use Rattle.sqlite.specs.Command.TheVariants.{Insert}
use Rattle.sqlite.specs.Edit.{Edit, edit_of, edited, taken_by, next_rowid, at_least}
use Rattle.sqlite.specs.Rowids.TheVariants.{Above}
use Rattle.sqlite.specs.Rows.{Written, Inserts, Counts, CountsIn, counting, count_of, higher}
use Rattle.sqlite.specs.Table.{Table}
use Rattle.sqlite.specs.Tree.{Trees, put_row}
use Rattle.sqlite.specs.Listing.{understood}
use Rattle.sqlite.proofs.Callers.{one_step}
use Rattle.sqlite_resolve.specs.Compile.{first}
use Rattle.sqlite_tied.specs.Compute.{everything}
use Rattle.sqlite_rules.specs.Action as Action
use Rattle.sqlite_schema.specs.declared.schema.Keys.TheVariants.{Enforced}
use Rattle.archive_model.specs.Records.{Message, IndexColumns, Archive}
use Rattle.archive_model.specs.Filing.{IndexedMessage}
use Rattle.archive_model.specs.Questions.{is_message_at_key}
use Rattle.archive_tables.specs.Schema.{archive_schema, message_table, sequence_table}
use Rattle.archive_tables.specs.Tables.{AreArchiveTables, NumberedRecord, numbered_row, HoldsRecords, HaveDistinctKeys, message_from_row, indexed_message_cells, archive_in_trees}
use Rattle.archive_tables.specs.Tables.{index_columns_from_row, indexed_message_from_row, int_or_null_value, int_of_value, same_message_key}
use Rattle.archive_tables.specs.Rows.{unmarked_message}
use Rattle.archive_tables.specs.Statements.{Statement, insert_message_statement}
use Rattle.archive_tables.proofs.RunLemmas.{passed, value_is, no_action, cast_null, cast_int}
use Rattle.archive_tables.proofs.RowLemmas.{put_past, raised, positive_more}
use Rattle.archive_tables.proofs.TableLemmas.{SameBut, same_but, messages_change}
use Rattle.archive_tables.proofs.ChangeLemmas.{apart_more}
use Rattle.archive_tables.proofs.SelectLemmas.{plain_query, by_number, env_of, passes, Picks, shows, count_wanted, any_is_some, text_flips}
use Rattle.archive_tables.proofs.AskLemmas.{KeepsRecords}
use Rattle.archive_tables.proofs.WriteLemmas.{Write, WriteText, write_of, left_by, task_on}

pub embargo_back : (o : Option ℤ) → int_of_value (int_or_null_value o) ≡ o
embargo_back None = refl
embargo_back (Some n) = refl

pub filed_back : (n : ℤ) (f : IndexedMessage) → indexed_message_from_row (Int n ∷ indexed_message_cells f) ≡ f
filed_back n f = ap (λ o. (record f.0 { embargo = o }, f.1)) (embargo_back f.0.embargo)

pub kept : KeepsRecords message_table indexed_message_cells indexed_message_from_row
kept = record { back = filed_back; low = λ db. refl; holds = λ db k. k.messages }

-- ---- rows of messages, whatever is filed of them

pub messages_are : (rows : List Row) → map (λ (f : IndexedMessage). f.0) (map indexed_message_from_row rows) ≡ map message_from_row rows
messages_are rows = map-map (λ (f : IndexedMessage). f.0) indexed_message_from_row rows

pub filings_are : (rows : List Row) → map (λ (f : IndexedMessage). f.1) (map indexed_message_from_row rows) ≡ map index_columns_from_row rows
filings_are rows = map-map (λ (f : IndexedMessage). f.1) indexed_message_from_row rows

pub filed_are : (rows : List Row) → zip (map message_from_row rows) (map index_columns_from_row rows) ≡ map indexed_message_from_row rows
filed_are [] = refl
filed_are (row ∷ rows) = ap (λ l. indexed_message_from_row row ∷ l) (filed_are rows)

pub wanted_messages : {X : Type 0} (wanted : Message → Bool) (show : Message → X) (rows : List Row)
    → map (λ (f : IndexedMessage). show f.0) (filter (λ (f : IndexedMessage). wanted f.0) (map indexed_message_from_row rows)) ≡ map show (filter wanted (map message_from_row rows))
wanted_messages wanted show rows =
    sym (map-map show (λ (f : IndexedMessage). f.0) (filter (λ (f : IndexedMessage). wanted f.0) (map indexed_message_from_row rows)))
    ∙ ap (map show) (sym (filter-map wanted (λ (f : IndexedMessage). f.0) (map indexed_message_from_row rows))) ∙ ap (λ l. map show (filter wanted l)) (messages_are rows)

count_of_messages : (wanted : Message → Bool) (rows : List Row)
    → length (filter (λ (f : IndexedMessage). wanted f.0) (map indexed_message_from_row rows)) ≡ length (filter wanted (map message_from_row rows))
count_of_messages wanted rows =
    sym (length-map (filter (λ (f : IndexedMessage). wanted f.0) (map indexed_message_from_row rows)) (λ (f : IndexedMessage). f.0)) ∙ ap length (wanted_messages wanted (λ m. m) rows)
    ∙ length-map (filter wanted (map message_from_row rows)) (λ m. m)

pub one_filed : (new old : List Row) (f : IndexedMessage) → map indexed_message_from_row new ≡ map indexed_message_from_row old ++ f ∷ []
    → (map message_from_row new ≡ map message_from_row old ++ f.0 ∷ []) × (map index_columns_from_row new ≡ map index_columns_from_row old ++ f.1 ∷ [])
one_filed new old f is = (
  sym (messages_are new) ∙ ap (map (λ (g : IndexedMessage). g.0)) is ∙ map-append (λ (g : IndexedMessage). g.0) (map indexed_message_from_row old) (f ∷ []) ∙ ap (λ l. l ++ f.0 ∷ [])
      (messages_are old),
  sym (filings_are new) ∙ ap (map (λ (g : IndexedMessage). g.1)) is ∙ map-append (λ (g : IndexedMessage). g.1) (map indexed_message_from_row old) (f ∷ []) ∙ ap (λ l. l ++ f.1 ∷ []) (filings_are old),
)

module _ (terms shown : List Term) (params : Row) (wanted : Message → Bool) (tests : (n : ℤ) (f : IndexedMessage) → passes terms params (Int n ∷ indexed_message_cells f) ≡ wanted f.0) where
  pub shows_messages : (show : Message → Row) (same : (n : ℤ) (f : IndexedMessage) → (output (plain_query 8 terms shown by_number) (env_of params (Int n ∷ indexed_message_cells f))).1 ≡ show f.0)
      (rows picked : List Row) → HoldsRecords indexed_message_cells indexed_message_from_row rows → Picks (plain_query 8 terms shown by_number) params rows picked
      → picked ≡ map show (filter wanted (map message_from_row rows))
  shows_messages show same rows picked k it =
      shows 8 terms shown params indexed_message_cells indexed_message_from_row filed_back (λ (f : IndexedMessage). wanted f.0) tests (λ (f : IndexedMessage). show f.0) same rows picked k it
      ∙ wanted_messages wanted show rows

  pub counts_messages : (rows picked : List Row) → HoldsRecords indexed_message_cells indexed_message_from_row rows → Picks (plain_query 8 terms shown []) params rows picked
      → length picked ≡ length (filter wanted (map message_from_row rows))
  counts_messages rows picked k it =
      count_wanted indexed_message_cells indexed_message_from_row filed_back (plain_query 8 terms shown []) params (λ (f : IndexedMessage). wanted f.0) tests rows picked k it ∙
      count_of_messages wanted rows

  pub has_messages : (rows picked : List Row) → HoldsRecords indexed_message_cells indexed_message_from_row rows → Picks (plain_query 8 terms shown []) params rows picked
      → not (nat_eq (length picked) 0) ≡ list_any wanted (map message_from_row rows)
  has_messages rows picked k it = ap (λ n. not (nat_eq n 0)) (counts_messages rows picked k it) ∙ any_is_some wanted (map message_from_row rows)

pub flips : (a b : Message) → same_message_key a b ≡ same_message_key b a
flips a b = ap₂ ◌&&◌ (text_flips b.list a.list) (text_flips b.key a.key)

-- ---- INSERT

abbrev pub add_text : List ℕ
add_text = codes "INSERT INTO message (list, key, sender, arrival, text, withdrawn, embargo, sent, month, author) VALUES (?1, ?2, ?3, ?4, ?5, 0, NULL, ?6, ?7, ?8)"

abbrev new_cells : List Term
new_cells = lit Null ∷ lit Null ∷ col 0 0 ∷ col 0 1 ∷ col 0 2 ∷ col 0 3 ∷ col 0 4 ∷ lit (Int (pos 0)) ∷ lit Null ∷ col 0 5 ∷ col 0 6 ∷ col 0 7 ∷ []

-- the sequence's table alone follows the count
counts : (limit : Option ℕ) (params : Row) (mid next : Trees) (counter : Option Row) (top : ℤ)
    → Counts (record { limit = limit; keys = Enforced; schema = archive_schema; table = message_table; params = params }) mid counter top (Ok next)
    → SameBut 10 mid next
unfolding everything
counts limit params mid next counter top h = elim (cases_Bool (is_lt (int_cmp (count_of counter) top))) [
  | inl more ↦ counted counter (rw more at h)
  | inr enough ↦ subst (SameBut 10 mid) (value_is (sym (rw enough at h)))
      (same_but 10 mid mid (λ e. refl, (λ e. refl, (λ e. refl, (λ e. refl, (λ e. refl, (λ e. refl, (λ e. refl, (λ e. refl, tt)))))))))
]
  where
    written : (edit : Edit) → edit.table ≡ sequence_table → Action.Writes archive_schema Enforced mid edit (Ok next) → SameBut 10 mid next
    written edit is writes =
        let applied = one_step archive_schema Enforced mid next edit (no_action edit.table.tree (taken_by mid edit) edit.news) writes in
        let tree : edit.table.tree ≡ 10 = ap (λ (t : Table). t.tree) is in
        subst (λ t. SameBut t mid next) tree (same_but edit.table.tree mid next applied.tables)

    counted : (c : Option Row) → CountsIn (record { limit = limit; keys = Enforced; schema = archive_schema; table = message_table; params = params }) mid c top
        (Some sequence_table) (Ok next)
        → SameBut 10 mid next
    counted None h = written (counting mid message_table sequence_table top None) refl h
    counted (Some row) h = written (counting mid message_table sequence_table top (Some row)) refl h

module _ (list key sender : List ℕ) (arrival : ℤ) (text : List ℕ) (filing : IndexColumns) where
  abbrev new : Message
  new = unmarked_message list key sender arrival text

  abbrev its : Statement
  its = insert_message_statement new filing

  abbrev more : Archive → Archive
  more a = record a { messages = a.messages ++ new ∷ []; index_columns = a.index_columns ++ filing ∷ [] }

  abbrev fresh : Trees → ℤ → NumberedRecord IndexedMessage
  fresh db top = record { number = at_least (Above top) (next_rowid (db 8)); content = (new, filing) }

  puts : (db : Trees) (top : ℤ) (given : List Row)
      → given ≡ (Null ∷ Null ∷ Text list ∷ Text key ∷ Blob sender ∷ Int arrival ∷ Blob text ∷ Int (pos 0) ∷ Null ∷ Int filing.sent ∷ Int filing.month ∷ Blob filing.author ∷ []) ∷ []
      → edited db (edit_of db message_table [] (Above top) 0 given) ≡ put_row (numbered_row indexed_message_cells (fresh db top)) (db 8)
  puts db top given from = rw (from, cast_null, cast_int arrival, cast_int (pos 0), cast_int filing.sent, cast_int filing.month)

  after : (db mid next : Trees) → SameBut 8 db mid → SameBut 10 mid next → SameBut 8 db next
  after db mid next first last = record {
    version = λ e. last.version (λ f. omega (arith, f)) ∙ first.version e;
    lists = λ e. last.lists (λ f. omega (arith, f)) ∙ first.lists e;
    persons = λ e. last.persons (λ f. omega (arith, f)) ∙ first.persons e;
    grants = λ e. last.grants (λ f. omega (arith, f)) ∙ first.grants e;
    messages = λ e. last.messages (λ f. omega (arith, f)) ∙ first.messages e;
    options = λ e. last.options (λ f. omega (arith, f)) ∙ first.options e;
    addresses = λ e. last.addresses (λ f. omega (arith, f)) ∙ first.addresses e;
  }

  add_is : WriteText its (Insert 4 (Values new_cells 12)) message_table (λ limit db. Inserts (task_on limit message_table its.parameters) (Values new_cells 12) db)
  unfolding understood first everything
  add_is = record { is = refl; knows = record { fits = (refl, refl); plain = (refl, refl); writes = tt }; ours = tt; runs = λ old new words count h. h; does = λ limit db words out h. h }

  pub added : Write its (λ a. list_any (is_message_at_key list key) a.messages ≡ false) more
  added = write_of add_is _ more (λ limit db w k none h.
      let given = passed h in
      let counter = passed given.2 in
      let written = passed counter.2 in
      let counted = passed written.2 in
      let top = count_of counter.0 in
      let edit = edit_of db message_table [] (Above top) 0 given.0 in
      let left = left_by db edit written.0 written.1 in
      let later = counts limit its.parameters written.0 counted.0 counter.0 (fold higher top edit.news) counted.1 in
      let trees : w.trees ≡ counted.0 = ap (λ (it : Written). it.trees) (value_is counted.2) in
      let far = raised top (next_rowid (db 8)) in
      let put = put_past indexed_message_cells indexed_message_from_row filed_back (db 8) (fresh db top) far k.messages in
      let rows : counted.0 8 ≡ put_row (numbered_row indexed_message_cells (fresh db top)) (db 8) =
      later.messages (λ e. omega (arith, e)) ∙ left.rows_are ∙ puts db top given.0 given.1.1 in
      let both = one_filed (put_row (numbered_row indexed_message_cells (fresh db top)) (db 8)) (db 8) (new, filing) put.1 in
      let apart = subst (HaveDistinctKeys same_message_key) (sym both.0) (apart_more same_message_key (map message_from_row (db 8)) new flips none k.messages_distinct) in
      let positive = positive_more indexed_message_cells indexed_message_from_row filed_back (db 8) (fresh db top) far k.messages k.rowids_are_positive in
      let it = messages_change db counted.0 k (after db written.0 counted.0 left.same later) _ rows put.0 apart positive in
      subst (λ (t : Trees). AreArchiveTables t × (archive_in_trees t ≡ more (archive_in_trees db))) (sym trees)
      (it.0, it.1 ∙ ap₂ (λ l n. record (archive_in_trees db) { messages = l; index_columns = n }) both.0 both.1))
