-- A statement that writes rows of one table: what it makes of an archive, and the whole clause of a call of it.
use Rattle.std.proofs.Common.{◌≡◌, inl, ℕ, ℤ, List, [], ◌∷◌, ◌++◌, map, filter, Bool, Ok, Err, Result, Option, None, refl, sym, ap, ap₂, subst, ◌∙◌, true, false, cond}
use Rattle.std.specs.Prelude.{⊤, MatchResult, bytes_eq, not, length, ◌/◌, if◌then◌else◌}
use Rattle.std.specs.List.{AllByRecursion}
use Rattle.std.specs.declared.cmp.Ordering.TheVariants.{Less}
use Rattle.sqlite.specs.declared.error.Error.{Error}
use Rattle.sqlite.specs.declared.types.Value.{Value}
use Rattle.sqlite.specs.declared.types.Value.TheVariants.{Null, Int, Text}
use Rattle.sqlite.specs.Collation.TheVariants.{Binary}
use Rattle.sqlite.specs.Command.{Command}
use Rattle.sqlite.specs.Command.TheVariants.{Insert, Update, Delete}
use Rattle.sqlite.specs.Does.{Tally, Does, Concludes}
use Rattle.sqlite.specs.Edit.{Edit, edit_of, edited, taken_by, next_rowid}
use Rattle.sqlite.specs.Effect.{Database, value_rows}
use Rattle.sqlite.specs.Held.{Held, state}
use Rattle.sqlite.specs.Listing.{understood}
use Rattle.sqlite.specs.Ops.{is_true, binary}
use Rattle.sqlite.specs.Order.{Row, column, value_cmp}
use Rattle.sqlite.specs.Program.{overlay}
use Rattle.sqlite.specs.Query.{Query, output}
use Rattle.sqlite.specs.Rowids.TheVariants.{Chosen, Given}
use Rattle.sqlite.specs.Rows.{Part, Then, Gives, Task, Written, Queried, Sourced, Edited, Updates, Deletes, stamped, last_id}
use Rattle.sqlite.specs.Source.TheVariants.{Values}
use Rattle.sqlite.specs.State.{State, HasCleanDisk, Survives, Runs, Writes, Executes, CommitsBy, mode_of}
use Rattle.sqlite.specs.Store.{Ghosts}
use Rattle.sqlite.specs.Table.{Table}
use Rattle.sqlite.specs.Term.{Term, col, op2}
use Rattle.sqlite.specs.Tree.{Trees, put_row, without_rowid, rowid}
use Rattle.sqlite.proofs.Callers.{command_of, statement_of, runs_as, one_step}
use Rattle.sqlite_resolve.specs.Compile.{first}
use Rattle.sqlite_rules.specs.Calls.{ids_of}
use Rattle.sqlite_schema.specs.declared.schema.Keys.TheVariants.{Enforced}
use Rattle.sqlite_schema.specs.Rules.{Fits}
use Rattle.sqlite_sql.specs.declared.ops.BinaryOp.TheVariants.{Compare}
use Rattle.sqlite_sql.specs.declared.ops.CompareOp.TheVariants.{Eq}
use Rattle.archive_model.specs.Records.{Archive}
use Rattle.archive_tables.specs.Schema.{archive_schema}
use Rattle.archive_tables.specs.Tables.{IsOpenArchive, AreArchiveTables, NumberedRecord, numbered_row, numbered_from_row, HoldsRecords, HaveDistinctKeys, archive_in_trees, archive_of}
use Rattle.archive_tables.specs.Statements.{Statement}
use Rattle.archive_tables.specs.Calls.{ChangesArchive, FaultKeepsRowsOrRollsBack, WritesByStatement}
use Rattle.archive_tables.proofs.RunLemmas.{passed, value_is, no_action, kept_by, rests, execute_fails}
use Rattle.archive_tables.proofs.RowLemmas.{put_past}
use Rattle.archive_tables.proofs.TableLemmas.{SameBut, same_but}
use Rattle.archive_tables.proofs.ChangeLemmas.{updated, deleted, apart_mapped}
use Rattle.archive_tables.proofs.SelectLemmas.{plain_query, env_of, passes, picks_of, Picks, hits, no_row, one_row, alone, text_is, equal_words}
use Rattle.archive_tables.proofs.RefusalLemmas.{Knows}
use Rattle.archive_tables.proofs.LastLemmas.{IsOurText}
use Rattle.archive_tables.proofs.CreateLemmas.{over, at_once}
use Rattle.archive_tables.proofs.EndLemmas.{write_whole}
use Rattle.archive_tables.proofs.AskLemmas.{KeepsRecords}

-- ---- the whole clause

-- what a statement makes of an archive that is as it needs it
pub record Write (st : Statement) (Needs : Archive → Type 0) (change : Archive → Archive) : Type 1 where
  pub knows : Knows st
  pub ours : IsOurText (first st.sql)
  pub tries : (behind : Option Database) (old new : State) (r : Result ℕ Error) → IsOpenArchive behind old → Executes st.sql st.parameters old new r
      → MatchResult r (λ _. Needs (archive_of old) → ChangesArchive behind old new change) (λ _. FaultKeepsRowsOrRollsBack behind old new)

-- where these are put in for its parameters
pub writes : {st : Statement} {Needs : Archive → Type 0} {change : Archive → Archive} (write : Write st Needs change) {S : Type 0} {g : Ghosts S} {old new : Held S} {given : Row}
    (r : Result ℕ Error) → Survives (state g old) (state g new) (CommitsBy st.sql given (state g old))
    → (HasCleanDisk (state g new) → Executes st.sql given (state g old) (state g new) r) → given ≡ st.parameters → WritesByStatement g old new r Needs change st
writes {st} {Needs} {change} write r survives runs same =
    write_whole st Needs change write.knows write.ours write.tries r (rw same at survives) (λ clean. rw same at (runs clean))

-- ---- its text

abbrev pub task_on : Option ℕ → Table → Row → Task
task_on limit table params = record { limit = limit; keys = Enforced; schema = archive_schema; table = table; params = params }

-- one plain statement of this program, and what the parts of its command make of the rows of a table
pub record WriteText (st : Statement) (command : Command) (table : Table) (Makes : Option ℕ → Trees → Part Written) : Type 1 where
  pub is : command_of (understood archive_schema st.sql) ≡ command
  pub knows : Knows st
  pub ours : IsOurText (first st.sql)
  pub runs : (old new : State) (words : List ℕ) (count : ℕ) → Runs old new None command words st.parameters count → Writes old new None command words st.parameters count
  pub does : (limit : Option ℕ) (db : Trees) (words : List ℕ) (out : Result (Tally × Database) (Option Error)) → Does limit at_once st.parameters (over archive_schema db) words None command out
      → Then (Makes limit db) (Concludes (task_on limit table st.parameters) at_once None) out

module _ {st : Statement} {command : Command} {table : Table} {Makes : Option ℕ → Trees → Part Written} (text : WriteText st command table Makes) (Needs : Archive → Type 0)
    (change : Archive → Archive) (made : (limit : Option ℕ) (db : Trees) (w : Written) → AreArchiveTables db → Needs (archive_in_trees db) → Makes limit db (Ok w)
    → AreArchiveTables w.trees × (archive_in_trees w.trees ≡ change (archive_in_trees db))) where
  carried_out : {behind : Option Database} (old new : State) (count : ℕ) → IsOpenArchive behind old → Executes st.sql st.parameters old new (Ok count) → Needs (archive_of old)
      → ChangesArchive behind old new change
  carried_out old new count k h needs =
      let words = statement_of st.sql (understood archive_schema st.sql) in
      let w = text.runs old new words count (runs_as st.sql st.parameters old new archive_schema k.schema command text.is text.knows.plain count h) in
      let done = passed (text.does old.step_limit old.now.trees words (Ok (w.tally, new.now))
      (subst (λ s. Does old.step_limit (mode_of old) st.parameters (record old.now { schema = s }) words None command (Ok (w.tally, new.now))) k.schema w.changed)) in
      let now : new.now ≡ over archive_schema done.0.trees = ap (λ (it : Tally × Database). it.1) (value_is (passed (passed done.2).2).2) in
      let it = made old.step_limit old.now.trees done.0 k.tables needs done.1 in
      let tables = subst (λ (d : Database). AreArchiveTables d.trees) (sym now) it.0 in
      (kept_by old new k w.shown (ap (λ (d : Database). d.schema) now) tables, ap (λ (d : Database). archive_in_trees d.trees) now ∙ it.1)

  tries_so : (behind : Option Database) (old new : State) (r : Result ℕ Error) → IsOpenArchive behind old → Executes st.sql st.parameters old new r
      → MatchResult r (λ _. Needs (archive_of old) → ChangesArchive behind old new change) (λ _. FaultKeepsRowsOrRollsBack behind old new)
  tries_so behind old new (Ok count) k h = carried_out old new count k h
  tries_so behind old new (Err e) k h = rests old new k (execute_fails old new st.sql st.parameters e h)

  pub write_of : Write st Needs change
  write_of = record { knows = text.knows; ours = text.ours; tries = tries_so }

-- ---- what an edit leaves: the table has these rows, no other has changed, and the keys are unique

pub record EditLeaves (tree : ℕ) (db next : Trees) (rows : List Row) : Type 0 where
  pub same : SameBut tree db next
  pub rows_are : next tree ≡ rows
  pub fits : Fits archive_schema next

pub left_by : (db : Trees) (edit : Edit) (next : Trees) → Edited archive_schema Enforced db edit (Ok next) → EditLeaves edit.table.tree db next (edited db edit)
left_by db edit next wrote =
    let applied = one_step archive_schema Enforced db next edit (no_action edit.table.tree (taken_by db edit) edit.news) wrote in
    record { same = same_but edit.table.tree db next applied.tables; rows_are = applied.rows; fits = applied.fits }

-- ---- INSERT of one row, into a table that counts no numbers

abbrev pub InsertsPlainly : Table → Row → List Term → ℕ → Option ℕ → Trees → Part Written
InsertsPlainly table params terms width limit db =
    Then (Sourced limit (over archive_schema db) (stamped table params) (Values terms width)) (λ rows. Then (Gives {A = Option Row} None) (λ counter.
    let edit = edit_of db table [] Chosen 0 rows in
    Then (Edited archive_schema Enforced db edit) (λ mid. Then (Gives mid) (λ next. Gives (record { trees = next; rows = edit.news; last = last_id edit.news })))))

abbrev pub InsertText : Statement → ℕ → Table → List Term → ℕ → Type 1
InsertText st at table terms width = WriteText st (Insert at (Values terms width)) table (InsertsPlainly table st.parameters terms width)

module _ {R : Type 0} {table : Table} {cells : R → Row} {read : Row → R} (kept : KeepsRecords table cells read) where
  -- `ends` is what becomes of the archive where the table has one record more
  pub inserts : {st : Statement} {at : ℕ} {terms : List Term} {width : ℕ} {Needs : Archive → Type 0} {change : Archive → Archive} → InsertText st at table terms width → (r : R)
      → (puts : (db : Trees) (given : List Row) → given ≡ value_rows (stamped table st.parameters) width (length terms / width) terms
      → edited db (edit_of db table [] Chosen 0 given) ≡ put_row (Int (next_rowid (db table.tree)) ∷ cells r) (db table.tree))
      → (ends : (db next : Trees) (rows : List Row) → AreArchiveTables db → Needs (archive_in_trees db) → EditLeaves table.tree db next rows → HoldsRecords cells read (next table.tree)
      → map read (next table.tree) ≡ map read (db table.tree) ++ r ∷ [] → AreArchiveTables next × (archive_in_trees next ≡ change (archive_in_trees db))) → Write st Needs change
  inserts {change = change} text r puts ends = write_of text _ _ (λ limit db w k needs h.
      let given = passed h in
      let mid = passed (passed given.2).2 in
      let next = passed mid.2 in
      let same : w.trees ≡ mid.0 = ap (λ (x : Written). x.trees) (value_is next.2) ∙ value_is next.1 in
      let left = left_by db (edit_of db table [] Chosen 0 given.0) mid.0 mid.1 in
      let put = put_past cells read kept.back (db table.tree) (record { number = next_rowid (db table.tree); content = r }) (inl refl) (kept.holds db k) in
      let rows : mid.0 table.tree ≡ put_row (Int (next_rowid (db table.tree)) ∷ cells r) (db table.tree) = left.rows_are ∙ puts db given.0 given.1.1 in
      subst (λ (t : Trees). AreArchiveTables t × (archive_in_trees t ≡ change (archive_in_trees db))) (sym same)
      (ends db mid.0 _ k needs left (subst (HoldsRecords cells read) (sym rows) put.0) (ap (map read) rows ∙ put.1)))

-- ---- UPDATE and DELETE of the record of a key

-- what is changed keeps the parts that are not set
pub part_stays : {R X : Type 0} (part : R → X) (wanted : R → Bool) (set : R → R) → ((r : R) → part (set r) ≡ part r) → (r : R) → part (if wanted r then set r else r) ≡ part r
part_stays part wanted set keeps r = elim (wanted r) as (λ c. part (cond c (set r) r) ≡ part r) [ true ↦ keeps r | false ↦ refl ]

-- where a text in the first column is the key
abbrev pub by_first : List Term
by_first = op2 (Compare Eq Binary) (col 1 1) (col 0 0) ∷ []

pub has_word : {R : Type 0} (cells : R → Row) (word : R → List ℕ) → ((n : ℤ) (r : R) → column (Int n ∷ cells r) 1 ≡ Text (word r)) → (w : List ℕ) (more : Row) (n : ℤ) (r : R)
    → passes by_first (Text w ∷ more) (Int n ∷ cells r) ≡ bytes_eq (word r) w
has_word cells word first_is w more n r = alone _ ∙ ap (λ (v : Value). is_true (binary (Compare Eq Binary) v (Text w))) (first_is n r) ∙ text_is (word r) w

module _ {R : Type 0} (word : R → List ℕ) (w : List ℕ) where
  abbrev same_word : R → R → Bool
  same_word a b = bytes_eq (word b) (word a)

  pub alike_word : (a b : R) → bytes_eq (word a) w ≡ true → same_word a b ≡ bytes_eq (word b) w
  alike_word a b found = ap (bytes_eq (word b)) (equal_words (word a) w found)

  pub words_stay : (set : R → R) → ((r : R) → word (set r) ≡ word r) → (all : List R) → HaveDistinctKeys same_word all
      → HaveDistinctKeys same_word (map (λ r. if bytes_eq (word r) w then set r else r) all)
  words_stay set keeps all = apart_mapped same_word (λ r. if bytes_eq (word r) w then set r else r) (λ a b. ap₂ bytes_eq (stays b) (stays a)) all
    where
      stays : (r : R) → word (if bytes_eq (word r) w then set r else r) ≡ word r
      stays = part_stays word (λ r. bytes_eq (word r) w) set keeps

abbrev pub key_query : Table → List Term → List Term → Query
key_query table terms shown = plain_query table.tree terms shown []

abbrev pub UpdateText : Statement → ℕ → Table → List Term → List Term → Type 1
UpdateText st at table terms shown =
    WriteText st (Update at (record { lets = []; body = key_query table terms shown })) table
    (λ limit db. Updates (task_on limit table st.parameters) (record { lets = []; body = key_query table terms shown }) st.parameters db)

abbrev pub DeleteText : Statement → ℕ → Table → List Term → List Term → Type 1
DeleteText st at table terms shown =
    WriteText st (Delete at (record { lets = []; body = key_query table terms shown })) table
    (λ limit db. Deletes (task_on limit table st.parameters) (record { lets = []; body = key_query table terms shown }) db)

-- each number of a row is above this
abbrev pub AreAbove : ℤ → List Row → Type 0
AreAbove n = AllByRecursion (λ row. value_cmp (Int n) (rowid row) ≡ Less)

module _ {R : Type 0} {table : Table} {cells : R → Row} {read : Row → R} (kept : KeepsRecords table cells read) (same : R → R → Bool)
    (distinct : (db : Trees) → AreArchiveTables db → HaveDistinctKeys same (map read (db table.tree))) (st : Statement) (terms shown : List Term) (wanted : R → Bool)
    (tests : (n : ℤ) (r : R) → passes terms st.parameters (Int n ∷ cells r) ≡ wanted r) (alike : (a b : R) → wanted a ≡ true → same a b ≡ wanted b) where
  abbrev query : Query
  query = key_query table terms shown

  abbrev shown_of : NumberedRecord R → Row
  shown_of r = (output query (env_of st.parameters (numbered_row cells r))).1

  abbrev hits_in : Trees → List (NumberedRecord R)
  hits_in db = filter (λ (r : NumberedRecord R). wanted r.content) (map (numbered_from_row read) (db table.tree))

  -- the rows that its query is given
  module _ (limit : Option ℕ) (db : Trees) (k : AreArchiveTables db) (given : List Row)
      (h : Queried limit (over archive_schema db) (record { lets = []; body = query }) st.parameters (Ok given)) where
    picks : Picks query st.parameters (db table.tree) given
    picks = subst (λ l. Picks query st.parameters l given) (kept.low db) (picks_of table.tree terms shown [] (overlay db []) st.parameters given (h.answer Null))

    gives_one : (r : NumberedRecord R) → hits_in db ≡ r ∷ [] → given ≡ shown_of r ∷ []
    gives_one r one =
        one_row query st.parameters (db table.tree) given (numbered_row cells r) picks
        ((hits cells read kept.back query st.parameters wanted tests (db table.tree) (kept.holds db k)).0 ∙ ap (map (numbered_row cells)) one)

    gives_none : hits_in db ≡ [] → given ≡ []
    gives_none none =
        no_row query st.parameters (db table.tree) given picks
        ((hits cells read kept.back query st.parameters wanted tests (db table.tree) (kept.holds db k)).0 ∙ ap (map (numbered_row cells)) none)

  -- `ends` is what becomes of the archive where these records are changed
  pub updates : {at : ℕ} {change : Archive → Archive} (set : R → R) → UpdateText st at table terms shown
      → (puts : (db : Trees) (r : NumberedRecord R) (given : List Row) → given ≡ shown_of r ∷ []
      → edited db (edit_of db table (ids_of given) Given 1 given) ≡ put_row (numbered_row cells (record r { content = set r.content })) (without_rowid r.number (db table.tree)))
      → (ends : (db next : Trees) (rows : List Row) → AreArchiveTables db → EditLeaves table.tree db next rows → HoldsRecords cells read (next table.tree)
      → map read (next table.tree) ≡ map (λ r. if wanted r then set r else r) (map read (db table.tree))
      → ((n : ℤ) → AreAbove n (db table.tree) → AreAbove n (next table.tree)) → AreArchiveTables next × (archive_in_trees next ≡ change (archive_in_trees db)))
      → Write st (λ _. ⊤) change
  updates {change = change} set text puts ends = write_of text _ _ (λ limit db w k needs h.
      let queried = passed h in
      let written = passed queried.2 in
      let edit = edit_of db table (ids_of queried.0) Given 1 queried.0 in
      let trees : w.trees ≡ written.0 = ap (λ (x : Written). x.trees) (value_is written.2) in
      let left = left_by db edit written.0 written.1 in
      let it = updated cells read kept.back wanted set same alike (db table.tree) (edited db edit) (kept.holds db k) (distinct db k)
      (λ r one. puts db r queried.0 (gives_one limit db k queried.0 queried.1 r one))
      (λ none. ap (λ l. edited db (edit_of db table (ids_of l) Given 1 l)) (gives_none limit db k queried.0 queried.1 none)) in
      subst (λ (t : Trees). AreArchiveTables t × (archive_in_trees t ≡ change (archive_in_trees db))) (sym trees)
      (ends db written.0 _ k left (subst (HoldsRecords cells read) (sym left.rows_are) it.0) (ap (map read) left.rows_are ∙ it.1)
      (λ n above. subst (AreAbove n) (sym left.rows_are) (it.2 n above))))

  -- `ends` is what becomes of the archive where these records are gone
  pub deletes : {at : ℕ} {change : Archive → Archive} → DeleteText st at table terms shown
      → (puts : (db : Trees) (r : NumberedRecord R) (given : List Row) → given ≡ shown_of r ∷ [] → edited db (edit_of db table (ids_of given) Given 0 []) ≡ without_rowid r.number (db table.tree))
      → (ends : (db next : Trees) (rows : List Row) → AreArchiveTables db → EditLeaves table.tree db next rows → HoldsRecords cells read (next table.tree)
      → map read (next table.tree) ≡ filter (λ r. not (wanted r)) (map read (db table.tree)) → AreArchiveTables next × (archive_in_trees next ≡ change (archive_in_trees db)))
      → Write st (λ _. ⊤) change
  deletes {change = change} text puts ends = write_of text _ _ (λ limit db w k needs h.
      let queried = passed h in
      let written = passed queried.2 in
      let edit = edit_of db table (ids_of queried.0) Given 0 [] in
      let trees : w.trees ≡ written.0 = ap (λ (x : Written). x.trees) (value_is written.2) in
      let left = left_by db edit written.0 written.1 in
      let it = deleted cells read kept.back wanted same alike (db table.tree) (edited db edit) (kept.holds db k) (distinct db k)
      (λ r one. puts db r queried.0 (gives_one limit db k queried.0 queried.1 r one))
      (λ none. ap (λ l. edited db (edit_of db table (ids_of l) Given 0 [])) (gives_none limit db k queried.0 queried.1 none)) in
      subst (λ (t : Trees). AreArchiveTables t × (archive_in_trees t ≡ change (archive_in_trees db))) (sym trees)
      (ends db written.0 _ k left (subst (HoldsRecords cells read) (sym left.rows_are) it.0) (ap (map read) left.rows_are ∙ it.1)))
