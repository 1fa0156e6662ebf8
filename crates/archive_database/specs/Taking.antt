-- A message that the tables do not hold is written down after the others; or memory or the database was at fault.
use Rattle.std.specs.Prelude.{◌≡◌, ℕ, false, List, Option, None, Result, OnOk, MatchResult}
use Rattle.std.specs.List.{list_any}
use Rattle.sqlite.specs.Effect.{Database}
use Rattle.sqlite.specs.Store.{Ghosts}
use Rattle.sqlite.specs.Held.{Held, state}
use Rattle.sqlite.specs.State.{HasCleanDisk}
use Rattle.mbox_items.specs.Division.{Item}
use Rattle.archive_model.specs.Questions.{is_message_at_key}
use Rattle.archive_model.specs.Filing.{item_index_columns}
use Rattle.archive_model.specs.Machine.{with_message_under_key, keyed_message}
use Rattle.archive_tables.specs.Tables.{IsOpenArchive, archive_of}
use Rattle.archive_tables.specs.Statements.{Statement, insert_message_statement, IsStatementRefused, StatementExecutesTo}
use Rattle.archive_tables.specs.Crashes.{CrashLeavesOldOrChanged}
use Rattle.archive_tables.specs.Calls.{ChangesArchive, FaultKeepsRowsOrRollsBack}
use Rattle.archive_database.specs.Faults.{FailsByDiskOr}
use Rattle.archive_database.specs.declared.faults.DatabaseError.{DatabaseError}

-- outside a transaction or within one
abbrev pub InsertsMessage : {S : Type 0} → Ghosts S → Held S → Held S → Result (Unit {0}) DatabaseError → List ℕ → List ℕ → Item → Type 0
InsertsMessage g old new result list key item = HasCleanDisk (state g new) → (behind : Option Database) → IsOpenArchive behind (state g old)
    → MatchResult result
    (λ _. list_any (is_message_at_key list key) (archive_of (state g old)).messages ≡ false
    → ChangesArchive behind (state g old) (state g new) (λ a. with_message_under_key a list key item))
    (λ _. FaultKeepsRowsOrRollsBack behind (state g old) (state g new))

-- the statement that writes it down, filed by what its text says
abbrev pub insert_item_statement : List ℕ → List ℕ → Item → Statement
insert_item_statement list key item = insert_message_statement (keyed_message list key item) (item_index_columns item)

-- why it is not taken in, where no limit is set on the steps of a query
abbrev pub FailsToInsertMessage : {S : Type 0} → Ghosts S → Held S → Held S → Result (Unit {0}) DatabaseError → List ℕ → List ℕ → Item → Type 0
FailsToInsertMessage g old new result list key item = HasCleanDisk (state g new) → (behind : Option Database) → IsOpenArchive behind (state g old) → (state g old).step_limit ≡ None
    → FailsByDiskOr (state g old) (state g new) result (IsStatementRefused (insert_item_statement list key item) (state g old).now)

-- and what the rows are once it is
abbrev pub ExecutesMessageInsert : {S : Type 0} → Ghosts S → Held S → Held S → Result (Unit {0}) DatabaseError → List ℕ → List ℕ → Item → Type 0
ExecutesMessageInsert g old new result list key item = HasCleanDisk (state g new) → (behind : Option Database) → IsOpenArchive behind (state g old) → (state g old).step_limit ≡ None
    → OnOk result (StatementExecutesTo (insert_item_statement list key item) (state g old).now (state g new).now)

-- what a stop of the machine may leave of it
abbrev pub CrashLeavesWholeMessage : {S : Type 0} → Ghosts S → Held S → Held S → List ℕ → List ℕ → Item → Type 0
CrashLeavesWholeMessage g old new list key item =
    CrashLeavesOldOrChanged g old new (λ a. list_any (is_message_at_key list key) a.messages ≡ false) (λ a. with_message_under_key a list key item)
