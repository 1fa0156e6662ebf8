-- What a store is, in the words of the layers above, which name neither its tables nor its database.
use Rattle.std.specs.Prelude.{◌≡◌, ℕ, ℤ, List, Option, Some, IfSome, map}
use Rattle.sqlite.specs.Effect.{Database}
use Rattle.sqlite.specs.Tree.{Trees}
use Rattle.sqlite.specs.Store.{Ghosts}
use Rattle.sqlite.specs.Held.{state}
use Rattle.mbox_items.specs.Division.{Item}
use Rattle.archive_model.specs.Commands.{add}
use Rattle.archive_model.specs.Records.{Message}
use Rattle.archive_tables.specs.Crashes.{IsArchiveStored}
use Rattle.archive_tables.specs.Rows.{message_at}
use Rattle.archive_tables.specs.declared.rows.MessageRow.{MessageRow}
use Rattle.archive_port.specs.declared.state.ArchiveState.{Ghosts as StateOf}
use Rattle.archive_store.specs.Held.{store_connection, memory_refusal_count}
use Rattle.archive_store.specs.Refusals.{IsCommandRefused, MakeRows}
use Rattle.archive_store.specs.Told.{HasNoStepLimit, HoldsTables, StoreHasCleanDisk, archive_in, faults_of}
use Rattle.archive_store.specs.Walking.{IsRowOfFirst, current_database, current_rows, remaining_count, remaining_numbers}
use Rattle.archive_store.specs.declared.store.Store.{Store}
use Rattle.archive_store.specs.declared.walking.MessageWalk.{MessageWalk}

-- the rows of these numbers are these messages of the list, and the row that was peeked at is that of the first of them
abbrev pub NumbersGive : Trees → List ℕ → List ℤ → Option MessageRow → List Message → Type 0
NumbersGive rows list places peeked remaining = (map (message_at rows) places ≡ map Some remaining) × IfSome peeked (λ row. IsRowOfFirst list row remaining)

-- the items are written, one after the other, and the rows refuse the next
abbrev pub RowsRefuseAfter : List ℕ → List Item → Item → Database → Type 0
RowsRefuseAfter list items item db = (after : Database) × MakeRows list items db after × IsCommandRefused (add list item) after

-- A crash leaves trees, and an opening finds the archive that is stored in them.
abbrev pub state_of : {S : Type 0} → Ghosts S → StateOf (Store S) MessageWalk
state_of g = record {
  archive = λ store. archive_in g store;
  is_at_rest = λ store. HoldsTables g store;
  is_open = λ store. (state g (store_connection store)).is_open;
  has_clean_disk = λ store. StoreHasCleanDisk g store;
  has_no_step_limit = λ store. HasNoStepLimit g store;
  faults = λ store. faults_of g store;
  refusals = λ store. memory_refusal_count store;
  Left = Trees;
  may_leave = λ store db. (state g (store_connection store)).may_leave db;
  is_stored = λ archive db. IsArchiveStored archive db;
  refuses = λ store command. IsCommandRefused command (current_database g store);
  refuses_after = λ store list items item. RowsRefuseAfter list items item (current_database g store);
  gives = λ store walk list remaining. NumbersGive (current_rows g store) list (remaining_numbers walk) walk.peeked remaining;
  remaining_count = λ walk. remaining_count walk;
}
