-- E15 of a command, or of many, that the rows do not refuse.
use Rattle.std.proofs.Common.{◌≤◌, ℕ, List, drop, length, inl, inr, Ok, Err}
use Rattle.std.specs.Prelude.{Result, Vec}
use Rattle.std.specs.List.{AllByRecursion}
use Rattle.std.specs.declared.alloc.Global.{Global}
use Rattle.sqlite.specs.Effect.{Database}
use Rattle.sqlite.specs.Store.{Ghosts}
use Rattle.sqlite_trees.proofs.ListLemmas.{all_weaker}
use Rattle.mbox_items.specs.Division.{Item}
use Rattle.archive_model.specs.Commands.{Command, Refusal}
use Rattle.archive_model.specs.Machine.{message_limit}
use Rattle.archive_model.specs.declared.found.CommandFacts.{CommandFacts}
use Rattle.archive_port.specs.Adding.{AddsAllMessages, RefusesAnItem}
use Rattle.archive_port.specs.Commands.{ExecutesCommand}
use Rattle.archive_port.specs.Replies.{map_error_to_fault}
use Rattle.archive_port.specs.Told.{E15MeansDiskFailed}
use Rattle.archive_port.specs.declared.faults.StoreFault.{StoreFault}
use Rattle.archive_port.specs.declared.reports.AddError.{AddError}
use Rattle.archive_port.specs.declared.reports.AddReport.{AddReport}
use Rattle.archive_store.specs.CommandRuns.{RunsCommands}
use Rattle.archive_store.specs.Held.{store_connection}
use Rattle.archive_store.specs.Refusals.{RowsRefuseNextCommand}
use Rattle.archive_store.specs.State.{state_of}
use Rattle.archive_store.specs.Told.{HoldsTables}
use Rattle.archive_store.specs.Walking.{current_database}
use Rattle.archive_store.specs.declared.running.CommandRunError.{CommandRunError}
use Rattle.archive_store.specs.declared.running.Outcome.{Outcome}
use Rattle.archive_store.specs.declared.store.Store.{Store}
use Rattle.archive_sound.specs.Causes.{HasRoomInStore, HasRoomInStoreFor, EndsRun, EndsAdding}
use Rattle.archive_sound.specs.ManyCommands.{HasRoomFor, IsOrdinaryCommand}
use Rattle.archive_sound.specs.Room.{longest_list_name}
use Rattle.archive_sound.specs.Room.{IsSoundArchive, HasRoom, IsCommandInRange}
use Rattle.archive_sound.proofs.CommandLemmas.{is_sound, never_refused, never_next}
use Rattle.archive_sound.proofs.ItemLemmas.{never_an_item_left}
use Rattle.archive_sound.proofs.NumberLemmas.{room_for_one}

pub only_disk : {S : Type 0} (g : Ghosts S) (old new : Store S) (command : Command) (result : Result CommandFacts StoreFault)
    → ExecutesCommand (state_of g) old new command result → HasRoomInStore g old command → E15MeansDiskFailed (state_of g) old new result
only_disk g old new command (Ok found) executes room clean held unlimited = executes.ends_write.fault_has_cause clean held unlimited
only_disk g old new command (Err fault) executes room clean held unlimited = λ is_store.
    elim (executes.ends_write.fault_has_cause clean held unlimited is_store) [
      | inl failed ↦ failed
      | inr refused ↦ absurd (never_refused message_limit command (current_database g old)
          (is_sound (current_database g old) held.schema held.tables room.is_database) room.is_in_range room.has_room refused)
    ]

-- ---- many commands

-- of those that an archive with room for one more is told next the rows refuse none
pub never_next_ordinary : (commands : List Command) (count : ℕ) (db : Database) → IsSoundArchive db → HasRoomFor 1 db.trees → AllByRecursion IsOrdinaryCommand commands
    → ¬ RowsRefuseNextCommand commands count db
never_next_ordinary commands count db sound room all =
    never_next commands count db sound (all_weaker _ (λ command. IsCommandInRange command × HasRoom command db) (λ command it. (it.is_in_range, room_for_one 0 db room command it)) commands all)

module _ {S : Type 0} (g : Ghosts S) (old new : Store S) where
  pub only_disk_runs : (commands : List Command) (result : Result (Vec Outcome Global) CommandRunError) → RunsCommands g (store_connection old) (store_connection new) commands result
      → EndsRun g old new commands result → HasRoomInStoreFor g 1 new → AllByRecursion IsOrdinaryCommand commands
      → E15MeansDiskFailed (state_of g) old new (map_error_to_fault (λ (stop : CommandRunError). stop.fault) result)
  only_disk_runs commands (Ok outcomes) runs ends room all clean held unlimited = tt
  only_disk_runs commands (Err stop) runs ends room all clean held unlimited = λ is_store.
      elim (ends.fault_has_cause clean held unlimited is_store) [
        | inl failed ↦ failed
        | inr refused ↦ elim (ends.remains_open.closes_only_by_fault.stays_open clean held.is_open) [
          | inl is_open ↦
              let rests = (runs clean held is_open).0 in
              absurd (never_next_ordinary commands stop.done (current_database g new) (is_sound (current_database g new) rests.schema rests.tables room.is_database) room.has_room all refused)
          | inr failed ↦ failed
        ]
      ]

  -- messages that are left once so many were added
  pub never_left : (list : List ℕ) (items : List Item) (count : ℕ) → HoldsTables g new → HasRoomInStoreFor g (length items) new → length list ≤ longest_list_name
      → ¬ RefusesAnItem (state_of g) new list (drop count items)
  never_left list items count held room senders why =
      never_an_item_left list items count (current_database g new) (is_sound (current_database g new) held.schema held.tables room.is_database) room.has_room senders (record {
        items_before = why.items_before;
        item = why.item;
        items_after = why.items_after;
        items_are = why.items_are;
        database = why.is_refused.0;
        makes_rows = why.is_refused.1;
        is_refused = why.is_refused.2;
      })

  pub only_disk_adds : (list : List ℕ) (items : List Item) (reasons : List Refusal) (result : Result AddReport AddError) → AddsAllMessages (state_of g) old new result list items
      → EndsAdding (state_of g) old new list items reasons result → HasRoomInStoreFor g (length items) new → length list ≤ longest_list_name
      → E15MeansDiskFailed (state_of g) old new (map_error_to_fault (λ (stop : AddError). stop.fault) result)
  only_disk_adds list items reasons (Ok report) adds ends room senders clean held unlimited = tt
  only_disk_adds list items reasons (Err stop) adds ends room senders clean held unlimited = λ is_store.
      elim (ends.fault_has_cause clean held unlimited is_store) [
        | inl failed ↦ failed
        | inr refused ↦ elim (ends.remains_open.closes_only_by_fault.stays_open clean held.is_open) [
          | inl is_open ↦ absurd (never_left list items stop.done ((rw is_store at (adds clean held)) is_open).0 room senders refused)
          | inr failed ↦ failed
        ]
      ]
