-- What commands to a store need, so that only the disk can fail them.
use Rattle.std.specs.Prelude.{◌⊎◌, ℕ, List, drop, Result, Vec}
use Rattle.std.specs.declared.alloc.Global.{Global}
use Rattle.sqlite.specs.Effect.{IsDatabase}
use Rattle.sqlite.specs.Store.{Ghosts}
use Rattle.mbox_items.specs.Division.{Item}
use Rattle.archive_model.specs.Commands.{Command, Refusal}
use Rattle.archive_port.specs.Adding.{RefusesAnItem}
use Rattle.archive_port.specs.Replies.{done_count_on_error, map_error_to_fault}
use Rattle.archive_port.specs.Told.{EndsPartialWrite}
use Rattle.archive_port.specs.declared.reports.AddError.{AddError}
use Rattle.archive_port.specs.declared.reports.AddReport.{AddReport}
use Rattle.archive_port.specs.declared.state.ArchiveState.{Ghosts as StateOf}
use Rattle.archive_store.specs.Refusals.{RowsRefuseNextCommand}
use Rattle.archive_store.specs.Told.{DiskHasFailed, EndsUnrefusedBy}
use Rattle.archive_store.specs.Walking.{current_database}
use Rattle.archive_store.specs.declared.running.CommandRunError.{CommandRunError}
use Rattle.archive_store.specs.declared.running.Outcome.{Outcome}
use Rattle.archive_store.specs.declared.store.Store.{Store}
use Rattle.archive_sound.specs.ManyCommands.{HasRoomFor}
use Rattle.archive_sound.specs.Room.{HasRoom, IsCommandInRange}

-- The database of the store has room for what the command writes. That of an open connection obeys its schema (`IsLive` of sqlite).
pub record HasRoomInStore {S : Type 0} (g : Ghosts S) (store : Store S) (command : Command) : Type 0 where
  pub is_database : IsDatabase (current_database g store)
  pub is_in_range : IsCommandInRange command
  pub has_room : HasRoom command (current_database g store)

-- The database of the store has room for as many commands, whichever they are.
pub record HasRoomInStoreFor {S : Type 0} (g : Ghosts S) (more : ℕ) (store : Store S) : Type 0 where
  pub is_database : IsDatabase (current_database g store)
  pub has_room : HasRoomFor more (current_database g store).trees

-- How a run of commands ends: the clause `ends` of `run` of the store.
abbrev pub EndsRun : {S : Type 0} → Ghosts S → Store S → Store S → List Command → Result (Vec Outcome Global) CommandRunError → Type 0
EndsRun g old new commands result =
    EndsUnrefusedBy g old new (DiskHasFailed g old new ⊎ RowsRefuseNextCommand commands (done_count_on_error (λ (stop : CommandRunError). stop.done) result) (current_database g new))
    (map_error_to_fault (λ (stop : CommandRunError). stop.fault) result)

-- How many messages that are added end: the clause `ends` of `add_all` of `ArchiveStore`.
abbrev pub EndsAdding : {S W : Type 0} → StateOf S W → S → S → List ℕ → List Item → List Refusal → Result AddReport AddError → Type 0
EndsAdding g old new list items reasons result =
    EndsPartialWrite g old new (map_error_to_fault (λ (stop : AddError). stop.fault) result) reasons
    (λ store. RefusesAnItem g store list (drop (done_count_on_error (λ (stop : AddError). stop.done) result) items))
