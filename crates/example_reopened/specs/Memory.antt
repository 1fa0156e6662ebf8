-- A store in memory in which commands were carried out.
use Rattle.std.specs.Prelude.{◌≡◌, List, map}
use Rattle.sqlite_trees.specs.declared.memory.MemStore.{MemStore}
use Rattle.sqlite.specs.Steps.{over_memory}
use Rattle.archive_model.specs.Runs.{run}
use Rattle.archive_tables.specs.Making.{empty_archive}
use Rattle.archive_port.specs.Commands.{spec_command}
use Rattle.archive_port.specs.Told.{HasNoStepLimit, IsReady, archive_in}
use Rattle.archive_port.specs.declared.commands.Command.{Command}
use Rattle.archive_store.specs.State.{state_of}
use Rattle.archive_store.specs.declared.store.Store.{Store}

-- It is ready, and remembers what the commands made of an empty archive; no limit is set on the steps of a query.
pub record HoldsArchiveOfCommands (commands : List Command) (store : Store MemStore) : Type 0 where
  pub is_ready : IsReady (state_of over_memory) store
  pub archive_is : archive_in (state_of over_memory) store ≡ (run empty_archive (map spec_command commands)).archive
  pub has_no_step_limit : HasNoStepLimit (state_of over_memory) store
