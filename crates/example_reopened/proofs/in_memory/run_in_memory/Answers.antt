use Rattle.std.proofs.Common.{ap, map, ◌∙◌}
use Rattle.sqlite.specs.Steps.{over_memory}
use Rattle.sqlite.proofs.Callers.{memory_is_clean}
use Rattle.archive_model.specs.Runs.{run}
use Rattle.archive_tables.specs.Making.{empty_archive}
use Rattle.archive_store.specs.Held.{store_connection}
use Rattle.archive_port.specs.Commands.{spec_command}
use Rattle.archive_port.proofs.Joins.{ready_with}
use Rattle.archive_port.proofs.RightLemmas.{run_right}
use Rattle.archive_store.proofs.RightLemmas.{empty_right}
use Rattle.archive_store.specs.State.{state_of}
use Rattle.example_reopened.proofs.in_memory.run_in_memory.Goals as goal

pub returns-in-Ok : goal.returns-in-Ok
returns-in-Ok c =
    let made = c.in_ok-store.ensures.made (memory_is_clean (store_connection c.in_ok-store.store)) in
    let ran = c.in-Ok.ensures.step (memory_is_clean (store_connection c.run.new.self)) made.0 in
    let commands = map spec_command c.args.commands.now in
    let is = ran.1 ∙ ap (λ archive. (run archive commands).archive) made.1 in
    record {
      is_ready = ready_with (state_of over_memory) c.run.new.self (run empty_archive commands).archive ran.0 is (run_right empty_archive commands empty_right);
      archive_is = is;
      has_no_step_limit = c.in-Ok.ensures.ends.remains_open.step_limit_is_same ∙ c.in_ok-store.ensures.unlimited;
    }
