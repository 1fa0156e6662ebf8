use Rattle.std.proofs.Common.{rules}
use Rattle.archive_port.specs.Commands.{spec_command}
use Rattle.archive_memory.proofs.StateLemmas.{lasts, performs}
use Rattle.archive_memory.proofs.state.MemoryArchiveArchiveStore.carry.Goals as goal

pub returns : goal.returns
returns c = record {
  performs_step = performs c.args.self.now c.run.new.self (spec_command c.args.command.now) c.run.result c.command_is_writable.ensures c.run.ensures.stepped;
  crash = λ held clean left may. absurd may;
  ends_write = record {
    remains_open = lasts c.args.self.now c.run.new.self;
    was_open = search rules;
    refusal_is_possible = c.run.ensures.possible;
    refusals_counted = c.run.ensures.counted.0;
    fault_has_cause = search rules;
  };
}
