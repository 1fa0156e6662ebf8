use Rattle.std.proofs.Common.{take}
use Rattle.std.specs.List.{All}
use Rattle.archive_port.specs.Commands.{spec_command}
use Rattle.archive_desk.specs.Readable.{IsWellFormedCommand}
use Rattle.archive_desk.proofs.laws.commands_of_a_run_are_well_formed.Given as goal

abbrev pub invariant-loop-command : goal.invariant-loop-command
invariant-loop-command l = All (λ command. IsWellFormedCommand (spec_command command)) (take l.command-index l.commands)
