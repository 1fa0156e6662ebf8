use Rattle.std.proofs.Common.{subst}
use Rattle.std.specs.List.{All}
use Rattle.std.proofs.lemmas.List.{take_all}
use Rattle.std.proofs.lemmas.List.Elements.{All-map, All-more}
use Rattle.archive_port.specs.Commands.{spec_command}
use Rattle.archive_port.specs.declared.commands.Command.{Command}
use Rattle.archive_desk.specs.Readable.{IsWellFormedCommand}
use Rattle.archive_desk.proofs.laws.commands_of_a_run_are_well_formed.Goals as goal

abbrev IsSaidOf : Command → Type 0
IsSaidOf command = IsWellFormedCommand (spec_command command)

pub loop-command-preserved : goal.loop-command-preserved
loop-command-preserved c =
    All-more IsSaidOf c.args.commands.now c.loop-command.command-index c.command-item.result c.loop-command-test.true c.loop-command.invariant
    (subst IsSaidOf c.command-item.is c.each_command_is_well_formed.ensures)

pub returns : goal.returns
returns c =
    All-map IsWellFormedCommand spec_command c.args.commands.now
    (subst (All IsSaidOf) (take_all c.loop-command.command-index c.args.commands.now c.loop-command-test.false) c.loop-command.invariant)
