use Rattle.std.proofs.Common.{codes}
use Rattle.archive_usage.specs.Program.{person_add_app, database_app, with_positional}
use Rattle.archive_usage.proofs.building.person_add_command.Goals as goal

pub returns : goal.returns
unfolding person_add_app
returns c =
    let command = database_app (codes "person-add") in
    c.with_word-2.ensures (with_positional command (codes "name")) (c.in_ok-named.ensures command c.in_ok-command.ensures)
