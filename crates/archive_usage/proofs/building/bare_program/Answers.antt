use Rattle.std.proofs.Common.{codes}
use Rattle.archive_usage.specs.Program.{bare_app, empty_app, with_version_flag}
use Rattle.archive_usage.proofs.building.bare_program.Goals as goal

pub returns : goal.returns
unfolding bare_app
returns c =
    let app = empty_app (codes "archive") in
    c.named.ensures (with_version_flag app) (c.versioned.ensures app c.new_command-command.ensures)
