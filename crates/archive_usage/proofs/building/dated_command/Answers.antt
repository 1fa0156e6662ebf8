use Rattle.std.proofs.Common.{codes}
use Rattle.archive_usage.specs.Program.{sift_dates_app, empty_app, with_option}
use Rattle.archive_usage.proofs.building.dated_command.Goals as goal

pub returns : goal.returns
unfolding sift_dates_app
returns c =
    let command = empty_app (codes "sift") in
    c.with_option-2.ensures (with_option command (codes "day")) (c.in_ok-dated.ensures command c.new_command-command.ensures)
