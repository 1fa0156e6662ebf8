use Rattle.std.proofs.Common.{codes}
use Rattle.archive_usage.specs.Program.{sift_dates_app, sift_app, with_option}
use Rattle.archive_usage.proofs.building.sift_command.Goals as goal

pub returns : goal.returns
unfolding sift_app
returns c =
    let ruled = with_option sift_dates_app (codes "policy") in
    c.with_option-3.ensures (with_option ruled (codes "list"))
    (c.in_ok-listed.ensures ruled (c.in_ok-ruled.ensures sift_dates_app c.in_ok-dated.ensures))
