use Rattle.std.proofs.Common.{codes}
use Rattle.archive_usage.specs.Program.{policy_app, serve_app, with_required_option}
use Rattle.archive_usage.proofs.building.serve_command.Goals as goal

pub returns : goal.returns
unfolding serve_app
returns c =
    let command = policy_app (codes "serve") in
    c.with_needed-2.ensures (with_required_option command (codes "port")) (c.in_ok-ported.ensures command c.in_ok-command.ensures)
