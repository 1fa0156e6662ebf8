use Rattle.archive_usage.specs.Program.{option_rule, required_rule, with_required_option}
use Rattle.archive_usage.proofs.building.with_needed.Goals as goal

pub returns : goal.returns
unfolding with_required_option
returns c =
    let rule = option_rule c.args.name.now in
    λ app is. c.with_arg.ensures app (required_rule rule) is (c.required.ensures rule c.option.ensures)
