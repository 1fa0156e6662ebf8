use Rattle.archive_usage.specs.Program.{required_rule, valued_rule, with_positional}
use Rattle.archive_usage.proofs.building.with_word.Goals as goal

pub returns : goal.returns
unfolding with_positional
returns c =
    let rule = valued_rule c.args.name.now in
    λ app is. c.with_arg.ensures app (required_rule rule) is (c.required.ensures rule c.valued.ensures)
