use Rattle.archive_usage.specs.Program.{option_rule, with_option}
use Rattle.archive_usage.proofs.building.with_option.Goals as goal

pub returns : goal.returns
unfolding with_option
returns c = λ app is. c.with_arg.ensures app (option_rule c.args.name.now) is c.option.ensures
