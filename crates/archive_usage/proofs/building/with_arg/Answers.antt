use Rattle.archive_usage.proofs.CommandLemmas.{with_rule_added}
use Rattle.archive_usage.proofs.building.with_arg.Goals as goal

pub returns : goal.returns
returns c = with_rule_added c.in_ok-more.ensures
