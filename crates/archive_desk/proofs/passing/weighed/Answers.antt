use Rattle.archive_desk.proofs.PassLemmas.{weighed_marks}
use Rattle.archive_desk.proofs.passing.weighed.Goals as goal

pub returns : goal.returns
returns c = λ m are. weighed_marks c.args.marks m are
