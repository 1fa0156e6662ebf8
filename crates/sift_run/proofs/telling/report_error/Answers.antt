use Rattle.sift_run.proofs.TellLemmas.{told_line}
use Rattle.sift_run.proofs.telling.report_error.Goals as goal

pub returns : goal.returns
returns g c = told_line g.E.Sink c.args.faults.now c.say_line.new.faults (g.T.PrintsError.text c.args.refusal.now) c.say_line.result c.say_line.ensures
