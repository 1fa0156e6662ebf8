use Rattle.std.proofs.Common.{codes}
use Rattle.sift_run.proofs.TellLemmas.{said_as, said_then}
use Rattle.archive_run.proofs.faults.say_denied.Goals as goal

pub returns : goal.returns
returns g c =
    said_then g.E.Sink c.args.faults.now c.write_piece.new.faults c.write_piece-2.new.faults (codes "denied by ") c.args.rule.now c.write_piece-2.result c.in_ok-write_piece.ensures
    (said_as g.E.Sink c.write_piece.new.faults c.write_piece-2.new.faults c.as_bytes.result.now c.args.rule.now c.write_piece-2.result c.as_bytes.ensures.value c.write_piece-2.ensures)
