use Rattle.std.proofs.Common.{◌++◌, codes}
use Rattle.sift_run.proofs.TellLemmas.{said_then}
use Rattle.sift_run.proofs.telling.say_line.Goals as goal

pub returns : goal.returns
returns g c =
    let text = g.T.PrintsError.text c.args.refusal.now in
    said_then g.E.Sink c.args.faults.now c.write_piece.new.faults c.write_piece-2.new.faults (codes "archive: ") (text ++ codes "\n") c.write_piece-2.result c.in_ok-write_piece.ensures
    (said_then g.E.Sink c.write_piece.new.faults c.say.new.faults c.write_piece-2.new.faults text (codes "\n") c.write_piece-2.result c.in_ok-say.ensures c.write_piece-2.ensures)
