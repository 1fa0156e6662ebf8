use Rattle.std.proofs.Common.{◌∙◌}
use Rattle.std.specs.Prelude.{decimal}
use Rattle.sift_run.proofs.TellLemmas.{said_as, said_then}
use Rattle.sift_run.proofs.faults.put_number.Goals as goal

pub returns : goal.returns
returns g c =
    said_then g.E.Sink c.args.faults.now c.write_piece.new.faults c.write_piece-2.new.faults c.args.piece.now (decimal c.args.number) c.write_piece-2.result c.in_ok-write_piece.ensures
    (said_as g.E.Sink c.write_piece.new.faults c.write_piece-2.new.faults c.as_bytes.result.now (decimal c.args.number) c.write_piece-2.result
    (c.as_bytes.ensures.value ∙ c.format.ensures.text) c.write_piece-2.ensures)
