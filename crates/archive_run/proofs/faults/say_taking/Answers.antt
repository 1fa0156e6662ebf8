use Rattle.std.proofs.Common.{◌∙◌}
use Rattle.archive_port.specs.Names.{store_fault_text}
use Rattle.sift_run.proofs.TellLemmas.{said_as}
use Rattle.archive_run.proofs.faults.say_taking.Goals as goal

pub returns-in-Store : goal.returns-in-Store
returns-in-Store g c =
    rw c.in-Store.is (said_as g.E.Sink c.args.faults.now c.write_piece.new.faults c.as_bytes.result.now (store_fault_text c.in-Store.fault) c.write_piece.result
    (c.as_bytes.ensures.value ∙ c.name.ensures) c.write_piece.ensures)
