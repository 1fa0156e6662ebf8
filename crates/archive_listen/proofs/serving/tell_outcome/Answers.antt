use Rattle.archive_listen.proofs.ServingLemmas.{told_line}
use Rattle.archive_listen.proofs.serving.tell_outcome.Goals as goal

pub returns-in-Err-clause-told : goal.returns-in-Err-clause-told
returns-in-Err-clause-told g c =
    told_line c.write_bytes.result g.E.Sink c.args.outcome.now c.in-Err.fault c.line.result.now c.args.faults.now c.write_bytes.new.out
    c.in-Err.is c.line.ensures c.write_bytes.ensures.ok c.write_bytes.ensures.fault c.write_bytes.ensures.quiet c.write_bytes.ensures.cause
