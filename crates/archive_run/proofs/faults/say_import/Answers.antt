use Rattle.std.proofs.Common.{◌++◌, codes}
use Rattle.std.specs.Prelude.{decimal}
use Rattle.sift_run.proofs.TellLemmas.{said_then}
use Rattle.archive_run.specs.Refusals.{import_error_text}
use Rattle.archive_run.proofs.faults.say_import.Goals as goal

pub returns : goal.returns
returns g c =
    let stop = c.args.stop in
    said_then g.E.Sink c.args.faults.now c.say_taking.new.faults c.put_number.new.faults (import_error_text stop.fault) (codes " after " ++ decimal stop.done)
    c.put_number.result c.in_ok-say_taking.ensures c.put_number.ensures
