use Rattle.example_stopped.proofs.StopLemmas.{left_of, quiet_of}
use Rattle.example_stopped.proofs.stopping.crash_store.Goals as goal

pub returns-clause-left : goal.returns-clause-left
returns-clause-left g c =
    left_of c.args.store c.into_store.result c.close-files.result.log c.close-files.result.db c.crash.new.self c.crash-2.new.self
    (quiet_of c.args.store c.into_connection.result c.into_store.result c.into_connection.ensures c.into_store.ensures.quiet) c.close-files.ensures
    c.crash.ensures.clean c.crash-2.ensures.clean c.into_store.ensures.numbered c.into_store.ensures.sound c.crash.ensures.left c.crash-2.ensures.left
