use Rattle.archive_files.proofs.CloseLemmas.{close_result}
use Rattle.archive_files.proofs.databases.close_store.Goals as goal

pub returns : goal.returns
returns g c =
    close_result g.met.D.Disk.seen_may_stay c.args.store c.close_files.result c.into_connection-connection.result c.into_connection-connection.ensures
    c.schema-schema.ensures.live c.close_files.ensures.copied c.close_files.ensures.err
