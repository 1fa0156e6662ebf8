use Rattle.archive_tables.proofs.AddressLemmas.{changed}
use Rattle.archive_tables.proofs.WriteLemmas.{writes}
use Rattle.archive_tables.proofs.texts.addresses.change_address.Goals as goal

pub returns : goal.returns
returns g c =
    writes (changed (record { person = c.args.person.now; address = c.args.address.now })) c.execute.result c.execute.ensures.survives c.execute.ensures.runs
    (rw (c.params-to_sql.ensures, c.params-to_sql-2.ensures))
