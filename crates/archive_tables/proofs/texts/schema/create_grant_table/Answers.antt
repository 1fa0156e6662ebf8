use Rattle.archive_tables.proofs.SchemaLemmas.{grant_step, grant_extends}
use Rattle.archive_tables.proofs.MakeLemmas.{created, ended}
use Rattle.archive_tables.proofs.texts.schema.create_grant_table.Goals as goal

pub returns : goal.returns
returns g c =
    let it = ended g.S.Store c.args.conn.now c.execute.new.self grant_step c.execute.result c.execute.ensures.survives c.execute.ensures.runs in
    record { made = created g.S.Store c.args.conn.now c.execute.new.self grant_step c.execute.result c.execute.ensures.runs grant_extends; quiet = it.0; ends = it.1 }
