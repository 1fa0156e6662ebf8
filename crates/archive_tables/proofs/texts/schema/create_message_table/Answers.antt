use Rattle.archive_tables.proofs.SchemaLemmas.{message_step, message_extends}
use Rattle.archive_tables.proofs.MakeLemmas.{created, ended}
use Rattle.archive_tables.proofs.texts.schema.create_message_table.Goals as goal

pub returns : goal.returns
returns g c =
    let it = ended g.S.Store c.args.conn.now c.execute.new.self message_step c.execute.result c.execute.ensures.survives c.execute.ensures.runs in
    record { made = created g.S.Store c.args.conn.now c.execute.new.self message_step c.execute.result c.execute.ensures.runs message_extends; quiet = it.0; ends = it.1 }
