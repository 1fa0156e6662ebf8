use Rattle.archive_tables.proofs.SchemaLemmas.{number_step}
use Rattle.archive_tables.proofs.MakeLemmas.{if_ran, ended, makes_whole}
use Rattle.archive_tables.proofs.texts.schema.add_version.Goals as goal

pub returns : goal.returns
returns g c =
    let survives = rw c.params-to_sql.ensures at c.execute.ensures.survives in
    let runs = rw c.params-to_sql.ensures at c.execute.ensures.runs in
    let it = ended g.S.Store c.args.conn.now c.execute.new.self number_step c.execute.result survives runs in
    record { made = λ clean before k. if_ran _ _ _ _ c.execute.result (runs clean) (λ count. makes_whole _ _ before count k); quiet = it.0; ends = it.1 }
