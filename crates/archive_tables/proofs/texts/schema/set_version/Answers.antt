use Rattle.archive_tables.proofs.MakeLemmas.{if_ran, migrated, ended}
use Rattle.archive_tables.proofs.MoveLemmas.{set_step, set_turns, moves_version}
use Rattle.archive_tables.proofs.texts.schema.set_version.Goals as goal

pub returns : goal.returns
returns g c =
    let survives = rw c.params-to_sql.ensures at c.execute.ensures.survives in
    let runs = rw c.params-to_sql.ensures at c.execute.ensures.runs in
    let it = ended g.S.Store c.args.conn.now c.execute.new.self set_step c.execute.result survives runs in
    record {
      moved = λ clean before said archive k. if_ran _ _ _ _ c.execute.result (runs clean) (λ count. moves_version _ _ before said archive count k);
      within = migrated g.S.Store c.args.conn.now c.execute.new.self set_step c.execute.result runs set_turns;
      quiet = it.0;
      ends = it.1;
    }
