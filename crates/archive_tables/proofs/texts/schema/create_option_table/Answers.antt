use Rattle.archive_tables.proofs.SchemaLemmas.{option_step, option_extends}
use Rattle.archive_tables.proofs.MakeLemmas.{if_ran, created, migrated, ended}
use Rattle.archive_tables.proofs.MoveLemmas.{moves_option}
use Rattle.archive_tables.proofs.texts.schema.create_option_table.Goals as goal

pub returns : goal.returns
returns g c =
    let it = ended g.S.Store c.args.conn.now c.execute.new.self option_step c.execute.result c.execute.ensures.survives c.execute.ensures.runs in
    record {
      made = created g.S.Store c.args.conn.now c.execute.new.self option_step c.execute.result c.execute.ensures.runs option_extends;
      moved = λ clean before said archive k. if_ran _ _ _ _ c.execute.result (c.execute.ensures.runs clean) (λ count. moves_option _ _ before said archive count k);
      within = migrated g.S.Store c.args.conn.now c.execute.new.self option_step c.execute.result c.execute.ensures.runs option_extends.turns;
      quiet = it.0;
      ends = it.1;
    }
