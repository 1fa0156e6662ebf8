use Rattle.std.proofs.Common.{[], arith}
use Rattle.sqlite.specs.Held.{state}
use Rattle.archive_tables.proofs.EndLemmas.{statement_stops}
use Rattle.archive_tables.proofs.MakeLemmas.{if_ran, undoes, rollback_text, rollback_always}
use Rattle.archive_tables.proofs.HeldLemmas.{leaves_over, goes_back_to}
use Rattle.archive_tables.proofs.LastLemmas.{execute_lasts}
use Rattle.sqlite.specs.Command.TheVariants.{Rollback}
use Rattle.archive_tables.proofs.RefusalLemmas.{transaction_fails}
use Rattle.archive_tables.proofs.CrashLemmas.{transaction_adds}
use Rattle.archive_tables.proofs.texts.schema.rollback.Goals as goal

pub returns : goal.returns
returns g c =
    let old = state g.S.Store c.args.conn.now in
    let new = state g.S.Store c.execute.new.self in
    let r = c.execute.result in
    let runs = c.execute.ensures.runs in
    record {
      undone = λ clean. if_ran _ _ old new r (runs clean) (undoes old new);
      left = λ clean db k up. leaves_over db old new r k (runs clean) up;
      back = λ clean before k. goes_back_to before old new r k (runs clean);
      ends = record {
        failure_keeps_or_rolls_back = λ clean. statement_stops old new rollback_text [] r (runs clean);
        fault_has_cause = λ clean up within. transaction_fails rollback_text Rollback rollback_always.is rollback_always.plain rollback_always.fits tt old new up (λ e it. grind arith) r (runs clean);
        crash_adds_nothing = λ clean db may. transaction_adds rollback_text Rollback rollback_always.is rollback_always.plain tt [] old new tt c.execute.ensures.survives clean db may;
      };
      lasts = execute_lasts old new _ _ _ r c.execute.ensures.survives runs;
    }
