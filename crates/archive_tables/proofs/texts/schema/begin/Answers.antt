use Rattle.std.proofs.Common.{[], arith}
use Rattle.sqlite.specs.Held.{state}
use Rattle.archive_tables.proofs.MakeLemmas.{if_ran, begins, begin_text, begin_always, runs_always}
use Rattle.archive_tables.proofs.HeldLemmas.{begins_over}
use Rattle.archive_tables.proofs.MoveLemmas.{begins_moving, begins_within}
use Rattle.sqlite_tied.specs.Compute.{everything}
use Rattle.sqlite_resolve.specs.Compile.{first}
use Rattle.archive_tables.proofs.LastLemmas.{IsOurText}
use Rattle.archive_tables.specs.Calls.{EndsConnectionCall}
use Rattle.archive_tables.proofs.EndLemmas.{execute_ends, statement_stops}
use Rattle.sqlite.specs.Command.TheVariants.{Begin}
use Rattle.archive_tables.proofs.RefusalLemmas.{transaction_fails}
use Rattle.archive_tables.proofs.CrashLemmas.{transaction_adds}
use Rattle.archive_tables.proofs.texts.schema.begin.Goals as goal

ours : IsOurText (first begin_text)
unfolding first everything
ours = tt

pub returns : goal.returns
returns g c =
    let old = state g.S.Store c.args.conn.now in
    let new = state g.S.Store c.execute.new.self in
    let r = c.execute.result in
    let runs = c.execute.ensures.runs in
    let call : EndsConnectionCall g.S.Store c.args.conn.now c.execute.new.self r = execute_ends _ _ _ r ours c.execute.ensures.survives runs in
    record {
      begun = λ clean has. if_ran _ _ old new r (runs clean) (λ count. begins old new count has);
      held = λ clean k. begins_over old new r k (runs clean);
      moving = λ clean number k. if_ran _ _ old new r (runs clean) (λ count. begins_moving old new number count k);
      within = λ clean. if_ran _ _ old new r (runs clean) (begins_within old new);
      ends = record {
        remains_open = call.remains_open;
        was_open = call.was_open;
        failure_keeps_or_rolls_back = λ clean. statement_stops old new begin_text [] r (runs clean);
        fault_has_cause = λ clean up outside. transaction_fails begin_text Begin begin_always.is begin_always.plain begin_always.fits tt old new up (λ e it. grind arith) r (runs clean);
        same_database = λ clean. if_ran _ _ old new r (runs clean) (λ count h. (runs_always begin_always old new count h).1.now_is);
        crash_adds_nothing = λ clean db may. transaction_adds begin_text Begin begin_always.is begin_always.plain tt [] old new tt c.execute.ensures.survives clean db may;
      };
    }
