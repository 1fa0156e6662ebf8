use Rattle.std.proofs.Common.{[], arith}
use Rattle.sqlite.specs.Held.{state}
use Rattle.archive_tables.proofs.MakeLemmas.{if_ran, commits, commit_text, commit_always, runs_always}
use Rattle.archive_tables.proofs.HeldLemmas.{commits_over}
use Rattle.sqlite_tied.specs.Compute.{everything}
use Rattle.sqlite_resolve.specs.Compile.{first}
use Rattle.archive_tables.proofs.LastLemmas.{IsOurText}
use Rattle.archive_tables.specs.Calls.{EndsConnectionCall}
use Rattle.archive_tables.proofs.EndLemmas.{execute_ends, statement_stops}
use Rattle.sqlite.specs.Command.TheVariants.{Commit}
use Rattle.archive_tables.proofs.RefusalLemmas.{transaction_fails}
use Rattle.archive_tables.proofs.CrashLemmas.{commit_adds}
use Rattle.archive_tables.proofs.texts.schema.commit.Goals as goal

ours : IsOurText (first commit_text)
unfolding first everything
ours = tt

pub returns : goal.returns
returns g c =
    let old = state g.S.Store c.args.conn.now in
    let new = state g.S.Store c.execute.new.self in
    let r = c.execute.result in
    let runs = c.execute.ensures.runs in
    let call : EndsConnectionCall g.S.Store c.args.conn.now c.execute.new.self r = execute_ends _ _ _ r ours c.execute.ensures.survives runs in
    record {
      kept = λ clean before archive k. if_ran _ _ old new r (runs clean) (λ count. commits old new before archive count k);
      held = λ clean db k. commits_over db old new r k (runs clean);
      ends = record {
        remains_open = call.remains_open;
        was_open = call.was_open;
        failure_keeps_or_rolls_back = λ clean. statement_stops old new commit_text [] r (runs clean);
        fault_has_cause = λ clean up within. transaction_fails commit_text Commit commit_always.is commit_always.plain commit_always.fits tt old new up (λ e it. grind arith) r (runs clean);
        same_database = λ clean. if_ran _ _ old new r (runs clean) (λ count h. (runs_always commit_always old new count h).1.now_is);
        crash = λ clean db may. commit_adds commit_text Commit commit_always.is commit_always.plain tt [] old new c.schema-schema.ensures.live c.execute.ensures.survives clean db may;
      };
    }
