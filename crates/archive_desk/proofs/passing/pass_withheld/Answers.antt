use Rattle.std.proofs.Common.{◌++◌, arith}
use Rattle.archive_port.proofs.LastLemmas.{lasts_then}
use Rattle.archive_port.proofs.CauseLemmas.{passed_on}
use Rattle.archive_desk.proofs.CauseLemmas.{failed_since}
use Rattle.archive_desk.proofs.PassLemmas.{passed_further, stopped_further}
use Rattle.archive_desk.proofs.passing.pass_withheld.Goals as goal

pub loop-preserved : goal.loop-preserved
loop-preserved g c = (
  lasts_then g.S.ArchiveState _ _ _ c.loop.invariant.0 c.pass_next.ensures.lasts,
  passed_further c.loop.invariant.1 c.pass_next.ensures.lasts c.in_ok-pass_next.ensures.passed.skips_withheld,
  omega (arith, c.loop.invariant.2, c.in_ok-pass_next.ensures.passed.skips_withheld.remaining_never_grows),
  omega (arith, c.loop.invariant.3, c.in_ok-pass_next.ensures.counted.0),
  (λ db may. c.loop.invariant.4 db (c.pass_next.ensures.writes_nothing db may)),
)

pub returns-clause-passed : goal.returns-clause-passed
returns-clause-passed g c = record {
  skips_withheld = (passed_further c.loop.invariant.1 c.pass_next.ensures.lasts c.in_ok-pass_next.ensures.passed.skips_withheld).passed;
  remaining_never_grows = omega (arith, c.loop.invariant.2, c.in_ok-pass_next.ensures.passed.skips_withheld.remaining_never_grows);
  fault_is_no_refusal = tt;
}

pub returns-in_err-pass_next-clause-passed : goal.returns-in_err-pass_next-clause-passed
returns-in_err-pass_next-clause-passed g c =
    stopped_further c.loop.invariant.1 c.pass_next.ensures.lasts c.from_residual.result c.from_residual.ensures.1 c.loop.invariant.2 c.in_err-pass_next.ensures.passed.skips_withheld

pub returns-in_err-pass_next-clause-caused : goal.returns-in_err-pass_next-clause-caused
returns-in_err-pass_next-clause-caused g c = λ returned all a given w free.
    let it = c.loop.invariant.1.passed (c.pass_next.ensures.lasts.disk_was_clean returned) all a given w in
    passed_on c.from_residual.result c.in_err-pass_next.field-0.0 _ c.from_residual.ensures.1
    (λ bad. failed_since g.S.ArchiveState c.args.store.now c.loop.store c.pass_next.new.store _
    c.loop.invariant.0 (c.in_err-pass_next.ensures.caused returned all a (given ++ it.0) it.1 (c.loop.invariant.0.sets_no_limit free) bad))
