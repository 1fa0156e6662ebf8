use Rattle.std.proofs.Common.{ap}
use Rattle.std.specs.Prelude.{nat_le, bytes_eq}
use Rattle.sqlite.specs.Held.{state}
use Rattle.archive_tables.specs.Tables.{archive_of}
use Rattle.archive_database.proofs.TakingLemmas.{not_full, asked_as, asked_fails, asked_then}
use Rattle.archive_database.proofs.taking.is_full.Goals as goal

pub returns-then-not-branch : goal.returns-then-not-branch
returns-then-not-branch g c = asked_as _ _ c.in_ok-may_be_full.ensures
    (λ few. not_full (λ m. bytes_eq m.list c.args.list.now) (archive_of (state g.S.Store c.args.conn.now)).messages c.args.limit (few c.if-not-branch.true))

pub returns : goal.returns
returns g c = asked_as _ _ (asked_then c.in_ok-may_be_full.ensures c.in_ok-count.ensures) (λ is. ap (nat_le c.args.limit) is)

pub returns-in_err-may_be_full : goal.returns-in_err-may_be_full
returns-in_err-may_be_full g c = asked_fails c.in_err-may_be_full.ensures c.from_residual.result c.from_residual.ensures.1

pub returns-in_err-count : goal.returns-in_err-count
returns-in_err-count g c = asked_fails (asked_then c.in_ok-may_be_full.ensures c.in_err-count.ensures) c.from_residual-in_err-count.result c.from_residual-in_err-count.ensures.1
