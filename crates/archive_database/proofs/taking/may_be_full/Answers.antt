use Rattle.archive_database.proofs.TakingLemmas.{above_zero, asked_as, asked_fails}
use Rattle.archive_database.proofs.taking.may_be_full.Goals as goal

pub returns : goal.returns
returns g c = asked_as _ _ c.in_ok-reached.ensures.asks (λ it none. let neither = above_zero c.args.limit c.in_ok-reached.reached none in it neither.0 neither.1)

pub returns-in_err-reached : goal.returns-in_err-reached
returns-in_err-reached g c = asked_fails c.in_err-reached.ensures.asks c.from_residual.result c.from_residual.ensures.1
