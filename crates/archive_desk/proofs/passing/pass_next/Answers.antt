use Rattle.std.proofs.Common.{◌∙◌, ◌≡◌, arith, sym, true}
use Rattle.archive_port.proofs.CauseLemmas.{passed_on}
use Rattle.archive_desk.proofs.PassLemmas.{none_passed, none_seen, one_passed, unread_among}
use Rattle.archive_desk.proofs.passing.pass_next.Goals as goal

pub returns-in_err-marks-clause-passed : goal.returns-in_err-marks-clause-passed
returns-in_err-marks-clause-passed g c = none_seen c.from_residual.result c.from_residual.ensures.1 c.in_err-marks.ensures.shown

pub returns-in_err-marks-clause-caused : goal.returns-in_err-marks-clause-caused
returns-in_err-marks-clause-caused g c = λ returned all a given w free.
    passed_on c.from_residual.result c.in_err-marks.field-0.0 _ c.from_residual.ensures.1
    (λ it. unread_among _ given all (c.in_err-marks.ensures.caused returned c.args.ask.now.list all a given w free it))

pub returns-in_default-clause-passed : goal.returns-in_default-clause-passed
returns-in_default-clause-passed g c =
    let shown = c.in_ok-marks.ensures.shown in
    none_passed (λ returned all a given w. (shown.gives_next_marks returned c.args.ask.now.list all a given w).0) (omega (arith, shown.remaining_is_same))

pub returns-then-not-is_withheld-clause-passed : goal.returns-then-not-is_withheld-clause-passed
returns-then-not-is_withheld-clause-passed g c =
    let shown = c.in_ok-marks.ensures.shown in
    none_passed (λ returned all a given w. (shown.gives_next_marks returned c.args.ask.now.list all a given w).0) (omega (arith, shown.remaining_is_same))

pub returns-clause-passed : goal.returns-clause-passed
returns-clause-passed g c =
    let withheld : c.is_withheld.result ≡ true = cc in
    one_passed c.pass.new.walk (rw c.in-Some.is at c.in_ok-marks.ensures.shown) c.pass.ensures.passed c.pass.ensures.left c.weighed.ensures (λ m is. sym withheld ∙ c.is_withheld.ensures m is)
