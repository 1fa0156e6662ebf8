use Rattle.std.proofs.Common.{◌≢◌, length, arith, add-one}
use Rattle.mail_core.proofs.LineLemmas.{lines-cut, lines-whole}
use Rattle.mail_core.proofs.lines.line_end.Goals as goal

pub returns-in-Some-clause-cuts : goal.returns-in-Some-clause-cuts
returns-in-Some-clause-cuts c =
    let h = c.in-Some.ensures in
    rw add-one (lines-cut c.args.text.now c.in-Some.at h.0.high (λ k lt e. h.0.before k (omega arith) lt e) h.1)

pub returns-in-None-clause-cuts : goal.returns-in-None-clause-cuts
returns-in-None-clause-cuts c =
    let some : length c.args.text.now ≢ 0 = omega (arith, c.requires) in
    lines-whole c.args.text.now some (λ k lt e. c.in-None.ensures k (omega arith) lt e)
