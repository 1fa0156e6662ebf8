use Rattle.std.proofs.Common.{sym, arith}
use Rattle.mail_core.proofs.SideLemmas.{divides-more, divides-stop, divides-here}
use Rattle.mail_core.proofs.id_sides.divide.Goals.{then-byte-eq64+in-None, else-byte-eq64}
use Rattle.mail_core.proofs.id_sides.divide.Goals as goal

pub returns-then-not-left_byte : goal.returns-then-not-left_byte
returns-then-not-left_byte c = divides-stop c.args.text.now c.args.from c.loop-at.at (λ g. sym c.if-not-left_byte.ensures) c.loop-at.invariant.left

pub returns-in-Some : goal.returns-in-Some
returns-in-Some c = let x = c.in-Some.ensures in (
  c.loop-at.invariant.begun,
  omega (arith, x.0),
  x.1,
  divides-here c.args.text.now c.args.from c.loop-at.at _ _ c.loop-at-test.true c.if-byte-eq64.true x.2 c.loop-at.invariant.left,
)

pub loop-at-preserved : goal.loop-at-preserved
loop-at-preserved c = record {
  begun = omega arith;
  place = omega arith;
  left = divides-more c.args.text.now c.args.from c.loop-at.at c.loop-at.invariant.begun c.loop-at-test.true (sym c.if-not-left_byte.ensures)
      (λ e. elim c.if-byte-eq64.branch [ then-byte-eq64+in-None w ↦ w.in-None.ensures | else-byte-eq64 w ↦ absurd (w.if-byte-eq64.false e) ])
      c.loop-at.invariant.left;
}

pub returns : goal.returns
returns c = divides-stop c.args.text.now c.args.from c.loop-at.at (λ g. absurd (let over = c.loop-at-test.false in omega (arith, g, over))) c.loop-at.invariant.left
