use Rattle.std.proofs.Common.{◌≡◌, ◌<◌, sym, arith, drop, None, ◌⊎◌, inl, inr}
use Rattle.mail_core.specs.MsgIds.{nonempty_id_right}
use Rattle.mail_core.proofs.SideLemmas.{right_at-found, right_at-none, right_at-nothing}
use Rattle.mail_core.proofs.id_sides.right_end.Goals as goal

pub returns-then-at-from : goal.returns-then-at-from
returns-then-at-from c = right_at-nothing c.args.text.now c.args.from (λ g. rw c.if-at-from.true at (sym c.if-not-right_byte.ensures))

pub returns-then-byte-ne62 : goal.returns-then-byte-ne62
returns-then-byte-ne62 c =
    right_at-none c.args.text.now c.args.from c.loop-at.at (omega arith) c.loop-at.invariant.place c.loop-at.invariant.run
    (λ g. (sym c.if-not-right_byte.ensures, c.if-byte-ne62.true))

pub returns-then-not-right_byte : goal.returns-then-not-right_byte
returns-then-not-right_byte c = (
  omega arith,
  c.loop-at-test.true,
  right_at-found c.args.text.now c.args.from c.loop-at.at (omega arith) c.loop-at-test.true c.loop-at.invariant.run c.if-byte-ne62.false,
)

pub returns : goal.returns
returns c = go (let x : (c.args.from < c.loop-at.at) ⊎ (c.loop-at.at ≡ c.args.from) = grind arith in x)
  where
    go : (c.args.from < c.loop-at.at) ⊎ (c.loop-at.at ≡ c.args.from) → nonempty_id_right (drop c.args.from c.args.text.now) ≡ None
    go (inl lt) = right_at-none c.args.text.now c.args.from c.loop-at.at lt c.loop-at.invariant.place c.loop-at.invariant.run (λ g. absurd (let over = c.loop-at-test.false in omega (arith, g, over)))
    go (inr e) = right_at-nothing c.args.text.now c.args.from (λ g. absurd (let over = c.loop-at-test.false in omega (arith, g, over, e)))
