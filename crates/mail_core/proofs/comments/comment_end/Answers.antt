use Rattle.std.proofs.Common.{◌+◌, ◌-◌, ◌∙◌, sym, arith, drop, true, false}
use Rattle.mail_core.specs.Comments.{after_closing_paren}
use Rattle.mail_core.proofs.CommentCounts.{count-quoted, count-opening, count-closing, count-done, count-backslash, count-ordinary, count-past, at-flag}
use Rattle.mail_core.proofs.comments.comment_end.Goals as goal

pub loop-at-preserved-then-quoted : goal.loop-at-preserved-then-quoted
loop-at-preserved-then-quoted c = record {
  begun = omega arith;
  place = omega arith;
  open_still = omega arith;
  shallow = omega arith;
  same = sym (count-quoted c.args.text.now c.loop-at.at c.loop-at.depth c.loop-at.invariant.open_still c.loop-at-test.true) ∙ at-flag c.loop-at.quoted true c.loop-at.depth
      (drop c.loop-at.at c.args.text.now) (after_closing_paren false 1 (drop c.args.from c.args.text.now)) c.if-quoted.true c.loop-at.invariant.same;
}

pub loop-at-preserved-then-byte-eq92 : goal.loop-at-preserved-then-byte-eq92
loop-at-preserved-then-byte-eq92 c = record {
  begun = omega arith;
  place = omega arith;
  open_still = omega arith;
  shallow = omega arith;
  same = sym (count-backslash c.args.text.now c.loop-at.at c.loop-at.depth c.loop-at.invariant.open_still c.loop-at-test.true c.if-byte-eq92.true)
      ∙ at-flag c.loop-at.quoted false c.loop-at.depth (drop c.loop-at.at c.args.text.now) (after_closing_paren false 1 (drop c.args.from c.args.text.now)) c.if-quoted.false c.loop-at.invariant.same;
}

pub loop-at-preserved-then-byte-eq40 : goal.loop-at-preserved-then-byte-eq40
loop-at-preserved-then-byte-eq40 c = record {
  begun = omega arith;
  place = omega arith;
  open_still = omega arith;
  shallow = omega arith;
  same = at-flag false c.loop-at.quoted (c.loop-at.depth + 1) (drop (c.loop-at.at + 1) c.args.text.now) (after_closing_paren false 1 (drop c.args.from c.args.text.now))
      (sym c.if-quoted.false) (sym (count-opening c.args.text.now c.loop-at.at c.loop-at.depth c.loop-at.invariant.open_still c.loop-at-test.true c.if-byte-eq40.true)
      ∙ at-flag c.loop-at.quoted false c.loop-at.depth (drop c.loop-at.at c.args.text.now) (after_closing_paren false 1 (drop c.args.from c.args.text.now)) c.if-quoted.false c.loop-at.invariant.same);
}

pub loop-at-preserved-then-byte-eq41 : goal.loop-at-preserved-then-byte-eq41
loop-at-preserved-then-byte-eq41 c = record {
  begun = omega arith;
  place = omega arith;
  open_still = omega arith;
  shallow = omega arith;
  same = at-flag false c.loop-at.quoted (c.loop-at.depth - 1) (drop (c.loop-at.at + 1) c.args.text.now) (after_closing_paren false 1 (drop c.args.from c.args.text.now))
      (sym c.if-quoted.false) (sym (count-closing c.args.text.now c.loop-at.at c.loop-at.depth c.loop-at.invariant.open_still c.loop-at-test.true c.if-byte-eq41.true)
      ∙ at-flag c.loop-at.quoted false c.loop-at.depth (drop c.loop-at.at c.args.text.now) (after_closing_paren false 1 (drop c.args.from c.args.text.now)) c.if-quoted.false c.loop-at.invariant.same);
}

pub loop-at-preserved : goal.loop-at-preserved
loop-at-preserved c = record {
  begun = omega arith;
  place = omega arith;
  open_still = omega arith;
  shallow = omega arith;
  same = at-flag false c.loop-at.quoted c.loop-at.depth (drop (c.loop-at.at + 1) c.args.text.now) (after_closing_paren false 1 (drop c.args.from c.args.text.now))
      (sym c.if-quoted.false) (sym (count-ordinary c.args.text.now c.loop-at.at c.loop-at.depth c.loop-at.invariant.open_still c.loop-at-test.true c.if-byte-eq40.false
      c.if-byte-eq41.false c.if-byte-eq92.false) ∙ at-flag c.loop-at.quoted false c.loop-at.depth (drop c.loop-at.at c.args.text.now)
      (after_closing_paren false 1 (drop c.args.from c.args.text.now)) c.if-quoted.false c.loop-at.invariant.same);
}

pub returns-then-depth-eq1 : goal.returns-then-depth-eq1
returns-then-depth-eq1 c = (
  omega arith,
  omega arith,
  sym (at-flag c.loop-at.quoted false c.loop-at.depth (drop c.loop-at.at c.args.text.now) (after_closing_paren false 1 (drop c.args.from c.args.text.now)) c.if-quoted.false
      c.loop-at.invariant.same) ∙ count-closing c.args.text.now c.loop-at.at c.loop-at.depth c.loop-at.invariant.open_still c.loop-at-test.true c.if-byte-eq41.true
      ∙ count-done c.args.text.now (c.loop-at.at + 1) c.loop-at.depth c.if-depth-eq1.true,
)

pub returns : goal.returns
returns c = sym c.loop-at.invariant.same ∙ count-past c.args.text.now c.loop-at.quoted c.loop-at.at c.loop-at.depth c.loop-at.invariant.open_still c.loop-at-test.false
