use Rattle.std.proofs.Common.{◌+◌, ◌∙◌, ap, sym, arith, Bool, drop}
use Rattle.mail_core.specs.Quotes.{after_closing_quote}
use Rattle.mail_core.proofs.QuoteLemmas.{at-quoted, at-ending, at-escape, at-plain, at-past}
use Rattle.mail_core.proofs.quotes.quote_end.Goals as goal

pub loop-at-preserved-then-quoted : goal.loop-at-preserved-then-quoted
loop-at-preserved-then-quoted c = record {
  begun = omega arith;
  place = omega arith;
  same = sym (at-quoted c.args.text.now c.loop-at.at c.loop-at-test.true) ∙ ap (λ (q : Bool). after_closing_quote q (drop c.loop-at.at c.args.text.now)) (sym c.if-quoted.true) ∙
      c.loop-at.invariant.same;
}

pub returns-then-byte-eq34 : goal.returns-then-byte-eq34
returns-then-byte-eq34 c = (
  omega arith,
  omega arith,
  sym c.loop-at.invariant.same ∙ ap (λ (q : Bool). after_closing_quote q (drop c.loop-at.at c.args.text.now)) c.if-quoted.false ∙ at-ending c.args.text.now c.loop-at.at
      c.loop-at-test.true c.if-byte-eq34.true,
)

pub loop-at-preserved-then-byte-eq92 : goal.loop-at-preserved-then-byte-eq92
loop-at-preserved-then-byte-eq92 c = record {
  begun = omega arith;
  place = omega arith;
  same = sym (at-escape c.args.text.now c.loop-at.at c.loop-at-test.true c.if-byte-eq92.true) ∙ ap (λ (q : Bool). after_closing_quote q (drop c.loop-at.at c.args.text.now))
      (sym c.if-quoted.false) ∙ c.loop-at.invariant.same;
}

pub loop-at-preserved : goal.loop-at-preserved
loop-at-preserved c = record {
  begun = omega arith;
  place = omega arith;
  same = ap (λ (q : Bool). after_closing_quote q (drop (c.loop-at.at + 1) c.args.text.now)) c.if-quoted.false
      ∙ sym (at-plain c.args.text.now c.loop-at.at c.loop-at-test.true c.if-byte-eq34.false c.if-byte-eq92.false)
      ∙ ap (λ (q : Bool). after_closing_quote q (drop c.loop-at.at c.args.text.now)) (sym c.if-quoted.false) ∙ c.loop-at.invariant.same;
}

pub returns : goal.returns
returns c = sym c.loop-at.invariant.same ∙ at-past c.args.text.now c.loop-at.quoted c.loop-at.at c.loop-at-test.false
