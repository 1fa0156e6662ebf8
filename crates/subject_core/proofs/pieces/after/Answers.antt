use Rattle.std.proofs.Common.{◌∙◌, sym, get_or}
use Rattle.subject_core.proofs.Steps.{letter-same, letter-other, letter-past, letter-end}
use Rattle.subject_core.proofs.pieces.after.Goals as goal

pub returns-in_default : goal.returns-in_default
returns-in_default c = sym c.loop-letter.invariant ∙ letter-past c.args.literal.now c.loop-letter.rest.now c.loop-letter.letter-index c.loop-letter-test.true c.in_default.ensures.cases

pub returns-then-to_ascii_lowercase-letter : goal.returns-then-to_ascii_lowercase-letter
returns-then-to_ascii_lowercase-letter c =
    sym c.loop-letter.invariant
    ∙ letter-other c.args.literal.now c.loop-letter.rest.now c.in-Some.others.now c.loop-letter.letter-index c.in-Some.first.now
    (get_or c.args.literal.now c.loop-letter.letter-index 0) c.loop-letter-test.true (λ i. get_or c.args.literal.now c.loop-letter.letter-index 0) c.in-Some.ensures.cases.0
    (λ h. c.if-to_ascii_lowercase-letter.true (c.to_ascii_lowercase.ensures.value ∙ h))

pub loop-letter-preserved : goal.loop-letter-preserved
loop-letter-preserved c =
    sym (letter-same c.args.literal.now c.loop-letter.rest.now c.in-Some.others.now c.loop-letter.letter-index c.in-Some.first.now
    (get_or c.args.literal.now c.loop-letter.letter-index 0) c.loop-letter-test.true (λ i. get_or c.args.literal.now c.loop-letter.letter-index 0) c.in-Some.ensures.cases.0
    (sym c.to_ascii_lowercase.ensures.value ∙ c.if-to_ascii_lowercase-letter.false))
    ∙ c.loop-letter.invariant

pub returns : goal.returns
returns c = sym c.loop-letter.invariant ∙ letter-end c.args.literal.now c.loop-letter.rest.now c.loop-letter.letter-index c.loop-letter-test.false
