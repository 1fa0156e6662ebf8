use Rattle.std.proofs.Common.{◌∙◌, sym, ap}
use Rattle.subject_core.specs.Removal.{after_spaces}
use Rattle.subject_core.proofs.Steps.{spaces-end, spaces-more, spaces-done, empty}
use Rattle.subject_core.proofs.pieces.after_spaces.Goals as goal

pub loop-first-preserved : goal.loop-first-preserved
loop-first-preserved c =
    sym (spaces-more c.in-Some.first.now c.in-Some.others.now c.if-first-ne32.false)
    ∙ ap after_spaces (sym c.in-Some.ensures.cases.0) ∙ c.loop-first.invariant

pub returns-then-first-ne32 : goal.returns-then-first-ne32
returns-then-first-ne32 c =
    c.in-Some.ensures.cases.0
    ∙ sym (spaces-done c.in-Some.first.now c.in-Some.others.now c.if-first-ne32.true)
    ∙ ap after_spaces (sym c.in-Some.ensures.cases.0) ∙ c.loop-first.invariant

pub returns-in_default : goal.returns-in_default
returns-in_default c =
    empty c.loop-first.rest.now c.in_default.ensures.cases ∙ sym spaces-end
    ∙ ap after_spaces (sym (empty c.loop-first.rest.now c.in_default.ensures.cases)) ∙ c.loop-first.invariant
