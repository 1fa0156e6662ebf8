use Rattle.std.proofs.Common.{◌∙◌, sym, ap}
use Rattle.subject_core.specs.Removal.{after_closing_bracket}
use Rattle.subject_core.proofs.Steps.{closing-end, closing-here, closing-opened, closing-more, empty}
use Rattle.subject_core.proofs.pieces.after_closing.Goals as goal

pub returns-then-first-eq93 : goal.returns-then-first-eq93
returns-then-first-eq93 c =
    sym c.loop-first.invariant ∙ ap after_closing_bracket c.in-Some.ensures.cases.0 ∙ closing-here c.in-Some.first.now c.in-Some.others.now c.if-first-eq93.true

pub returns-then-first-eq91 : goal.returns-then-first-eq91
returns-then-first-eq91 c =
    sym c.loop-first.invariant ∙ ap after_closing_bracket c.in-Some.ensures.cases.0 ∙ closing-opened c.in-Some.first.now c.in-Some.others.now c.if-first-eq91.true

pub loop-first-preserved : goal.loop-first-preserved
loop-first-preserved c =
    sym (closing-more c.in-Some.first.now c.in-Some.others.now c.if-first-eq91.false c.if-first-eq93.false)
    ∙ ap after_closing_bracket (sym c.in-Some.ensures.cases.0) ∙ c.loop-first.invariant

pub returns : goal.returns
returns c = sym c.loop-first.invariant ∙ ap after_closing_bracket (empty c.loop-first.rest.now c.in_default.ensures.cases) ∙ closing-end
