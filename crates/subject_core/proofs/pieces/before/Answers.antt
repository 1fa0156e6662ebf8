use Rattle.std.proofs.Common.{◌∙◌, ap, arith}
use Rattle.subject_core.specs.Removal.{before_literal}
use Rattle.subject_core.proofs.Literals.{before-short, before-end, before-not_end}
use Rattle.subject_core.proofs.pieces.before.Goals as goal

pub returns-then-text-literal : goal.returns-then-text-literal
returns-then-text-literal c = before-short c.args.literal.now c.args.text.now c.if-text-literal.true

pub returns-in_default : goal.returns-in_default
returns-in_default c =
    ap (before_literal c.args.literal.now) c.split_at.ensures.by_index.0
    ∙ before-not_end c.args.literal.now c.split_at.result.0.now c.split_at.result.1.now (omega arith) c.in_default.ensures

pub returns : goal.returns
returns c =
    ap (before_literal c.args.literal.now) c.split_at.ensures.by_index.0
    ∙ before-end c.args.literal.now c.split_at.result.0.now c.split_at.result.1.now c.in-Some.field-0.now (omega arith) c.in-Some.ensures
