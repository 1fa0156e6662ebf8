use Rattle.std.proofs.Common.{◌∙◌, ℕ, ◌<◌, arith}
use Rattle.subject_core.proofs.Parts.{moved_part}
use Rattle.subject_core.proofs.reading.keep_lower.Goals as goal

pub returns : goal.returns
returns c =
    c.truncate.ensures.items
    ∙ moved_part c.loop-at.text.items c.args.text.now.items c.args.from c.args.len (omega arith) c.loop-at.invariant.long
    (λ (k : ℕ) (h : k < c.args.len). c.loop-at.invariant.moved k (omega arith))
