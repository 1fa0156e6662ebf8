use Rattle.std.proofs.Common.{◌∙◌}
use Rattle.subject_core.proofs.OneBase.{part_found}
use Rattle.subject_core.proofs.reading.base.Goals as goal

pub returns-clause-is_base : goal.returns-clause-is_base
returns-clause-is_base c =
    part_found c.args.subject.now c.in_ok-text.text.items c.new.result c.kept-part.result.from c.kept-part.result.len c.kept-part.result.reply c.in_ok-text.ensures
    (rw c.deref.ensures.value at c.kept-part.ensures.same) (c.new.ensures ∙ c.keep_lower.ensures)
