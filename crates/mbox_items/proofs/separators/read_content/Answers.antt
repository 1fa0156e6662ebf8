use Rattle.std.proofs.Common.{◌∙◌, sym}
use Rattle.mbox_items.proofs.SeparatorLemmas.{not_begun, begun_by}
use Rattle.mbox_items.proofs.separators.read_content.Goals as goal

pub returns-in_err-after : goal.returns-in_err-after
returns-in_err-after c = c.from_residual.ensures ∙ sym (not_begun c.args.content.now c.in_err-after.ensures.cases)

pub returns : goal.returns
returns c = c.read_tokens.ensures ∙ sym (begun_by c.args.content.now c.in_ok-after.after.now c.in_ok-after.ensures.cases.0 c.in_ok-after.ensures.cases.1)
