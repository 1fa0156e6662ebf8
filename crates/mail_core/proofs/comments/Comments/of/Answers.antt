use Rattle.std.proofs.Common.{length, arith, ◌∙◌, sym}
use Rattle.mail_core.proofs.CommentTable.{closings-none}
use Rattle.mail_core.proofs.comments.Comments.of.Goals as goal

pub invariant_of-result : goal.invariant_of-result
invariant_of-result c = (omega arith, c.new.ensures.items ∙ sym (closings-none c.args.text.now (length c.args.text.now) (omega arith)))
