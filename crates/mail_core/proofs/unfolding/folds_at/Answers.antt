use Rattle.std.proofs.Common.{sym}
use Rattle.mail_core.proofs.AuthorLemmas.{folds-last}
use Rattle.mail_core.proofs.unfolding.folds_at.Goals as goal

pub returns-then-at-text-2 : goal.returns-then-at-text-2
returns-then-at-text-2 c = sym (folds-last c.args.text.now c.args.at c.if-at-text.false c.if-at-text-2.true)
