use Rattle.std.proofs.Common.{rules}
use Rattle.mbox_core.proofs.WritingLemmas.{short_is}
use Rattle.mbox_core.proofs.writing.short_line.Goals as goal

pub returns : goal.returns
returns c =
    short_is c.args.sender.now c.args.end _ c.copy_at.new.line c.copy_at-2.new.line c.copy_at-3.new.line (search rules) c.copy_at.ensures c.copy_at-2.ensures c.copy_at-3.ensures
