use Rattle.mbox_items.proofs.ItemLemmas.{whole_none}
use Rattle.mbox_stream.proofs.window.message.Goals as goal

pub invariant_of-of : goal.invariant_of-of
invariant_of-of c = (c.ends_with_newline-complete.ensures, whole_none c.args.text.now c.requires)
