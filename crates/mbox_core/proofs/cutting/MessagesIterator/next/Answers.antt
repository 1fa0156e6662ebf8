use Rattle.std.proofs.Common.{List, ℕ, sym, subst}
use Rattle.mail_core.specs.Lines.{lines}
use Rattle.mbox_items.specs.Division.{NoneSeparates, whole}
use Rattle.mbox_items.proofs.ItemLemmas.{none_in_text, whole_none}
use Rattle.mbox_core.proofs.cutting.MessagesIterator.next.Goals as goal

pub invariant_of-result : goal.invariant_of-result
invariant_of-result c = (
  c.ends_with_newline-complete.ensures,
  subst (λ (x : List ℕ). NoneSeparates (lines (whole x))) (sym c.next_part-part.ensures.text) (whole_none _ (none_in_text c.self.inside.rest.now)),
)
