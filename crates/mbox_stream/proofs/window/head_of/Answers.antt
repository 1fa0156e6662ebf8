use Rattle.std.proofs.Common.{List, ℕ, sym, subst}
use Rattle.mbox_core.specs.Division.{NoneSeparates}
use Rattle.mbox_items.proofs.LineLemmas.{lines-nil}
use Rattle.mbox_stream.proofs.window.head_of.Goals as goal

pub invariant_of-of : goal.invariant_of-of
invariant_of-of c = (c.ends_with_newline-complete.ensures, subst (λ (x : List (List ℕ)). NoneSeparates x) (sym lines-nil) tt)
