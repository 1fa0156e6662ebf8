use Rattle.std.proofs.Common.{◌≡◌, ℕ, List, [], ◌++◌, sym, subst, ap, ◌∙◌, refl}
use Rattle.mbox_stream.specs.Stream.{settled_bytes, settled_items, IsSettledPreamble}
use Rattle.mbox_stream.proofs.StreamLaws.{settled_nothing, no_preamble}
use Rattle.mbox_stream.proofs.WindowLemmas.{settled_nil}
use Rattle.mbox_stream.proofs.KeptLemmas.{unopened_nothing}
use Rattle.mbox_stream.proofs.cutter.Cutter.new.Goals as goal

pub invariant_of-result : goal.invariant_of-result
invariant_of-result c =
    let nothing : c.new-2.result.items ++ c.new-3.result.items ≡ [] = ap (λ xs. xs ++ c.new-3.result.items) c.new-2.ensures ∙ c.new-3.ensures.items in (
      (
        nothing ∙ sym (ap settled_items c.new.ensures ∙ settled_nothing),
        λ offset p. no_preamble offset (subst (λ (s : List ℕ). IsSettledPreamble s offset) c.new.ensures p),
      ),
      (
        refl,
        unopened_nothing c.new.result.bytes c.new-4.result.items (c.new-2.result.items ++ c.new-3.result.items) c.new.ensures c.new-4.ensures.items nothing,
        ap settled_bytes c.new-4.ensures.items ∙ settled_nil,
      ),
    )

pub returns-clause-given : goal.returns-clause-given
returns-clause-given c =
    let nothing : c.new-2.result.items ++ c.new-3.result.items ≡ [] = ap (λ xs. xs ++ c.new-3.result.items) c.new-2.ensures ∙ c.new-3.ensures.items in (
      nothing ∙ sym (ap settled_items c.new.ensures ∙ settled_nothing),
      λ offset p. no_preamble offset (subst (λ (s : List ℕ). IsSettledPreamble s offset) c.new.ensures p),
    )
