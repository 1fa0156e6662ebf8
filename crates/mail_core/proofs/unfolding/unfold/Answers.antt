use Rattle.std.proofs.Common.{◌+◌, ◌∙◌, ◌++◌, ◌∷◌, [], sym, ap, drop, get_or, List, ℕ, append_assoc, append-nil}
use Rattle.mail_core.specs.Fields.{unfolded}
use Rattle.mail_core.proofs.AuthorLemmas.{unfolded-drops, unfolded-keeps, unfolded-over}
use Rattle.mail_core.proofs.unfolding.unfold.Goals as goal

pub loop-at-preserved-then-is_fold_at : goal.loop-at-preserved-then-is_fold_at
loop-at-preserved-then-is_fold_at c =
    ap (λ (l : List ℕ). c.loop-at.bytes.items ++ l) (sym (unfolded-drops c.args.text.now c.loop-at.at c.loop-at-test.true (sym c.if-is_fold_at.ensures))) ∙ c.loop-at.invariant

pub loop-at-preserved : goal.loop-at-preserved
loop-at-preserved c =
    let rest : List ℕ = unfolded (drop (c.loop-at.at + 1) c.args.text.now) in
    ap (λ (l : List ℕ). l ++ rest) c.in_ok-push.ensures.items
    ∙ append_assoc c.loop-at.bytes.items (get_or c.args.text.now c.loop-at.at 0 ∷ []) rest
    ∙ ap (λ (l : List ℕ). c.loop-at.bytes.items ++ l) (sym (unfolded-keeps c.args.text.now c.loop-at.at c.loop-at-test.true (sym c.if-is_fold_at.ensures)))
    ∙ c.loop-at.invariant

pub returns : goal.returns
returns c =
    sym (append-nil c.loop-at.bytes.items)
    ∙ ap (λ (l : List ℕ). c.loop-at.bytes.items ++ l) (sym (unfolded-over c.args.text.now c.loop-at.at c.loop-at-test.false))
    ∙ c.loop-at.invariant
