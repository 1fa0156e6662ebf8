use Rattle.std.proofs.Common.{◌≡◌, ◌∷◌, ℕ, List, true, false, ◌++◌, length, take, drop, codes, arith, ap, ◌∙◌, sym}
use Rattle.std.specs.Str.{bytes_eq}
use Rattle.mbox_items.specs.Separator.{is_sender_token}
use Rattle.mbox_items.proofs.SenderLemmas.{space_at, cut_at}
use Rattle.mbox_items.proofs.senders.tokens_around_at.Goals.{else-is_sender_token-via-then-is_sender_token+else-is_sender_token-2, else-is_sender_token-via-else-is_sender_token}
use Rattle.mbox_items.proofs.senders.tokens_around_at.Goals as goal

pub returns-in_err-memchr-clause-none : goal.returns-in_err-memchr-clause-none
returns-in_err-memchr-clause-none c = rw c.from_residual.ensures (λ left right l r e.
    let s = space_at c.args.text.now left (codes "at" ++ 32 ∷ right) e in
    c.in_err-memchr.ensures (length left) (omega arith) s.0 s.1)

pub returns-in_err-right-clause-none : goal.returns-in_err-right-clause-none
returns-in_err-right-clause-none c = rw c.from_residual-in_err-right.ensures (λ left right l r e.
    let at = c.in_ok-memchr.ensures in
    let cut = cut_at c.args.text.now left right c.in_ok-memchr.field-0 e l (λ k lt h. at.0.before k (omega arith) lt h) at.1 in
    let rest : c.split_at.result.1.now ≡ codes " at " ++ right = c.split_at.ensures.back ∙ cut.1 in
    let bad : true ≡ false = ap (λ (x : List ℕ). bytes_eq (take 4 x) (codes " at ")) (sym rest) ∙ c.in_err-right.ensures.cases in
    absurd (cc))

pub returns-else-is_sender_token-clause-none : goal.returns-else-is_sender_token-clause-none
returns-else-is_sender_token-clause-none c = λ left right l r e.
    let at = c.in_ok-memchr.ensures in
    let cut = cut_at c.args.text.now left right c.in_ok-memchr.field-0 e l (λ k lt h. at.0.before k (omega arith) lt h) at.1 in
    let front : c.split_at.result.0.now ≡ left = c.split_at.ensures.front ∙ cut.0 in
    let back : c.in_ok-right.right.now ≡ right = c.in_ok-right.ensures.cases.1 ∙ ap (drop 4) (c.split_at.ensures.back ∙ cut.1) in
    elim c.else-is_sender_token.branch [
      | else-is_sender_token-via-then-is_sender_token+else-is_sender_token-2 w ↦
          let bad : true ≡ false = sym (ap is_sender_token back ∙ r) ∙ sym w.is_sender_token-then-is_sender_token.ensures ∙ w.if-is_sender_token-2.false in absurd (cc)
      | else-is_sender_token-via-else-is_sender_token w ↦
          let bad : true ≡ false = sym (ap is_sender_token front ∙ l) ∙ sym c.is_sender_token.ensures ∙ w.if-is_sender_token.false in absurd (cc)
    ]
