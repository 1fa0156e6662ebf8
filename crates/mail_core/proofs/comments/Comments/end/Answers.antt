use Rattle.std.proofs.Common.{◌≡◌, ◌≤◌, ℕ, List, length, drop, length-drop, arith, ap, ◌∙◌, sym, subst}
use Rattle.std.proofs.lemmas.List.{take_rest}
use Rattle.mail_core.specs.Closings.{comment_closed_flags}
use Rattle.mail_core.specs.declared.comments.Comments.TheInside.{Inside}
use Rattle.mail_core.proofs.CommentTable.{closings-length, not_closed}
use Rattle.mail_core.proofs.comments.Comments.end.Goals.{then-at-self+in_ok-self-inside, else-at-self, then-index, else-index}
use Rattle.mail_core.proofs.comments.Comments.end.Goals as goal

-- the table reaches back to a place at least
abbrev Reaches : List ℕ → ℕ → Inside → Type 0
Reaches text at s = (s.text.now ≡ text) × (s.from ≤ at) × (s.closed.items ≡ comment_closed_flags (drop s.from text))

pub index-requires : goal.index-requires
index-requires c =
    let P : Inside → Type 0 = Reaches c.args.self.now c.args.at in
    let known : P c.if-at-self.self-inside =
    elim c.if-at-self.branch [
      | then-at-self+in_ok-self-inside w ↦ subst P (sym w.self-inside-is) (
        c.self.view_is,
        omega arith,
        w.in_ok-self-inside.ensures ∙ ap comment_closed_flags (take_rest c.self.inside.text.now c.args.at) ∙ ap (λ (t : List ℕ). comment_closed_flags (drop c.args.at t)) c.self.view_is,
      )
      | else-at-self w ↦ subst P (sym w.self-inside-is) (
        c.self.view_is,
        w.if-at-self.false,
        c.self.invariant.1 ∙ ap (λ (t : List ℕ). comment_closed_flags (drop c.self.inside.from t)) c.self.view_is,
      )
    ]
    in
    let from : ℕ = c.if-at-self.self-inside.from in
    omega (
      arith,
      c.requires,
      known.1,
      ap length known.0,
      ap length known.2,
      closings-length (drop from c.args.self.now),
      length-drop from c.args.self.now,
    )

pub returns-clause-end : goal.returns-clause-end
returns-clause-end c =
    let P : Inside → Type 0 = Reaches c.args.self.now c.args.at in
    let known : P c.if-at-self.self-inside =
    elim c.if-at-self.branch [
      | then-at-self+in_ok-self-inside w ↦ subst P (sym w.self-inside-is) (
        c.self.view_is,
        omega arith,
        w.in_ok-self-inside.ensures ∙ ap comment_closed_flags (take_rest c.self.inside.text.now c.args.at) ∙ ap (λ (t : List ℕ). comment_closed_flags (drop c.args.at t)) c.self.view_is,
      )
      | else-at-self w ↦ subst P (sym w.self-inside-is) (
        c.self.view_is,
        w.if-at-self.false,
        c.self.invariant.1 ∙ ap (λ (t : List ℕ). comment_closed_flags (drop c.self.inside.from t)) c.self.view_is,
      )
    ]
    in
    let s : Inside = c.if-at-self.self-inside in
    elim c.if-index.branch [
      | then-index w ↦ rw w.result-is (rw known.0 at w.comment_end.ensures)
      | else-index w ↦
          let mark = rw known.0 at c.index.ensures in
          rw w.result-is (not_closed c.args.self.now s.closed.items s.from c.args.at c.index.result.now known.2 known.1 c.requires (sym mark ∙ w.if-index.false))
    ]
