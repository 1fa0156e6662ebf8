use Rattle.std.proofs.Common.{◌∙◌, refl, sym, ap, ℕ, List, ◌++◌, get_or, drop, false}
use Rattle.subject_core.specs.Spaces.{with_single_spaces}
use Rattle.subject_core.proofs.Spacings.{spaced_behind, begun, after_text, after_first, after_run, ended}
use Rattle.subject_core.proofs.spacing.single_spaced.Goals as goal
use Rattle.subject_core.proofs.spacing.single_spaced.Goals.{then-not-white+in_ok-push, else-not-white+then-not-behind_space+in_ok-push-2, else-not-white+else-not-behind_space}

pub loop-byte-init : goal.loop-byte-init
loop-byte-init c = ap (λ (l : List ℕ). l ++ spaced_behind false (drop 0 c.args.subject.now)) c.in_ok-text.ensures.items ∙ begun c.args.subject.now

pub loop-byte-preserved : goal.loop-byte-preserved
loop-byte-preserved c =
    let t = c.args.subject.now in
    let i = c.loop-byte.byte-index in
    let items = c.loop-byte.text.items in
    elim c.if-not-white.branch [
      | then-not-white+in_ok-push w ↦
          after_text items c.if-not-white.text.items t (with_single_spaces t) c.loop-byte.behind_space c.if-not-white.behind_space i (get_or t i 0) c.loop-byte-test.true (λ j. get_or t i 0)
          (sym c.white.ensures ∙ w.if-not-white.true) (rw w.text-is w.in_ok-push.ensures.items) w.behind_space-is c.loop-byte.invariant
      | else-not-white+then-not-behind_space+in_ok-push-2 w ↦
          after_first items c.if-not-white.text.items t (with_single_spaces t) c.loop-byte.behind_space c.if-not-white.behind_space i (get_or t i 0) c.loop-byte-test.true (λ j. get_or t i 0)
          (sym c.white.ensures ∙ w.if-not-white.false) (rw w.text-is w.in_ok-push-2.ensures.items) w.if-not-behind_space.true w.behind_space-is c.loop-byte.invariant
      | else-not-white+else-not-behind_space w ↦
          after_run items c.if-not-white.text.items t (with_single_spaces t) c.loop-byte.behind_space c.if-not-white.behind_space i (get_or t i 0) c.loop-byte-test.true (λ j. get_or t i 0)
          (sym c.white.ensures ∙ w.if-not-white.false) (rw w.text-is refl) w.if-not-behind_space.false (w.behind_space-is ∙ w.if-not-behind_space.false) c.loop-byte.invariant
    ]

pub returns : goal.returns
returns c = sym (ended c.loop-byte.text.items c.args.subject.now c.loop-byte.behind_space c.loop-byte.byte-index c.loop-byte-test.false) ∙ c.loop-byte.invariant
