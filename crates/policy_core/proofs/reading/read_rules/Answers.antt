use Rattle.std.proofs.Common.{◌≡◌, ◌+◌, refl, ◌∙◌, sym, ap, length, suc, arith}
use Rattle.std.proofs.lemmas.Result.{err_from_is_err_and}
use Rattle.std.proofs.lemmas.List.{drop_all, append-nil}
use Rattle.toml.specs.View.{table_view}
use Rattle.policy_core.specs.Written.{rules_refusal}
use Rattle.policy_core.proofs.TreeLemmas.{tables_at, tables_over, rules_stop, more_refusals, more_rules}
use Rattle.policy_core.proofs.reading.read_rules.Goals as goal
use Rattle.policy_core.proofs.reading.read_rules.Goals.{in-Some+in_ok-rule+in_ok-push, in_default}

pub returns-in_err-rule : goal.returns-in_err-rule
returns-in_err-rule c =
    let p = err_from_is_err_and c.from_residual.result c.from_residual.ensures.1 in
    let next = tables_at c.args.values.now c.loop-value.value-index c.value-item.result (table_view c.in-Some.keys.now) (omega arith) c.value-item.is (sym c.in-Some.ensures) in
    let number : c.len.result + 1 ≡ suc (length c.loop-value.rules.items) = omega arith in
    rw (p.1, p.2)
    (λ memory. c.loop-value.invariant.0 ∙ rw next (rules_stop _ _ _ _ _ (rw (← number, ← c.deref.ensures.value) (c.in_err-rule.ensures memory))))

pub loop-value-preserved : goal.loop-value-preserved
loop-value-preserved c =
    elim c.match-as_table.branch [
      | in-Some+in_ok-rule+in_ok-push w ↦
          let next = tables_at c.args.values.now c.loop-value.value-index c.value-item.result (table_view w.in-Some.keys.now) (omega arith) c.value-item.is (sym w.in-Some.ensures) in
          let number : w.len.result + 1 ≡ suc (length c.loop-value.rules.items) = omega arith in
          let after = ap (λ v. v.items) w.rules-is ∙ w.in_ok-push.ensures.items in (
            more_refusals _ _ _ _ _ _ (c.loop-value.invariant.0 ∙ rw next refl) (rw (← number, ← w.deref.ensures.value) w.in_ok-rule.ensures.0) w.in_ok-rule.ensures.1 after,
            more_rules _ _ _ _ _ _ (c.loop-value.invariant.1 ∙ rw next refl) w.in_ok-rule.ensures.1 after,
          )
      | in_default w ↦
          let next = tables_over c.args.values.now c.loop-value.value-index c.value-item.result (omega arith) c.value-item.is (sym w.in_default.ensures) in
          rw (w.rules-is, ← next) c.loop-value.invariant
    ]

pub returns : goal.returns
unfolding rules_refusal
returns c =
    let none = drop_all c.loop-value.value-index c.args.values.now (omega arith) in
    (c.loop-value.invariant.0 ∙ rw none refl, sym (c.loop-value.invariant.1 ∙ rw none (append-nil c.loop-value.rules.items)))
