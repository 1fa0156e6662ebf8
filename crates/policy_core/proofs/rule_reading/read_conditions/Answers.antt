use Rattle.std.proofs.Common.{◌∙◌, ◌++◌, map, refl, sym, ap, arith}
use Rattle.std.proofs.lemmas.Result.{err_from_is_err_and}
use Rattle.std.proofs.lemmas.List.{drop_all, append-nil}
use Rattle.policy_core.specs.Stated.{stated_condition}
use Rattle.policy_core.specs.Written.{condition_keys, conditions_refusal, conditions_of}
use Rattle.policy_core.proofs.TreeLemmas.{key_missing, key_refused, key_read, more_conditions}
use Rattle.policy_core.proofs.rule_reading.read_conditions.Goals as goal
use Rattle.policy_core.proofs.rule_reading.read_conditions.Goals.{in-Some+in_ok-condition+in_ok-push, in_default}

pub returns-in_err-condition : goal.returns-in_err-condition
returns-in_err-condition c =
    let p = err_from_is_err_and c.from_residual.result c.from_residual.ensures.1 in
    rw (p.1, p.2)
    (λ memory. c.loop-key.invariant.0
    ∙ key_refused c.args.number _ condition_keys c.loop-key.key-index _ _ _ _ c.loop-key-test.true c.word.ensures c.in-Some.ensures (c.in_err-condition.ensures memory))

pub loop-key-preserved : goal.loop-key-preserved
loop-key-preserved c =
    elim c.match-at.branch [
      | in-Some+in_ok-condition+in_ok-push w ↦
          let read = key_read c.args.number _ condition_keys c.loop-key.key-index _ _ _ _ c.loop-key-test.true c.word.ensures w.in-Some.ensures w.in_ok-condition.ensures in
          let after = ap (λ v. v.items) w.conditions-is ∙ w.in_ok-push.ensures.items in
          (c.loop-key.invariant.0 ∙ read.0, more_conditions _ _ _ _ _ (c.loop-key.invariant.1 ∙ ap (λ rest. map stated_condition c.loop-key.conditions.items ++ rest) read.1) after)
      | in_default w ↦
          let missing = key_missing c.args.number _ condition_keys c.loop-key.key-index _ _ c.loop-key-test.true c.word.ensures w.in_default.ensures in
          rw (w.conditions-is, ← missing.0, ← missing.1) c.loop-key.invariant
    ]

pub returns : goal.returns
unfolding conditions_refusal conditions_of
returns c =
    let none = drop_all c.loop-key.key-index condition_keys (omega arith) in
    (c.loop-key.invariant.0 ∙ rw none refl, sym (c.loop-key.invariant.1 ∙ rw none (append-nil (map stated_condition c.loop-key.conditions.items))))
