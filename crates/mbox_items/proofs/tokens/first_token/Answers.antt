use Rattle.std.proofs.Common.{◌≡◌, ◌≢◌, ◌<◌, ◌==◌, length, ℕ, List, ◌+◌, ◌-◌, true, arith, ap, ◌∙◌, sym, drop, get_or, get_or-drop, length-drop, zero, suc}
use Rattle.std.proofs.lemmas.Bool.{eqb-true}
use Rattle.std.proofs.lemmas.Bool.Decides.{nat_tests}
use Rattle.mbox_items.specs.Separator.{tokens}
use Rattle.mbox_items.proofs.TokenLemmas.{tokens-cut, space_more, tokens_none}
use Rattle.mbox_items.proofs.tokens.first_token.Goals.{then-loop-at-test+else-text-at-eq32, else-loop-at-test, in-Some, in-None}
use Rattle.mbox_items.proofs.tokens.first_token.Goals as goal

pub loop-at-preserved : goal.loop-at-preserved
loop-at-preserved c = (omega arith, c.loop-at.invariant.1 ∙ space_more c.args.text.now c.loop-at.at c.loop-at-test.true c.if-text-at-eq32.true)

pub returns-then-is_empty : goal.returns-then-is_empty
returns-then-is_empty c =
    let none : length c.split_at.result.1.now ≡ 0 = grind (arith, nat_tests, c.if-is_empty.true, c.is_empty.ensures) in
    c.loop-at.invariant.1 ∙ ap tokens (sym c.split_at.ensures.back) ∙ tokens_none c.split_at.result.1.now none

first_is : (xs : List ℕ) (at : ℕ) → get_or xs at 0 ≢ 32 → get_or (drop at xs) 0 0 ≢ 32
first_is xs at h e = h (ap (λ n. get_or xs n 0) (let z : at ≡ at + 0 = omega arith in z) ∙ sym (get_or-drop at xs 0 0) ∙ e)

some_first : (xs : List ℕ) (n : ℕ) → get_or xs 0 0 ≢ 32 → (get_or xs n 0 == 32) ≡ true → 0 < n
some_first xs zero h e = absurd (h (eqb-true (get_or xs 0 0) 32 e))
some_first xs (suc n) h e = omega arith

pub returns : goal.returns
returns c =
    let xs = c.split_at.result.1.now in
    let some : length xs ≢ 0 = grind (arith, nat_tests, c.if-is_empty.false, c.is_empty.ensures) in
    let len : length xs ≡ length c.args.text.now - c.loop-at.at = ap length c.split_at.ensures.back ∙ length-drop c.loop-at.at c.args.text.now in
    let first : get_or xs 0 0 ≢ 32 = rw c.split_at.ensures.back (elim c.loop-at-test.branch [
      | then-loop-at-test+else-text-at-eq32 w ↦ first_is c.args.text.now c.loop-at.at w.if-text-at-eq32.false
      | else-loop-at-test w ↦ absurd (omega arith)
    ]) in
    c.loop-at.invariant.1 ∙ ap tokens (sym c.split_at.ensures.back) ∙ rw (c.split_at-2.ensures.front, c.split_at-2.ensures.back)
    (elim c.match-memchr.branch [
      | in-Some w ↦ let h = w.in-Some.ensures in rw w.end-is (tokens-cut xs w.in-Some.end (some_first xs w.in-Some.end first h.1) (omega (arith, h.0.high))
          (λ k lt e. h.0.before k (omega arith) lt e) (λ lt. h.1))
      | in-None w ↦ rw w.end-is (tokens-cut xs (length xs) (omega (arith, some)) (omega arith) (λ k lt e. w.in-None.ensures k (omega arith) lt e) (λ lt. absurd (omega (arith, lt))))
    ])
