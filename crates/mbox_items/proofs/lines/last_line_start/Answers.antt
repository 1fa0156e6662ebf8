use Rattle.std.proofs.Common.{◌≡◌, ◌<◌, ◌-◌, length, take, ℕ, ◌+◌, ◌==◌, true, List, get_or, get_or-take, arith, sym, ap, ◌∙◌, refl, inl, inr}
use Rattle.std.proofs.lemmas.Bool.{eqb-true}
use Rattle.mbox_items.proofs.FastLemmas.{last_lines}
use Rattle.mbox_items.proofs.lines.last_line_start.Goals as goal

-- a byte of the front is one of the whole
of_front : (xs front : List ℕ) (n k : ℕ) → front ≡ take n xs → k < n → (get_or xs k 0 == 10) ≡ true → (get_or front k 0 == 10) ≡ true
of_front xs front n k e lt h = ap (λ f. get_or f k 0 == 10) e ∙ ap (λ x. x == 10) (get_or-take n xs k 0 lt) ∙ h

front_is : (xs front : List ℕ) (n k : ℕ) → front ≡ take n xs → k < n → (get_or front k 0 == 10) ≡ true → get_or xs k 0 ≡ 10
front_is xs front n k e lt h = eqb-true (get_or xs k 0) 10 (ap (λ x. x == 10) (sym (get_or-take n xs k 0 lt)) ∙ ap (λ f. get_or f k 0 == 10) (sym e) ∙ h)

pub returns-in-Some-clause-cuts : goal.returns-in-Some-clause-cuts
returns-in-Some-clause-cuts c =
    let xs = c.args.bytes.now in
    let front = c.split_at.result.0.now in
    let n = length xs - 1 in
    let at = c.in-Some.at in
    let h = c.in-Some.ensures in
    let lt : at < n = omega (arith, h.0.high, c.split_at.ensures.front_len) in
    last_lines xs (at + 1) (omega arith)
    (λ k low high e. h.0.after k low (omega (arith, high, c.split_at.ensures.front_len)) (of_front xs front n k c.split_at.ensures.front high e))
    (inr (at, refl, front_is xs front n at c.split_at.ensures.front lt h.1))

pub returns-in-None-clause-cuts : goal.returns-in-None-clause-cuts
returns-in-None-clause-cuts c =
    let xs = c.args.bytes.now in
    let front = c.split_at.result.0.now in
    let n = length xs - 1 in
    last_lines xs 0 (omega (arith, c.requires))
    (λ k low high e. c.in-None.ensures k low (omega (arith, high, c.split_at.ensures.front_len)) (of_front xs front n k c.split_at.ensures.front high e))
    (inl refl)
