use Rattle.mbox_items.specs.Division.{is_blank_line}
use Rattle.std.proofs.Common.{◌≡◌, ◌≤◌, length, ℕ, ◌+◌, Bool, true, false, not, ◌==◌, List, drop, arith, ap, ◌∙◌, sym, refl, Some, None, length-drop}
use Rattle.std.proofs.lemmas.List.{take_rest}
use Rattle.mail_core.specs.Lines.{content}
use Rattle.mbox_items.specs.Separator.{separator_of}
use Rattle.mbox_core.proofs.CutLemmas.{blanks_start, blanks_more, divides_here, preamble_here}
use Rattle.mbox_core.proofs.DivisionLaws.{not_both}
use Rattle.mbox_core.proofs.cutting.cut.Goals as goal

fits : (n at : ℕ) (bytes : List ℕ) → n ≤ length (drop at bytes) → at ≤ length bytes → at + n ≤ length bytes
fits n at bytes h g = omega (arith, h, length-drop at bytes)

pub loop-at-init : goal.loop-at-init
loop-at-init c = blanks_start c.args.bytes.now

pub returns-in-Some-clause-ok : goal.returns-in-Some-clause-ok
returns-in-Some-clause-ok c =
    let here = take_rest c.args.bytes.now c.loop-at.at in
    let says : separator_of (content c.split_at.result.0.now) ≡ Some c.in-Some.envelope = ap separator_of (sym c.line_content-content.ensures) ∙ sym c.in-Some.ensures.value in
    rw (c.split_at.ensures.back, here)
    (divides_here c.args.bytes.now c.loop-at.at c.line_end-len.result c.split_at.result.0.now (rw here at c.split_at.ensures.front)
    (fits c.line_end-len.result c.loop-at.at c.args.bytes.now (rw here at c.line_end-len.ensures.within) (omega arith)) (rw here at c.line_end-len.ensures.cuts)
    c.loop-at.invariant c.in-Some.envelope says)

some_not : (b : Bool) → not b ≡ true → b ≡ false
some_not true h = sym h
some_not false h = refl

none_not : (b : Bool) → not b ≡ false → b ≡ true
none_not true h = refl
none_not false h = sym h

pub returns-in-None-clause-preamble : goal.returns-in-None-clause-preamble
returns-in-None-clause-preamble c =
    let here = take_rest c.args.bytes.now c.loop-at.at in
    let says : separator_of (content c.split_at.result.0.now) ≡ None = ap separator_of (sym c.line_content-content.ensures) ∙ sym c.in-None.ensures.value in
    let blank : is_blank_line c.split_at.result.0.now ≡ c.is_empty.result = ap (λ x. length x == 0) (sym c.line_content-content.ensures) ∙ sym c.is_empty.ensures in
    preamble_here c.args.bytes.now c.loop-at.at c.line_end-len.result c.split_at.result.0.now (rw here at c.split_at.ensures.front)
    (fits c.line_end-len.result c.loop-at.at c.args.bytes.now (rw here at c.line_end-len.ensures.within) (omega arith)) (rw here at c.line_end-len.ensures.cuts)
    c.loop-at.invariant (blank ∙ c.if-not-is_empty.true) says

pub loop-at-preserved : goal.loop-at-preserved
loop-at-preserved c =
    let here = take_rest c.args.bytes.now c.loop-at.at in
    let blank : is_blank_line c.split_at.result.0.now ≡ c.is_empty.result = ap (λ x. length x == 0) (sym c.line_content-content.ensures) ∙ sym c.is_empty.ensures in
    blanks_more c.args.bytes.now c.loop-at.at c.line_end-len.result c.split_at.result.0.now (rw here at c.split_at.ensures.front)
    (fits c.line_end-len.result c.loop-at.at c.args.bytes.now (rw here at c.line_end-len.ensures.within) (omega arith)) (rw here at c.line_end-len.ensures.cuts)
    c.loop-at.invariant (blank ∙ c.if-not-is_empty.false)

pub returns-in-None-clause-none : goal.returns-in-None-clause-none
returns-in-None-clause-none c = λ items d. not_both c.args.bytes.now c.loop-at.at items (returns-in-None-clause-preamble c) d
