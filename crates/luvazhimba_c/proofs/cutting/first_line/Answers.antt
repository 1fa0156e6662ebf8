use Rattle.std.proofs.Common.{◌≡◌, ◌≤◌, length, ℕ, ◌+◌, ◌==◌, List, drop, arith, ap, ◌∙◌, sym, subst, length-drop}
use Rattle.std.proofs.lemmas.List.{take_rest, drop_all}
use Rattle.mbox_core.specs.Division.{is_blank_line}
use Rattle.mail_core.specs.Lines.{lines}
use Rattle.mbox_items.proofs.LineLemmas.{lines-nil}
use Rattle.luvazhimba_c.specs.Places.{HasNoBlankFirstLine}
use Rattle.mbox_core.proofs.CutLemmas.{blanks_start, blanks_more}
use Rattle.luvazhimba_c.proofs.cutting.first_line.Goals as goal

fits : (n at : ℕ) (bytes : List ℕ) → n ≤ length (drop at bytes) → at ≤ length bytes → at + n ≤ length bytes
fits n at bytes h g = omega (arith, h, length-drop at bytes)

pub loop-at-init : goal.loop-at-init
loop-at-init c = blanks_start c.args.bytes.now

pub loop-at-preserved : goal.loop-at-preserved
loop-at-preserved c =
    let here = take_rest c.args.bytes.now c.loop-at.at in
    let blank : is_blank_line c.split_at.result.0.now ≡ c.is_empty.result = ap (λ x. length x == 0) (sym c.line_content.ensures) ∙ sym c.is_empty.ensures in
    blanks_more c.args.bytes.now c.loop-at.at c.line_end-len.result c.split_at.result.0.now (rw here at c.split_at.ensures.front)
    (fits c.line_end-len.result c.loop-at.at c.args.bytes.now (rw here at c.line_end-len.ensures.within) (omega arith)) (rw here at c.line_end-len.ensures.cuts)
    c.loop-at.invariant (blank ∙ c.if-not-is_empty.false)

pub returns-clause-unblank : goal.returns-clause-unblank
returns-clause-unblank c = subst HasNoBlankFirstLine (sym (ap lines (drop_all c.loop-at.at c.args.bytes.now (omega arith)) ∙ lines-nil)) tt
