use Rattle.std.proofs.Common.{◌≡◌, ◌∷◌, ◌<◌, ◌≤◌, [], length, ℕ, ◌+◌, ◌==◌, true, List, ◌++◌, arith, ap, ◌∙◌, sym, take, drop, get_or, length-drop, Some, None, subst, inl, inr, Option}
use Rattle.std.proofs.lemmas.List.{take-take, drop_all}
use Rattle.memchr.specs.Find.{OccursAt, NoneBefore, Nowhere}
use Rattle.mail_core.specs.Lines.{lines, content}
use Rattle.mbox_items.specs.Separator.{Envelope, separator_of}
use Rattle.mbox_items.specs.Division.{is_blank_line, items_after_separator}
use Rattle.mbox_items.proofs.PartLemmas.{text_here, items_here}
use Rattle.mbox_items.proofs.FastLemmas.{mark, calm_start, calm_next, front_on, found_state, Refused, no_mark, mark_lf, none_at_all, text_all, items_all}
use Rattle.mbox_items.proofs.parts.next_part.Goals.{then-is_empty+in_default, else-is_empty}
use Rattle.mbox_items.proofs.parts.next_part.Goals as goal

-- what a search from `at` on says
record Found (bytes : List ℕ) (at lf : ℕ) : Type 0 where
  fits : at + (lf + 1) ≤ length bytes
  here_lf : get_or (drop at bytes) lf 0 ≡ 10
  none : (k : ℕ) → k < lf → ¬ OccursAt (drop at bytes) mark k

found : (bytes here : List ℕ) (at lf : ℕ) → here ≡ drop at bytes → at ≤ length bytes
    → NoneBefore (OccursAt here mark) 0 (length here + 1) lf × OccursAt here mark lf → Found bytes at lf
found bytes here at lf e low h =
    let O : List ℕ → Type 0 = λ x. OccursAt x mark lf in
    let f : lf + 6 ≤ length here = h.1.fits in
    record {
      fits = omega (arith, f, ap length e, length-drop at bytes);
      here_lf = mark_lf (drop at bytes) lf (subst O e h.1);
      none = λ k lt o. let K : List ℕ → Type 0 = λ x. OccursAt x mark k in h.0.before k (omega arith) lt (subst K (sym e) o);
    }

last_is : (bytes front line : List ℕ) (at last : ℕ) → front ≡ take at bytes → line ≡ drop last front → lines front ≡ lines (take last front) ++ drop last front ∷ []
    → lines (take at bytes) ≡ lines (take last (take at bytes)) ++ line ∷ []
last_is bytes front line at last e l h =
    ap lines (sym e) ∙ h ∙ ap (λ x. lines (take last front) ++ x ∷ []) (sym l) ∙ ap (λ f. lines (take last f) ++ line ∷ []) e

pub loop-at-init : goal.loop-at-init
loop-at-init c = (omega arith, calm_start c.args.bytes.now)

none_here : (bytes here : List ℕ) (at : ℕ) → here ≡ drop at bytes → Nowhere (OccursAt here mark) 0 (length here + 1) → (k : ℕ) → ¬ OccursAt (drop at bytes) mark k
none_here bytes here at e h k o = let K : List ℕ → Type 0 = λ x. OccursAt x mark k in none_at_all here h k (subst K (sym e) o)

none_end : (bytes : List ℕ) (at : ℕ) → length bytes ≤ at → (k : ℕ) → ¬ OccursAt (drop at bytes) mark k
none_end bytes at h k o = let K : List ℕ → Type 0 = λ x. OccursAt x mark k in no_mark k (subst K (drop_all at bytes h) o)

after_none : (o : Option Envelope) (rest : List ℕ) → o ≡ None → items_after_separator o rest ≡ []
after_none o rest e = ap (λ x. items_after_separator x rest) e

pub returns-in-None-clause-text : goal.returns-in-None-clause-text
returns-in-None-clause-text c = c.last_part.ensures.text
    ∙ text_all c.args.bytes.now c.loop-at.at c.loop-at.invariant.1 (none_here c.args.bytes.now c.split_at.result.1.now c.loop-at.at c.split_at.ensures.back c.in-None.ensures)

pub returns-in-None-clause-items : goal.returns-in-None-clause-items
returns-in-None-clause-items c = after_none c.last_part.result.next c.last_part.result.rest.now c.last_part.ensures.next
    ∙ sym (items_all c.args.bytes.now c.loop-at.at c.loop-at.invariant.1 (none_here c.args.bytes.now c.split_at.result.1.now c.loop-at.at c.split_at.ensures.back c.in-None.ensures))

pub returns-clause-text : goal.returns-clause-text
returns-clause-text c = c.last_part-2.ensures.text ∙ text_all c.args.bytes.now c.loop-at.at c.loop-at.invariant.1 (none_end c.args.bytes.now c.loop-at.at c.loop-at-test.false)

pub returns-clause-items : goal.returns-clause-items
returns-clause-items c = after_none c.last_part-2.result.next c.last_part-2.result.rest.now c.last_part-2.ensures.next
    ∙ sym (items_all c.args.bytes.now c.loop-at.at c.loop-at.invariant.1 (none_end c.args.bytes.now c.loop-at.at c.loop-at-test.false))

pub returns-in-Some-separator-clause-text : goal.returns-in-Some-separator-clause-text
returns-in-Some-separator-clause-text c =
    let bytes = c.args.bytes.now in
    let at = c.loop-at.at + (c.in-Some.lf + 1) in
    let f = found bytes c.split_at.result.1.now c.loop-at.at c.in-Some.lf c.split_at.ensures.back c.loop-at.invariant.0 c.in-Some.ensures in
    let line = c.split_at-in-loop-at-2.result.1.now in
    let e = last_is bytes c.split_at-in-loop-at.result.0.now line at c.last_line_start-last.result c.split_at-in-loop-at.ensures.front c.split_at-in-loop-at-2.ensures.back
    c.last_line_start-last.ensures.cuts in
    let blank : is_blank_line line ≡ true = ap (λ x. length x == 0) (sym c.line_content-before.ensures) ∙ sym c.is_empty.ensures ∙ c.if-is_empty.true in
    let low : c.last_line_start-last.result ≤ at = omega (arith, c.last_line_start-last.ensures.within, c.split_at-in-loop-at.ensures.front_len) in
    let s = found_state bytes line at c.last_line_start-last.result (front_on bytes c.loop-at.at c.in-Some.lf c.loop-at.invariant.1 f.fits f.here_lf f.none) e blank low in
    let rest = c.split_at-in-loop-at.ensures.back in
    let says : separator_of (content c.split_at-then-is_empty.result.0.now) ≡ Some c.in-Some-separator.envelope = ap separator_of (sym c.line_content-content.ensures)
    ∙ sym c.in-Some-separator.ensures.value in
    c.split_at-in-loop-at-2.ensures.front ∙ ap (take c.last_line_start-last.result) c.split_at-in-loop-at.ensures.front ∙ take-take c.last_line_start-last.result at bytes low
    ∙ text_here bytes at c.line_end-len.result c.split_at-then-is_empty.result.0.now (rw rest at c.split_at-then-is_empty.ensures.front)
    (omega (arith, c.line_end-len.ensures.within, c.split_at-in-loop-at.ensures.back_len)) (rw rest at c.line_end-len.ensures.cuts)
    c.last_line_start-last.result c.in-Some-separator.envelope s says

pub returns-in-Some-separator-clause-items : goal.returns-in-Some-separator-clause-items
returns-in-Some-separator-clause-items c =
    let bytes = c.args.bytes.now in
    let at = c.loop-at.at + (c.in-Some.lf + 1) in
    let f = found bytes c.split_at.result.1.now c.loop-at.at c.in-Some.lf c.split_at.ensures.back c.loop-at.invariant.0 c.in-Some.ensures in
    let line = c.split_at-in-loop-at-2.result.1.now in
    let e = last_is bytes c.split_at-in-loop-at.result.0.now line at c.last_line_start-last.result c.split_at-in-loop-at.ensures.front c.split_at-in-loop-at-2.ensures.back
    c.last_line_start-last.ensures.cuts in
    let blank : is_blank_line line ≡ true = ap (λ x. length x == 0) (sym c.line_content-before.ensures) ∙ sym c.is_empty.ensures ∙ c.if-is_empty.true in
    let low : c.last_line_start-last.result ≤ at = omega (arith, c.last_line_start-last.ensures.within, c.split_at-in-loop-at.ensures.front_len) in
    let s = found_state bytes line at c.last_line_start-last.result (front_on bytes c.loop-at.at c.in-Some.lf c.loop-at.invariant.1 f.fits f.here_lf f.none) e blank low in
    let rest = c.split_at-in-loop-at.ensures.back in
    let says : separator_of (content c.split_at-then-is_empty.result.0.now) ≡ Some c.in-Some-separator.envelope = ap separator_of (sym c.line_content-content.ensures)
    ∙ sym c.in-Some-separator.ensures.value in
    let h = items_here bytes at c.line_end-len.result c.split_at-then-is_empty.result.0.now (rw rest at c.split_at-then-is_empty.ensures.front)
    (omega (arith, c.line_end-len.ensures.within, c.split_at-in-loop-at.ensures.back_len)) (rw rest at c.line_end-len.ensures.cuts)
    c.last_line_start-last.result c.in-Some-separator.envelope s says in
    rw (c.split_at-then-is_empty.ensures.back, rest) h

pub loop-at-preserved : goal.loop-at-preserved
loop-at-preserved c =
    let bytes = c.args.bytes.now in
    let at = c.loop-at.at + (c.in-Some.lf + 1) in
    let f = found bytes c.split_at.result.1.now c.loop-at.at c.in-Some.lf c.split_at.ensures.back c.loop-at.invariant.0 c.in-Some.ensures in
    let line = c.split_at-in-loop-at-2.result.1.now in
    let e = last_is bytes c.split_at-in-loop-at.result.0.now line at c.last_line_start-last.result c.split_at-in-loop-at.ensures.front c.split_at-in-loop-at-2.ensures.back
    c.last_line_start-last.ensures.cuts in
    let says : is_blank_line line ≡ c.is_empty.result = ap (λ x. length x == 0) (sym c.line_content-before.ensures) ∙ sym c.is_empty.ensures in
    let rest = c.split_at-in-loop-at.ensures.back in
    let refused : Refused line (lines (drop at bytes)) = elim c.if-is_empty.branch [
      | then-is_empty+in_default w ↦ inr (
        w.split_at-then-is_empty.result.0.now,
        lines (drop w.line_end-len.result (drop at bytes)),
        (rw rest at w.line_end-len.ensures.cuts) ∙ ap (λ x. x ∷ lines (drop w.line_end-len.result (drop at bytes))) (sym (rw rest at w.split_at-then-is_empty.ensures.front)),
        ap separator_of (sym w.line_content-content.ensures) ∙ sym w.separator.ensures.value ∙ w.in_default.is,
      )
      | else-is_empty w ↦ inl (says ∙ w.if-is_empty.false)
    ] in
    (f.fits, calm_next bytes line at c.last_line_start-last.result (front_on bytes c.loop-at.at c.in-Some.lf c.loop-at.invariant.1 f.fits f.here_lf f.none) e refused)
