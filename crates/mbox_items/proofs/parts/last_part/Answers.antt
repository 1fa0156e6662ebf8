use Rattle.std.proofs.Common.{◌≡◌, ◌∷◌, [], length, ℕ, ◌==◌, true, false, List, ◌++◌, ap, ◌∙◌, sym, take}
use Rattle.std.proofs.lemmas.List.{nil_from_length}
use Rattle.std.proofs.lemmas.Bool.{eqb-true}
use Rattle.mail_core.specs.Lines.{lines}
use Rattle.mbox_items.specs.Division.{is_blank_line, item_text_of_lines}
use Rattle.mbox_items.proofs.LineLemmas.{lines-nil}
use Rattle.mbox_items.proofs.SplitLemmas.{body-nil}
use Rattle.mbox_items.proofs.FastLemmas.{last-body, whole-body}
use Rattle.mbox_items.proofs.parts.last_part.Goals as goal

none : (xs : List ℕ) → xs ≡ [] → xs ≡ item_text_of_lines (lines xs)
none xs e = e ∙ sym (ap (λ x. item_text_of_lines (lines x)) e ∙ ap item_text_of_lines lines-nil ∙ body-nil)

pub returns-then-is_empty-clause-text : goal.returns-then-is_empty-clause-text
returns-then-is_empty-clause-text c =
    none c.args.bytes.now (nil_from_length c.args.bytes.now (eqb-true (length c.args.bytes.now) 0 (sym c.is_empty.ensures ∙ c.if-is_empty.true)))

pub returns-then-is_empty-2-clause-text : goal.returns-then-is_empty-2-clause-text
returns-then-is_empty-2-clause-text c =
    let blank : is_blank_line c.split_at.result.1.now ≡ true = ap (λ x. length x == 0) (sym c.line_content.ensures) ∙ sym c.is_empty-2.ensures ∙ c.if-is_empty-2.true in
    c.split_at.ensures.front ∙ sym (last-body c.args.bytes.now c.split_at.result.1.now c.last_line_start.result
    (c.last_line_start.ensures.cuts ∙ ap (λ x. lines (take c.last_line_start.result c.args.bytes.now) ++ x ∷ []) (sym c.split_at.ensures.back)) blank)

pub returns-else-is_empty-2-clause-text : goal.returns-else-is_empty-2-clause-text
returns-else-is_empty-2-clause-text c =
    let blank : is_blank_line c.split_at.result.1.now ≡ false = ap (λ x. length x == 0) (sym c.line_content.ensures) ∙ sym c.is_empty-2.ensures ∙ c.if-is_empty-2.false in
    sym (whole-body c.args.bytes.now c.split_at.result.1.now c.last_line_start.result
    (c.last_line_start.ensures.cuts ∙ ap (λ x. lines (take c.last_line_start.result c.args.bytes.now) ++ x ∷ []) (sym c.split_at.ensures.back)) blank)
