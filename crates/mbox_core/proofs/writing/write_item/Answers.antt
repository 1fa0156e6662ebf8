use Rattle.std.proofs.Common.{◌≡◌, ◌++◌, ◌-◌, ◌^◌, ℕ, List, length, min, ap, ◌∙◌, subst}
use Rattle.mbox_items.specs.Separator.{Envelope}
use Rattle.mbox_items.specs.Division.{Item, whole}
use Rattle.mbox_items.specs.Written.{AppendsPrefixOfText, separator_line_text, with_lf}
use Rattle.mbox_core.proofs.WritingLemmas.{first_short, second_short, exact_count}
use Rattle.mbox_core.proofs.writing.write_item.Goals as goal

pub returns-in-Err-clause-fault : goal.returns-in-Err-clause-fault
returns-in-Err-clause-fault g c = λ low.
    let same : c.item.inside.envelope ≡ c.args.item.now.envelope = ap (λ (i : Item). i.envelope) c.item.view_is in
    let P : Envelope → Type 0 = λ e. AppendsPrefixOfText (g.W.Sink.told c.args.out.now) (g.W.Sink.told c.write_heading.new.out) (with_lf (separator_line_text e)) c.in-Err.fault.written in
    first_short (g.W.Sink.told c.args.out.now) (g.W.Sink.told c.write_heading.new.out) (with_lf (separator_line_text c.args.item.now.envelope)) (with_lf (whole c.args.item.now.text))
    c.in-Err.fault.written (subst P same (c.in-Err.ensures.fault low))

pub returns-in-Err-write_two_slices-clause-fault : goal.returns-in-Err-write_two_slices-clause-fault
returns-in-Err-write_two_slices-clause-fault g c = λ low.
    let before = g.W.Sink.told c.args.out.now in
    let mid = g.W.Sink.told c.write_heading.new.out in
    let after = g.W.Sink.told c.write_two_slices.new.out in
    let line = with_lf (separator_line_text c.args.item.now.envelope) in
    let rest = with_lf (whole c.args.item.now.text) in
    let n = c.in-Err-write_two_slices.fault.written in
    let same : c.item.inside.envelope ≡ c.args.item.now.envelope = ap (λ (i : Item). i.envelope) c.item.view_is in
    let text : c.item.inside.text.now ≡ c.args.item.now.text = ap (λ (i : Item). i.text) c.item.view_is in
    let first : mid ≡ before ++ line = c.in_default.ensures.ok ∙ ap (λ e. before ++ with_lf (separator_line_text e)) same in
    let P : List ℕ → Type 0 = λ x. AppendsPrefixOfText mid after x n in
    let second : AppendsPrefixOfText mid after rest n =
    subst P (ap (λ x. x ++ c.tail_of.result.now) text ∙ c.tail_of.ensures.value) c.in-Err-write_two_slices.ensures.fault in
    let len : c.heading_len.result ≡ min (length line) (2 ^ 64 - 1) = c.heading_len.ensures ∙ ap (λ e. min (length (with_lf (separator_line_text e))) (2 ^ 64 - 1)) same in
    second_short before mid after line rest n c.saturating_add.result first second
    (exact_count before mid after line rest n c.heading_len.result c.saturating_add.result first second len c.saturating_add.ensures low)
