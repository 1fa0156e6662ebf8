use Rattle.std.proofs.Common.{◌≡◌, [], ◌∷◌, ◌++◌, length, arith, ap, ◌∙◌, sym, subst, codes, length-append}
use Rattle.mbox_items.specs.Senders.{sender_text}
use Rattle.mbox_items.specs.Separator.{Envelope, joined_by_spaces}
use Rattle.mbox_items.specs.Written.{IsEnvelope}
use Rattle.mbox_items.proofs.SenderLemmas.{envelope_is}
use Rattle.mbox_core.proofs.WrittenLaws.{heading_length}
use Rattle.mbox_core.proofs.writing.heading_len.Goals as goal

pub returns-in-One : goal.returns-in-One
returns-in-One c =
    let is : IsEnvelope c.args.envelope.now =
    subst IsEnvelope c.envelope.view_is (envelope_is c.envelope.inside.sender c.envelope.inside.arrival c.envelope.invariant.0 c.envelope.invariant.1) in
    let sender : c.args.envelope.now.sender ≡ c.in-One.token.now = sym (ap (λ (e : Envelope). e.sender) c.envelope.view_is) ∙ ap sender_text c.in-One.is in
    omega (arith, heading_length c.args.envelope.now is, ap length sender, c.line_len.ensures, c.line_len.type_inv)

pub returns-in-At : goal.returns-in-At
returns-in-At c =
    let is : IsEnvelope c.args.envelope.now =
    subst IsEnvelope c.envelope.view_is (envelope_is c.envelope.inside.sender c.envelope.inside.arrival c.envelope.invariant.0 c.envelope.invariant.1) in
    let sender : c.args.envelope.now.sender ≡ joined_by_spaces (c.in-At.left.now ∷ codes "at" ∷ c.in-At.right.now ∷ []) = sym (ap (λ (e : Envelope). e.sender) c.envelope.view_is) ∙ ap
    sender_text c.in-At.is in
    omega (
      arith,
      heading_length c.args.envelope.now is,
      ap length sender,
      length-append c.in-At.left.now (32 ∷ (codes "at" ++ 32 ∷ c.in-At.right.now)),
      c.at_line_len.ensures,
    )
