use Rattle.std.proofs.Common.{◌≡◌, ◌∷◌, ◌++◌, [], List, ◌<◌, ◌≤◌, length, take, drop, arith, ap, sym, subst, ◌∙◌, append-nil}
use Rattle.mail_core.specs.Lines.{lines}
use Rattle.mbox_core.specs.Division.{Item, AreBlocks}
use Rattle.luvazhimba_c.specs.Places.{AreMessagesFromOffset}
use Rattle.luvazhimba_c.specs.declared.messages.LuvMessage.{LuvMessage}
use Rattle.luvazhimba_c.proofs.PlaceLemmas.{stand_more, stand_end}
use Rattle.luvazhimba_c.proofs.cutting.put_places.Goals as goal

pub loop-item-preserved : goal.loop-item-preserved
loop-item-preserved c =
    let bytes = c.args.bytes.now in
    let next = c.loop-item.next in
    let rest : List Item = c.next.new.self in
    let steps : c.loop-item.item-iterator ≡ c.in-Some.item ∷ rest = c.in-Some.ensures.steps in
    let B : List Item → Type 0 = λ is. AreBlocks is (lines (drop next bytes)) in
    record {
      low = c.place_of-behind.ensures.on.1;
      few = omega (arith, c.place_of-behind.ensures.on.0, c.loop-item.invariant.few);
      ahead = c.place_of-behind.ensures.later rest (subst B steps c.loop-item.invariant.ahead);
      count = omega (arith, c.loop-item.invariant.count, ap length steps);
      long = c.put_at.ensures.len ∙ c.loop-item.invariant.long;
      stand = λ later fits stands.
          let room : c.loop-item.count < length c.loop-item.to = omega (arith, fits, c.put_at.ensures.len) in
          let low : c.loop-item.count ≤ length c.loop-item.to = omega (arith, room) in
          let F : List LuvMessage → Type 0 = λ front. AreMessagesFromOffset bytes c.args.at c.args.messages (front ++ later) in
          subst F (sym (c.put_at.ensures.put room))
          (stand_more bytes c.args.at next c.place_of-behind.result.1 c.args.messages c.in-Some.item rest (take c.loop-item.count c.loop-item.to) c.place_of-behind.result.0 later
          (λ ls so_far. c.loop-item.invariant.stand ls low (subst (λ (is : List Item). AreMessagesFromOffset bytes next is ls) (sym steps) so_far)) c.place_of-behind.ensures.stands stands);
    }

pub returns-clause-stand : goal.returns-clause-stand
returns-clause-stand c = λ fits.
    let bytes = c.args.bytes.now in
    let next = c.loop-item.next in
    let none : c.loop-item.item-iterator ≡ [] = c.in-None.ensures.steps.0 in
    let low : c.loop-item.count ≤ length c.loop-item.to = omega (arith, fits, c.loop-item.invariant.long) in
    let end = stand_end bytes next (subst (λ (is : List Item). AreBlocks is (lines (drop next bytes))) none c.loop-item.invariant.ahead) in
    subst (AreMessagesFromOffset bytes c.args.at c.args.messages) (append-nil (take c.loop-item.count c.loop-item.to))
    (c.loop-item.invariant.stand [] low (subst (λ (is : List Item). AreMessagesFromOffset bytes next is []) (sym none) end))
