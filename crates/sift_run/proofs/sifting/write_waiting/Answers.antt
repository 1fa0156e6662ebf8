use Rattle.std.proofs.Common.{◌+◌, [], ◌∷◌, min, ◌∙◌, ap}
use Rattle.mbox_core.specs.Division.{Item}
use Rattle.sift_run.specs.Sifting.{filtered_text}
use Rattle.sift_run.proofs.SiftLemmas.{sent_more, sent_part, sifted-append, moved_one}
use Rattle.sift_run.proofs.sifting.write_waiting.Goals as goal

pub loop-item-preserved : goal.loop-item-preserved
loop-item-preserved g c =
    let rules = c.args.policy.now in
    let asked = c.args.words.now in
    let item : Item = c.in-Some.item in
    let i = c.loop-item.invariant in
    let left = ap (filtered_text rules asked) c.in-Some.ensures.item ∙ sifted-append rules asked (item ∷ []) c.take.new.self.waiting in
    let count = c.saturating_add-before.ensures ∙ ap (λ n. min (c.loop-item.before + n) 18446744073709551615) c.in-Ok.ensures.count in
    record {
      sent = sent_more _ _ _ _ _ _ _ _ _ i.sent left c.in-Ok.ensures.ok count;
      quiet = c.in-Ok.ensures.quiet ∙ i.quiet;
      moved = moved_one _ _ _ _ _ _ item i.moved c.in-Some.ensures.item c.in-Some.ensures.taken;
      stream = c.take.ensures.stream ∙ i.stream;
      phase = c.take.ensures.phase ∙ i.phase;
      given = c.take.ensures.given;
    }

pub returns-in-Err-clause-fault : goal.returns-in-Err-clause-fault
returns-in-Err-clause-fault g c =
    let rules = c.args.policy.now in
    let asked = c.args.words.now in
    let item : Item = c.in-Some.item in
    let left = ap (filtered_text rules asked) c.in-Some.ensures.item ∙ sifted-append rules asked (item ∷ []) c.take.new.self.waiting in
    sent_part _ _ _ _ _ _ _ _ _ _ c.loop-item.invariant.sent left c.in-Err.ensures.fault c.saturating_add.ensures
