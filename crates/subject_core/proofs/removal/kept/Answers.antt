use Rattle.std.proofs.Common.{◌∙◌, sym, ap, ◌+◌, ◌-◌, ◌<◌, ◌≤◌, length, arith, ◌||◌}
use Rattle.subject_core.specs.Removal.{stripped_subject}
use Rattle.subject_core.proofs.Parts.{whole, part_is}
use Rattle.subject_core.proofs.Loops.{turn_same, turn_done, turn_pair, turn_less, turn_part, pair_less, pair_part, marked-none}
use Rattle.subject_core.specs.BaseSubject.{after_all_removals}
use Rattle.subject_core.proofs.removal.kept.Goals as goal

pub loop-inner-init : goal.loop-inner-init
loop-inner-init c = record { same = sym (marked-none (after_all_removals c.args.text.now)); part = whole c.args.text.now }

pub returns-in_default-clause-same : goal.returns-in_default-clause-same
returns-in_default-clause-same c =
    let t = c.args.text.now in
    let rest = c.loop-inner.rest.now in
    let ended = c.without_trailers-ended.result.text.now in
    let begun = c.without_fronts-begun.result.text.now in
    let p = c.without_trailers-ended.result.reply in
    let q = c.without_fronts-begun.result.reply in
    let m = c.loop-inner.reply || (p || q) in
    turn_done t begun m (turn_same t rest ended begun c.loop-inner.reply p q c.loop-inner.invariant.same c.without_trailers-ended.ensures c.without_fronts-begun.ensures)
    c.without_fronts-begun.ensures.no_trailer c.without_fronts-begun.ensures.no_front_piece_left c.in_default.ensures
    ∙ ap (stripped_subject m) (sym (part_is t begun (c.loop-inner.from + (length ended - length begun))
    (turn_part t rest ended begun c.loop-inner.from p q c.loop-inner.invariant.part c.without_trailers-ended.ensures c.without_fronts-begun.ensures)))

pub loop-inner-smaller : goal.loop-inner-smaller
loop-inner-smaller c =
    let rest = c.loop-inner.rest.now in
    let ended = c.without_trailers-ended.result.text.now in
    let begun = c.without_fronts-begun.result.text.now in
    let l : length c.in-Some.inner.now < length begun = pair_less begun c.in-Some.inner.now c.in-Some.ensures in
    let k : length begun ≤ length rest = turn_less rest ended begun c.without_trailers-ended.result.reply c.without_fronts-begun.result.reply c.without_trailers-ended.ensures
    c.without_fronts-begun.ensures in
    omega (arith, l, k)

pub loop-inner-preserved : goal.loop-inner-preserved
loop-inner-preserved c =
    let t = c.args.text.now in
    let rest = c.loop-inner.rest.now in
    let ended = c.without_trailers-ended.result.text.now in
    let begun = c.without_fronts-begun.result.text.now in
    let p = c.without_trailers-ended.result.reply in
    let q = c.without_fronts-begun.result.reply in
    record {
      same = turn_pair t begun c.in-Some.inner.now (c.loop-inner.reply || (p || q))
          (turn_same t rest ended begun c.loop-inner.reply p q c.loop-inner.invariant.same c.without_trailers-ended.ensures c.without_fronts-begun.ensures)
          c.without_fronts-begun.ensures.no_trailer c.without_fronts-begun.ensures.no_front_piece_left c.in-Some.ensures;
      part = pair_part t begun c.in-Some.inner.now (c.loop-inner.from + (length ended - length begun))
          (turn_part t rest ended begun c.loop-inner.from p q c.loop-inner.invariant.part c.without_trailers-ended.ensures c.without_fronts-begun.ensures) c.in-Some.ensures;
    }
