use Rattle.std.proofs.Common.{sym, ◌∙◌, refl, arith, ◌<◌, length}
use Rattle.archive_memory.specs.Selecting.{is_selected}
use Rattle.archive_memory.proofs.SelectLemmas.{place_kept, place_dropped}
use Rattle.archive_memory.proofs.selecting.find_places.Goals as goal
use Rattle.archive_memory.proofs.selecting.find_places.Goals.{then-is_selected+in_ok-push, else-is_selected}

pub loop-place-preserved : goal.loop-place-preserved
loop-place-preserved c =
    let within : c.loop-place.place < length c.args.messages.now = omega arith in
    let test = is_selected c.args.list.now c.args.which.now in
    elim c.if-is_selected.branch [
      | then-is_selected+in_ok-push w ↦
          rw (w.places-is, w.in_ok-push.ensures.items) (place_kept test c.args.messages.now c.loop-place.place c.index-messages-place.result within c.index-messages-place.is
          c.loop-place.places.items c.loop-place.invariant _ refl refl (sym c.is_selected.ensures ∙ w.if-is_selected.true))
      | else-is_selected w ↦
          rw w.places-is (place_dropped test c.args.messages.now c.loop-place.place c.index-messages-place.result within c.index-messages-place.is
          c.loop-place.places.items c.loop-place.invariant (sym c.is_selected.ensures ∙ w.if-is_selected.false))
    ]
