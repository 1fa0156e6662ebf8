use Rattle.std.proofs.Common.{List, ◌++◌, sym, subst, Option}
use Rattle.mbox_core.specs.Division.{Item}
use Rattle.mbox_stream.specs.Cutter.{AreItemsGivenInPhase}
use Rattle.mbox_stream.specs.Held.{HoldsUndecidedBytes}
use Rattle.mbox_stream.specs.declared.window.Window.{Window}
use Rattle.mbox_stream.specs.declared.cutter.CutterPhase.{CutterPhase}
use Rattle.mbox_stream.proofs.KeptLemmas.{kept_given, kept_sound}
use Rattle.mbox_stream.proofs.cutter.Cutter.feed.Goals as goal

pub invariant_of-self-in-Ok : goal.invariant_of-self-in-Ok
invariant_of-self-in-Ok c =
    let before : List Item = c.self.inside.taken.items ++ c.self.inside.waiting.items in
    let items : List Item = c.self.inside.taken.items ++ c.take_in.new.waiting.items in
    let stream = c.note.new.self.bytes in
    let place = c.in-Ok.window.place in
    let window = c.in-Ok.window.bytes.items in
    let H : Option Window → Type 0 = λ w. HoldsUndecidedBytes w c.self.inside.phase c.self.inside.stream.bytes before in
    let held = subst H (sym c.in-Some.ensures.value) c.self.invariant.1 in
    let G : CutterPhase → Type 0 = λ s. AreItemsGivenInPhase s stream items in (
      subst G (sym held.0)
          (kept_given place window stream items c.in-Ok.ensures.ok c.in-Ok.ensures.settled, kept_sound place window stream items c.in-Ok.ensures.ok c.in-Ok.ensures.settled),
      (held.0, c.in-Ok.ensures.ok, c.in-Ok.ensures.settled),
    )

pub returns-in-Ok-clause-given : goal.returns-in-Ok-clause-given
returns-in-Ok-clause-given c =
    let before : List Item = c.self.inside.taken.items ++ c.self.inside.waiting.items in
    let items : List Item = c.self.inside.taken.items ++ c.take_in.new.waiting.items in
    let stream = c.note.new.self.bytes in
    let place = c.in-Ok.window.place in
    let window = c.in-Ok.window.bytes.items in
    let H : Option Window → Type 0 = λ w. HoldsUndecidedBytes w c.self.inside.phase c.self.inside.stream.bytes before in
    let held = subst H (sym c.in-Some.ensures.value) c.self.invariant.1 in
    let G : CutterPhase → Type 0 = λ s. AreItemsGivenInPhase s stream items in
    subst G (sym held.0)
    (kept_given place window stream items c.in-Ok.ensures.ok c.in-Ok.ensures.settled, kept_sound place window stream items c.in-Ok.ensures.ok c.in-Ok.ensures.settled)
