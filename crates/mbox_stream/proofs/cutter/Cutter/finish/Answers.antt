use Rattle.std.proofs.Common.{◌≡◌, List, [], ◌++◌, append-nil, sym, ap, ◌∙◌, subst, Option}
use Rattle.mbox_core.specs.Division.{Item}
use Rattle.mbox_stream.specs.Cutter.{AreItemsGivenInPhase}
use Rattle.mbox_stream.specs.Held.{HoldsUndecidedBytes}
use Rattle.mbox_stream.specs.declared.window.Window.{Window}
use Rattle.mbox_stream.specs.declared.cutter.CutterPhase.{CutterPhase}
use Rattle.mbox_stream.specs.declared.cutter.CutterPhase.TheVariants.{Short}
use Rattle.mbox_stream.proofs.cutter.Cutter.finish.Goals as goal

pub invariant_of-self-in-Err : goal.invariant_of-self-in-Err
invariant_of-self-in-Err c =
    let taken : List Item = c.self.inside.taken.items in
    let before : List Item = taken ++ c.self.inside.waiting.items in
    let items : List Item = taken ++ c.append.new.self.items in
    let stream = c.self.inside.stream.bytes in
    let H : Option Window → Type 0 = λ w. HoldsUndecidedBytes w c.self.inside.phase stream before in
    let held = subst H (sym c.in-Some.ensures.value) c.self.invariant.1 in
    let G : CutterPhase → Type 0 = λ s. AreItemsGivenInPhase s stream before in
    let given = subst G held.0 c.self.invariant.0 in
    let same : items ≡ before = ap (λ x. taken ++ x) c.in-Err.ensures.items in
    let N : Option Window → Type 0 = λ w. HoldsUndecidedBytes w Short stream items in (
      ([], sym (append-nil items ∙ same ∙ given.0)),
      subst N (sym c.in-Some.ensures.after) (λ e. absurd (cc)),
    )

pub returns-clause-given : goal.returns-clause-given
returns-clause-given c =
    let taken : List Item = c.self.inside.taken.items in
    let before : List Item = taken ++ c.self.inside.waiting.items in
    let items : List Item = taken ++ c.append.new.self.items in
    let stream = c.self.inside.stream.bytes in
    let H : Option Window → Type 0 = λ w. HoldsUndecidedBytes w c.self.inside.phase stream before in
    let held = subst H (sym c.in-Some.ensures.value) c.self.invariant.1 in
    let G : CutterPhase → Type 0 = λ s. AreItemsGivenInPhase s stream before in
    let given = subst G held.0 c.self.invariant.0 in
    let same : items ≡ before = ap (λ x. taken ++ x) c.in-Err.ensures.items in
    ([], sym (append-nil items ∙ same ∙ given.0))
