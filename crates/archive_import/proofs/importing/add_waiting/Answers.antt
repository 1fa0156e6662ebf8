use Rattle.std.proofs.Common.{rules, [], ◌∷◌, ◌++◌, ◌∙◌, ap, append_assoc, arith, refl, subst}
use Rattle.mbox_core.specs.Division.{Item}
use Rattle.archive_import.specs.Intake.{IsUnderWay}
use Rattle.archive_import.proofs.CrashLemmas.{safe_still}
use Rattle.archive_import.proofs.StopLemmas.{Grows, grows_none, moved_none, moved_one}
use Rattle.archive_import.proofs.TellLemmas.{behind_then, grown_tells}
use Rattle.archive_import.proofs.importing.add_waiting.Goals as goal

pub loop-item-init : goal.loop-item-init
loop-item-init g c = record {
  behind = (
    moved_none _ _,
    record {
      before = grows_none g.S.ArchiveState c.args.list.now c.args.store.now c.args.intake.now;
      grows = omega arith;
      safe = safe_still g.S.ArchiveState c.args.store.now;
    },
  );
  stream = refl;
  phase = refl;
  given = c.requires;
}

pub loop-item-preserved : goal.loop-item-preserved
loop-item-preserved g c =
    let item : Item = c.in-Some.item in
    let list = c.args.list.now in
    let i = c.loop-item.invariant in
    let held = c.in-Ok.ensures in
    let done = i.behind.0.done in
    let after = c.hold_one.new.intake in
    record {
      behind = (
        moved_one _ _ _ _ _ _ item i.behind.0 c.in-Some.ensures.item c.in-Some.ensures.taken,
        behind_then g.S.ArchiveState (Grows list c.loop-item.intake after (item ∷ [])) (Grows list c.args.intake.now after (done ++ item ∷ [])) i.behind.1 held.adds held.ends.refusals_counted.0
            held.crash (λ x y z grown more a items w. subst (λ is. IsUnderWay list a z is after) (append_assoc items done (item ∷ [])) (more a (items ++ done) (grown a items w))),
      );
      stream = c.take.ensures.stream ∙ i.stream;
      phase = c.take.ensures.phase ∙ i.phase;
      given = c.take.ensures.given;
    }

pub returns-in-Err : goal.returns-in-Err
returns-in-Err g c =
    let item : Item = c.in-Some.item in
    let m = c.loop-item.invariant.behind in
    let held = c.in-Err.ensures in
    let all = grown_tells g.S.ArchiveState c.args.list.now c.args.intake.now c.loop-item.intake m.0.done (item ∷ []) c.take.new.self.waiting c.args.cutter.now.waiting
    (m.0.was ∙ ap (λ is. m.0.done ++ is) c.in-Some.ensures.item) m.1 c.in-Err.stop (record { adds = held.adds; crash = held.crash; ends = held.ends }) in
    record { adds = all.adds; crash = all.crash; takes = search rules; ends = all.ends }

pub returns-clause-ends : goal.returns-clause-ends
returns-clause-ends g c = record { fault_has_cause = tt; refusals_counted = (c.loop-item.invariant.behind.1.grows, tt) }
