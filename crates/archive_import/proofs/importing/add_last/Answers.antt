use Rattle.std.proofs.Common.{rules, [], ◌++◌, ◌∙◌, sym, ap, subst, refl, Err, append-nil, inr}
use Rattle.mbox_stream.specs.Cutter.{IsEndFault}
use Rattle.archive_import.proofs.StopLemmas.{Grows}
use Rattle.archive_import.proofs.ReadLemmas.{Begun, settled_taken, ended_divides}
use Rattle.archive_import.proofs.TellLemmas.{begun_still, behind_then, uncut_tells, waiting_tells, last_tells}
use Rattle.archive_import.proofs.importing.add_last.Goals as goal

pub returns-in-Err : goal.returns-in-Err
returns-in-Err g c =
    let cutter = c.args.cutter.now in
    let stop = c.stop_uncut.ensures in
    let begun = begun_still g.S.ArchiveState c.args.store.now c.args.list.now cutter.taken c.args.intake.now in
    let all = uncut_tells g.S.ArchiveState begun cutter.stream 1 cutter.stream [] (settled_taken cutter c.requires.is_consistent c.requires.phase_is_running c.requires.none_waiting)
    (sym (append-nil _)) c.in-Err.fault (subst (λ s. IsEndFault s c.in-Err.fault) c.finish.ensures.stream c.in-Err.ensures.fault.0)
    (λ h. c.finish.ensures.closed.0 (c.in-Err.is ∙ ap Err h) c.requires.phase_is_running) c.stop_uncut.result stop.stop stop.counted stop.leaves stop.writes_nothing in
    record { adds = all.adds; crash = all.crash; kind = search rules; ends = all.ends }

pub returns-in-Ok-add_waiting : goal.returns-in-Ok-add_waiting
returns-in-Ok-add_waiting g c =
    let cutter = c.args.cutter.now in
    let intake = c.args.intake.now in
    let list = c.args.list.now in
    let ended = c.finish.new.self in
    let waits = c.in-Ok-add_waiting.ensures in
    let held = c.add_held.ensures in
    let after = c.add_waiting.new.intake in
    let begun = behind_then g.S.ArchiveState (Grows list intake after ended.waiting) (Begun list cutter.taken (cutter.taken ++ ended.waiting) intake after)
    (begun_still g.S.ArchiveState c.args.store.now list cutter.taken intake) waits.adds waits.ends.refusals_counted.0 waits.crash (λ x y z begun grown a w. grown a cutter.taken (begun a w)) in
    let all = last_tells g.S.ArchiveState begun cutter.stream c.add_held.new.intake c.add_held.result
    (ended_divides cutter ended c.finish.ensures.given c.in-Ok.ensures.finished c.finish.ensures.stream c.finish.ensures.taken) held.none
    (record { adds = held.adds; crash = held.crash; ends = held.ends }) in
    record { adds = all.adds; crash = all.crash; kind = search rules; ends = all.ends }

pub returns-in-Err-add_waiting : goal.returns-in-Err-add_waiting
returns-in-Err-add_waiting g c =
    let cutter = c.args.cutter.now in
    let ended = c.finish.new.self in
    let waits = c.in-Err-add_waiting.ensures in
    let begun = begun_still g.S.ArchiveState c.args.store.now c.args.list.now cutter.taken c.args.intake.now in
    let divides = ended_divides cutter ended c.finish.ensures.given c.in-Ok.ensures.finished c.finish.ensures.stream c.finish.ensures.taken in
    let all = waiting_tells g.S.ArchiveState begun cutter.stream 1 ended.waiting (inr (refl, divides)) c.in-Err-add_waiting.stop
    (record { adds = waits.adds; crash = waits.crash; ends = waits.ends }) in
    record { adds = all.adds; crash = all.crash; kind = search rules; ends = all.ends }
