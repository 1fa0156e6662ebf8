use Rattle.std.proofs.Common.{◌≡◌, ◌+◌, rules, arith, [], ◌++◌, ◌∙◌, refl, sym, ap, subst, Err, append-nil, inl, inr}
use Rattle.std.proofs.lemmas.Grind.{common_steps}
use Rattle.mbox_core.specs.declared.faults.MboxFault.TheVariants.{Preamble, Memory}
use Rattle.mbox_stream.specs.Stream.{settled_items}
use Rattle.archive_model.specs.Records.{Archive}
use Rattle.archive_import.specs.Intake.{IsUnderWay}
use Rattle.archive_import.proofs.StopLemmas.{Grows}
use Rattle.archive_import.proofs.ReadLemmas.{Begun, reads_stopped, reads_unread, settled_taken, settled_given, settled_whole, told_more}
use Rattle.archive_import.proofs.TellLemmas.{behind_then, uncut_tells, waiting_tells, unread_tells}
use Rattle.archive_import.proofs.importing.add_settled.Goals as goal

pub loop-preserved : goal.loop-preserved
loop-preserved g c =
    let i = c.loop.invariant in
    let list = c.args.list.now in
    let waiting = c.read_from.new.self.waiting in
    let r = c.read_from.ensures.read in
    let it = c.in-Ok.ensures in
    let after = c.add_waiting.new in
    let all = it.takes.takes_waiting.0 ∙ ap (λ is. is ++ waiting) c.read_from.ensures.taken in
    record {
      behind = behind_then g.S.ArchiveState (Grows list c.loop.intake after.intake waiting) (Begun list [] after.cutter.taken c.args.intake.now after.intake) i.behind it.adds
          it.ends.refusals_counted.0 it.crash (λ x y z begun grown a w. subst (λ is. IsUnderWay list a z is after.intake) (sym all) (grown a c.loop.cutter.taken (begun a w)));
      told = told_more _ _ _ i.told r.1 (it.takes.stream_is_same ∙ r.2);
      no_read_failed = search rules;
      no_end = search rules;
      none_waits = it.takes.takes_waiting.1;
      goes_on = it.takes.phase_is_same ∙ c.in-Ok-true.ensures.open;
      given = it.takes.is_consistent;
    }

pub returns-in-Err-Read : goal.returns-in-Err-Read
returns-in-Err-Read g c =
    let i = c.loop.invariant in
    let stop = c.stop_unread.ensures in
    let read = c.read_from.new.self in
    let r = c.read_from.ensures.read in
    let same = (c.read_from.ensures.none (inr (c.in-Err-Read.is ∙ ap Err c.in-Err-Read.field-0-is))).0 in
    let ended : g.R.Source.ends c.read_from.new.input ≡ g.R.Source.ends c.args.input.now = grind (arith, common_steps) in
    let failed : g.R.Source.failures c.read_from.new.input ≡ g.R.Source.failures c.args.input.now + 1 = grind (arith, common_steps) in
    let all = unread_tells g.S.ArchiveState i.behind read.stream (settled_taken c.loop.cutter i.given i.goes_on i.none_waits ∙ ap settled_items (sym same))
    (λ b d _. (a : Archive) → IsUnderWay c.args.list.now a b [] c.args.intake.now → IsUnderWay c.args.list.now a d read.taken c.stop_unread.new.intake) c.stop_unread.result stop.stopped
    (record { adds = stop.adds; crash = stop.crash; ends = stop.ends }) in
    record {
      adds = all.adds;
      crash = all.crash;
      read = reads_unread (told_more _ _ _ i.told r.1 r.2) ended _ failed stop.stopped stop.kind;
      ends = all.ends;
    }

pub returns-in-Err-Preamble : goal.returns-in-Err-Preamble
returns-in-Err-Preamble g c =
    let i = c.loop.invariant in
    let stop = c.stop_uncut.ensures in
    let r = c.read_from.ensures.read in
    let why = rw c.in-Err-Preamble.field-0-is at c.in-Err-Preamble.ensures.fault.0 in
    let text = c.read_from.new.self.stream in
    let stop_is = rw c.in-Err-Preamble.field-0-is at stop.stop in
    let all = uncut_tells g.S.ArchiveState i.behind text 0 c.loop.cutter.stream r.0 (settled_taken c.loop.cutter i.given i.goes_on i.none_waits) r.2 (Preamble c.in-Err-Preamble.at)
    (why.0, settled_whole text why.0 why.1, why.2) (λ it. cc) c.stop_uncut.result stop_is stop.counted stop.leaves stop.writes_nothing in
    record {
      adds = all.adds;
      crash = all.crash;
      read = reads_stopped (told_more _ _ _ i.told r.1 r.2) (grind (arith, common_steps)) (grind (arith, common_steps)) (rw stop_is refl);
      ends = all.ends;
    }

pub returns-in-Err-Memory : goal.returns-in-Err-Memory
returns-in-Err-Memory g c =
    let i = c.loop.invariant in
    let stop = c.stop_uncut-in-Err-Memory.ensures in
    let r = c.read_from.ensures.read in
    let all = uncut_tells g.S.ArchiveState i.behind c.read_from.new.self.stream 0 c.loop.cutter.stream r.0 (settled_taken c.loop.cutter i.given i.goes_on i.none_waits) r.2 Memory tt (λ it. cc)
    c.stop_uncut-in-Err-Memory.result stop.stop stop.counted stop.leaves stop.writes_nothing in
    record {
      adds = all.adds;
      crash = all.crash;
      read = reads_stopped (told_more _ _ _ i.told r.1 r.2) (grind (arith, common_steps)) (grind (arith, common_steps)) (rw stop.stop refl);
      ends = all.ends;
    }

pub returns-in-Err-Failed : goal.returns-in-Err-Failed
returns-in-Err-Failed g c = absurd (c.read_from.ensures.closed.0 (c.in-Err-Failed.is ∙ ap Err c.in-Err-Failed.field-0-is) c.loop.invariant.goes_on)

pub returns-in-Err : goal.returns-in-Err
returns-in-Err g c =
    let i = c.loop.invariant in
    let it = c.in-Err.ensures in
    let read = c.read_from.new.self in
    let r = c.read_from.ensures.read in
    let are = settled_given read c.loop.cutter.taken c.read_from.ensures.given c.in-Ok-true.ensures.open c.read_from.ensures.taken ∙ ap settled_items (sym it.takes.stream_is_same) in
    let all = waiting_tells g.S.ArchiveState i.behind c.add_waiting.new.cutter.stream 0 read.waiting (inl are) c.in-Err.stop (record { adds = it.adds; crash = it.crash; ends = it.ends }) in
    record {
      adds = all.adds;
      crash = all.crash;
      read = reads_stopped (told_more _ _ _ i.told r.1 (it.takes.stream_is_same ∙ r.2)) (grind (arith, common_steps)) (grind (arith, common_steps)) it.takes.no_read_failure;
      ends = all.ends;
    }

pub returns : goal.returns
returns g c =
    let i = c.loop.invariant in
    let stop = c.stop_uncut-2.ensures in
    let stream = c.loop.cutter.stream in
    let all = uncut_tells g.S.ArchiveState i.behind stream 0 stream [] (settled_taken c.loop.cutter i.given i.goes_on i.none_waits) (sym (append-nil _)) Memory tt (λ it. cc)
    c.stop_uncut-2.result stop.stop stop.counted stop.leaves stop.writes_nothing in
    record { adds = all.adds; crash = all.crash; read = search rules; ends = all.ends }
