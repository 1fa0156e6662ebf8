use Rattle.std.proofs.Common.{[], append-nil, ◌∙◌, Err, ap, sym, refl, arith}
use Rattle.sift_run.proofs.SiftLemmas.{end_fault, of_read_end, told_end, part_end}
use Rattle.sift_run.proofs.sifting.sift_through.Goals as goal

pub returns-in-Err-finish-clause-stopped : goal.returns-in-Err-finish-clause-stopped
returns-in-Err-finish-clause-stopped g c =
    let s = c.in-Ok.ensures.ok in
    let fault = c.in-Err-finish.fault in
    record {
      filters_until_error = end_fault _ _ _ _ _ _ c.sift_settled.new.cutter _ s _ [] c.finish.new.self.stream (sym (append-nil _)) (c.finish.ensures.stream ∙ sym (append-nil _))
          fault c.in-Err-finish.ensures.fault.0
          (λ h. c.finish.ensures.closed.0 (c.in-Err-finish.is ∙ ap Err h) s.phase_is_open);
      matches_read_failures = of_read_end _ fault _ _ c.in-Err-finish.ensures.fault.0 c.in-Ok.ensures.ended.1;
      matches_write_failures = c.in-Ok.ensures.ended.2;
    }

pub returns-in-Ok-write_waiting-clause-done : goal.returns-in-Ok-write_waiting-clause-done
returns-in-Ok-write_waiting-clause-done g c =
    let s = c.in-Ok.ensures.ok in
    record {
      filters_transcript = told_end _ _ _ _ _ _ c.sift_settled.new.cutter _ s _ [] c.finish.new.self.stream (sym (append-nil _)) (c.finish.ensures.stream ∙ sym (append-nil _))
          c.finish.new.self _ refl c.finish.ensures.taken c.in-Ok-finish.ensures.finished c.finish.ensures.given c.in-Ok-write_waiting.ensures.ok;
      input_ended_once = c.in-Ok.ensures.ended.0;
      no_read_failed = c.in-Ok.ensures.ended.1;
      no_write_failed = c.in-Ok-write_waiting.ensures.quiet ∙ c.in-Ok.ensures.ended.2;
    }

pub returns-in-Err-write_waiting-clause-stopped : goal.returns-in-Err-write_waiting-clause-stopped
returns-in-Err-write_waiting-clause-stopped g c =
    let s = c.in-Ok.ensures.ok in
    let w = c.in-Err-write_waiting.ensures in
    record {
      filters_until_error = tt;
      matches_read_failures = c.in-Ok.ensures.ended.1;
      matches_write_failures = (
        part_end _ _ _ _ _ _ c.sift_settled.new.cutter _ s _ [] c.finish.new.self.stream (sym (append-nil _)) (c.finish.ensures.stream ∙ sym (append-nil _))
            c.finish.new.self _ _ _ refl c.finish.ensures.taken c.in-Ok-finish.ensures.finished c.finish.ensures.given w.fault c.saturating_add.ensures,
        omega (arith, c.in-Ok.ensures.ended.2, w.cause),
      );
    }
