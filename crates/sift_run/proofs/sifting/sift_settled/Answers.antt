use Rattle.std.proofs.Common.{◌++◌, ◌∙◌, Ok, Err, length, ap, refl, arith, inr, rules}
use Rattle.sift_run.proofs.SiftLemmas.{so_far_start, so_far_more, unread_fault, of_read_fault, part_open}
use Rattle.sift_run.proofs.sifting.sift_settled.Goals as goal

pub loop-reads-init : goal.loop-reads-init
loop-reads-init g c = record {
  so_far = so_far_start _ _ _ _ c.args.cutter.now c.requires.0 c.requires.1;
  reads = omega arith;
  no_read_failed = refl;
  ends = refl;
  no_write_failed = refl;
}

pub returns-in-Err-clause-stopped : goal.returns-in-Err-clause-stopped
returns-in-Err-clause-stopped g c =
    let i = c.loop-reads.invariant in
    let s = i.so_far in
    let r = c.read_from.ensures.read in
    record {
      filters_until_error = unread_fault _ _ _ _ _ _ _ _ s _ r.0 _ r.1 r.2 c.in-Err.fault c.in-Err.ensures.fault.0
          (λ h. c.read_from.ensures.closed.0 (c.in-Err.is ∙ ap Err h) s.phase_is_open)
          (λ h. (c.read_from.ensures.none (inr (c.in-Err.is ∙ ap Err h))).0);
      matches_read_failures = of_read_fault c.read_from.result c.in-Err.fault _ _ _ c.in-Err.is i.no_read_failed c.read_from.ensures.faults;
      matches_write_failures = i.no_write_failed;
    }

pub returns-in-Err-write_waiting-clause-stopped : goal.returns-in-Err-write_waiting-clause-stopped
returns-in-Err-write_waiting-clause-stopped g c =
    let i = c.loop-reads.invariant in
    let s = i.so_far in
    let r = c.read_from.ensures.read in
    let w = c.in-Err-write_waiting.ensures in
    record {
      filters_until_error = tt;
      matches_read_failures = search rules;
      matches_write_failures = (
        part_open _ _ _ _ _ _ _ _ s _ r.0 _ r.1 r.2 c.read_from.new.self _ _ _ refl c.read_from.ensures.taken c.in-Ok-true.ensures.open c.read_from.ensures.given
            w.some w.fault c.saturating_add.ensures,
        omega (arith, i.no_write_failed, w.cause),
      );
    }

pub loop-reads-preserved : goal.loop-reads-preserved
loop-reads-preserved g c =
    let i = c.loop-reads.invariant in
    let s = i.so_far in
    let r = c.read_from.ensures.read in
    let w = c.in-Ok.ensures in
    record {
      so_far = so_far_more _ _ _ _ _ _ _ _ s _ r.0 _ r.1 r.2 c.write_waiting.new.cutter c.read_from.new.self.waiting _ _ _ c.write_waiting.ensures.stream
          (w.taken.0 ∙ ap (λ x. x ++ c.read_from.new.self.waiting) c.read_from.ensures.taken) w.taken.1
          (c.write_waiting.ensures.phase ∙ c.in-Ok-true.ensures.open) c.write_waiting.ensures.given w.ok w.count c.saturating_add-before.ensures;
      reads = omega (arith, i.reads, c.read_from.ensures.some (c.in-Ok-true.is ∙ ap Ok c.in-Ok-true.field-0-test), ap length w.stream);
      no_read_failed = search rules;
      ends = search rules;
      no_write_failed = w.quiet ∙ i.no_write_failed;
    }
