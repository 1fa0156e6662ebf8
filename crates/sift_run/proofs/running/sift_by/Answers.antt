use Rattle.std.proofs.Common.{length, arith}
use Rattle.sift_run.specs.declared.sifting.SiftFault.TheVariants as fault
use Rattle.sift_run.proofs.RunLemmas.{not_at, sifted_whole}
use Rattle.sift_run.proofs.running.sift_by.Goals as goal

pub returns-in-Err-Write : goal.returns-in-Err-Write
returns-in-Err-Write g c =
    let it = not_at _ _ _ _ _ _ _ (fault.Write c.in-Err-Write.field-0-0) c.in-Err-Write.field-0-is c.in-Err-Write.ensures.stopped in
    let filters_transcript = it.matches_write_failures.0 in
    record {
      day = c.in-Some.day;
      is_day = c.in-Some.ensures;
      count = c.in-Err-Write.field-0-0;
      filters_transcript = rw (← c.asked.view_is) filters_transcript;
      no_read_failed = it.matches_read_failures;
      output_failed = it.matches_write_failures.1;
    }

pub returns-in-Err : goal.returns-in-Err
returns-in-Err g c =
    let done = c.in-Ok.ensures.done in
    let part = sifted_whole _ _ _ _ _ _ _ c.flush.ensures.told done.filters_transcript in
    record {
      day = c.in-Some.day;
      is_day = c.in-Some.ensures;
      count = length done.filters_transcript.1;
      filters_transcript = rw (← c.asked.view_is) part;
      no_read_failed = done.no_read_failed;
      output_failed = omega (arith, done.no_write_failed, c.in-Err.ensures.cause);
    }
