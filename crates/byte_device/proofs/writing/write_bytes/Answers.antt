use Rattle.std.proofs.Common.{arith, length-drop, ◌∙◌}
use Rattle.byte_device.proofs.DeviceLemmas.{written_faults-some, rest_of, told-more}
use Rattle.byte_device.proofs.writing.write_bytes.Goals as goal

pub loop-written-preserved : goal.loop-written-preserved
loop-written-preserved g c =
    let so_far = c.loop-written.invariant in
    let rest = rest_of c.loop-written.written c.args.bytes.now in
    let count = rw rest at c.in-Ok.ensures.count in record {
      within = omega (arith, count, length-drop c.loop-written.written c.args.bytes.now);
      told = told-more _ _ _ c.args.bytes.now c.loop-written.written c.in-Ok.count so_far.told (rw rest at c.in-Ok.ensures.bytes);
      quiet = c.in-Ok.ensures.faults ∙ rw (written_faults-some _ _ c.in-Ok.count c.in-Ok.count-test.1) (omega (arith, so_far.quiet));
    }
