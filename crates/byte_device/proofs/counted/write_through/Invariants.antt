use Rattle.std.specs.Io.KnownBytes.{Keeps}
use Rattle.byte_device.proofs.counted.write_through.Given as goal

abbrev pub invariant-loop : goal.invariant-loop
invariant-loop g l = Keeps (g.D.Write.contents l.initial.inner) (g.D.Write.contents l.inner)
