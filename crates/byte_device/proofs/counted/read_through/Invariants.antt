use Rattle.std.specs.Io.KnownBytes.{Keeps}
use Rattle.byte_device.proofs.counted.read_through.Given as goal

abbrev pub invariant-loop : goal.invariant-loop
invariant-loop g l = Keeps (g.D.Read.remaining l.initial.inner) (g.D.Read.remaining l.inner)
