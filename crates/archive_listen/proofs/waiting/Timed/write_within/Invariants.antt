use Rattle.std.proofs.Common.{◌≡◌}
use Rattle.std.specs.Duration.{as_nanos}
use Rattle.archive_listen.specs.Waits.{WaitsWithin}
use Rattle.archive_listen.proofs.waiting.Timed.write_within.Given as goal

abbrev pub invariant-loop : goal.invariant-loop
invariant-loop g l = WaitsWithin (as_nanos l.span.whole) l.initial.self l.self × (l.self.stream ≡ l.initial.self.stream)
