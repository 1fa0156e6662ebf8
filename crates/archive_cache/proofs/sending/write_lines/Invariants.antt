use Rattle.std.proofs.Common.{◌≡◌, ◌<◌, ◌^◌, take}
use Rattle.archive_cache.proofs.SendLemmas.{LinesSoFar}
use Rattle.archive_cache.proofs.sending.write_lines.Given as goal

abbrev pub invariant-loop-line : goal.invariant-loop-line
invariant-loop-line g l =
    LinesSoFar g.S.ArchiveState l.list l.fn.store l.store (take l.line-index l.lines) (g.W.Sink.told l.fn.out) (g.W.Sink.told l.out) l.fn.count l.count
    × (g.W.Sink.failures l.out ≡ g.W.Sink.failures l.fn.out) × (l.count < 2 ^ 64)
