use Rattle.std.proofs.Common.{◌≡◌, length}
use Rattle.archive_requests.specs.Bearer.{skip_spaces}
use Rattle.archive_requests.proofs.bearer.skip_spaces.Given as goal

abbrev pub invariant-loop-rest : goal.invariant-loop-rest
invariant-loop-rest l = skip_spaces l.rest ≡ skip_spaces l.initial.bytes

abbrev pub decreases-loop-rest : goal.decreases-loop-rest
decreases-loop-rest l = length l.rest
