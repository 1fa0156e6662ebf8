use Rattle.std.proofs.Common.{take, map}
use Rattle.std.specs.List.{filter}
use Rattle.httparse.specs.Spans.{header_bytes}
use Rattle.archive_requests.specs.Bearer.{is_authorization}
use Rattle.archive_requests.proofs.BearerLemmas.{IsFound}
use Rattle.archive_requests.proofs.bearer.bearer_of.Given as goal

-- the Authorization fields so far are none, or the one whose value was found
abbrev pub invariant-loop-field : goal.invariant-loop-field
invariant-loop-field l = IsFound l.bytes l.found (filter is_authorization (map (header_bytes l.bytes) (take l.field-index l.fields)))
