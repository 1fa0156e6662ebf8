use Rattle.std.proofs.Common.{◌≡◌, length}
use Rattle.mail_core.specs.Fields.{fields_of}
use Rattle.mail_core.specs.Headers.{header_of}
use Rattle.mail_core.specs.Gathering.{with_fields}
use Rattle.mail_core.proofs.message_header.Header.of.Given as goal

abbrev pub invariant-loop-field : goal.invariant-loop-field
invariant-loop-field l = with_fields (fields_of l.rest) l.found ≡ header_of l.text

abbrev pub decreases-loop-field : goal.decreases-loop-field
decreases-loop-field l = length (fields_of l.rest)
