use Rattle.std.proofs.Common.{◌≡◌, length}
use Rattle.mail_core.specs.Fields.{fields_of}
use Rattle.mail_core.proofs.field_reading.next_field.Given as goal

abbrev pub invariant-loop-block : goal.invariant-loop-block
invariant-loop-block l = fields_of l.text ≡ fields_of l.rest

abbrev pub decreases-loop-block : goal.decreases-loop-block
decreases-loop-block l = length l.rest
