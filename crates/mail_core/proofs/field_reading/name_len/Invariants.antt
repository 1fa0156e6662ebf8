use Rattle.std.proofs.Common.{◌≡◌, ◌+◌, drop}
use Rattle.std.specs.List.{prefix_len}
use Rattle.mail_core.specs.Fields.{is_field_name_byte}
use Rattle.mail_core.proofs.field_reading.name_len.Given as goal

abbrev pub invariant-loop-len : goal.invariant-loop-len
invariant-loop-len l = prefix_len is_field_name_byte l.text ≡ l.len + prefix_len is_field_name_byte (drop l.len l.text)
