use Rattle.std.proofs.Common.{◌≡◌, ◌+◌, drop}
use Rattle.std.specs.List.{prefix_len}
use Rattle.mail_core.specs.Fields.{is_wsp}
use Rattle.mail_core.proofs.field_reading.blanks.Given as goal

abbrev pub invariant-loop-len : goal.invariant-loop-len
invariant-loop-len l = prefix_len is_wsp l.text ≡ l.len + prefix_len is_wsp (drop l.len l.text)
