use Rattle.std.proofs.Common.{◌≡◌, ◌+◌, drop}
use Rattle.std.specs.List.{prefix_len}
use Rattle.civil_time.specs.Digits.{is_digit}
use Rattle.mail_core.proofs.tokens.digits_len.Given as goal

abbrev pub invariant-loop-len : goal.invariant-loop-len
invariant-loop-len l = prefix_len is_digit l.text ≡ l.len + prefix_len is_digit (drop l.len l.text)
