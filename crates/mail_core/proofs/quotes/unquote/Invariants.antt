use Rattle.std.proofs.Common.{◌≡◌, ◌++◌, drop, false}
use Rattle.mail_core.specs.Quotes.{unquoted}
use Rattle.mail_core.proofs.quotes.unquote.Given as goal

abbrev pub invariant-loop-byte : goal.invariant-loop-byte
invariant-loop-byte l = l.value.items ++ unquoted l.quoted (drop l.byte-index l.inside) ≡ unquoted false l.inside
