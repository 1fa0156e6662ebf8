use Rattle.std.proofs.Common.{◌≡◌, length}
use Rattle.mail_core.specs.DateTokens.{tokens_of}
use Rattle.mail_core.proofs.tokens.next_token.Given as goal

abbrev pub invariant-loop-first : goal.invariant-loop-first
invariant-loop-first l = tokens_of l.text ≡ tokens_of l.rest

abbrev pub decreases-loop-first : goal.decreases-loop-first
decreases-loop-first l = length l.rest
