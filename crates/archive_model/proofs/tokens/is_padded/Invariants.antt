use Rattle.std.proofs.Common.{length, ◌-◌, ◌≡◌, ◌≤◌, drop}
use Rattle.archive_model.specs.BearerTokens.{is_token_bytes_then_padding}
use Rattle.archive_model.proofs.tokens.is_padded.Given as goal

abbrev pub invariant-loop-at : goal.invariant-loop-at
invariant-loop-at l = (l.at ≤ length l.bytes) × (is_token_bytes_then_padding l.bytes ≡ is_token_bytes_then_padding (drop l.at l.bytes))

abbrev pub decreases-loop-at : goal.decreases-loop-at
decreases-loop-at l = length l.bytes - l.at
