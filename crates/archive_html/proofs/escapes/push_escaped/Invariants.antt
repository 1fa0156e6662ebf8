use Rattle.std.proofs.Common.{◌≡◌, ◌++◌}
use Rattle.percent_encoding.specs.Iter.{encoded_text}
use Rattle.percent_encoding.specs.Percent.{percent_encode}
use Rattle.archive_html.specs.declared.escapes.TheConstants.{RESERVED}
use Rattle.archive_html.proofs.escapes.push_escaped.Given as goal

-- what the page holds and what is left to yield are what the page held and the whole text, escaped
abbrev pub invariant-loop-piece : goal.invariant-loop-piece
invariant-loop-piece l = l.page.items ++ encoded_text l.piece-iterator ≡ l.initial.page.items ++ percent_encode RESERVED l.fn.text
