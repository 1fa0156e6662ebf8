use Rattle.std.proofs.Common.{◌≡◌, ◌++◌, length}
use Rattle.archive_html.specs.Texts.{html_escaped_text}
use Rattle.archive_html.proofs.texts.push_shown.Given as goal

-- what the page holds and what is left to be shown are all of it
abbrev pub invariant-loop-byte : goal.invariant-loop-byte
invariant-loop-byte l = l.page.items ++ html_escaped_text l.rest ≡ l.fn.page.items ++ html_escaped_text l.fn.text

abbrev pub decreases-loop-byte : goal.decreases-loop-byte
decreases-loop-byte l = length l.rest
