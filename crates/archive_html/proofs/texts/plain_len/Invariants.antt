use Rattle.std.proofs.Common.{◌≡◌, ◌+◌, drop}
use Rattle.std.specs.List.{prefix_len}
use Rattle.archive_html.specs.Texts.{is_shown_unchanged}
use Rattle.archive_html.proofs.texts.plain_len.Given as goal

abbrev pub invariant-loop-len : goal.invariant-loop-len
invariant-loop-len l = prefix_len is_shown_unchanged l.text ≡ l.len + prefix_len is_shown_unchanged (drop l.len l.text)
