use Rattle.std.proofs.Common.{◌≡◌, ◌++◌, take}
use Rattle.std.specs.Prelude.{flat_map, string_bytes}
use Rattle.archive_html.specs.Rows.{list_row}
use Rattle.archive_html.proofs.pages.push_lists.Given as goal

-- the page holds what it held and the rows so far
abbrev pub invariant-loop-name : goal.invariant-loop-name
invariant-loop-name l = l.page.items ≡ l.fn.page.items ++ flat_map (λ name. list_row (string_bytes name)) (take l.name-index l.names)
