use Rattle.std.proofs.Common.{◌≡◌, take}
use Rattle.archive_import.proofs.importing.lend_items.Given as goal

-- those so far
abbrev pub invariant-loop-one : goal.invariant-loop-one
invariant-loop-one l = l.items.items ≡ take l.one-index l.owned
