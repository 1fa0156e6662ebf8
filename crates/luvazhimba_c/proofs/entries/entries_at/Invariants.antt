use Rattle.std.proofs.Common.{◌≡◌, map, take, All}
use Rattle.luvazhimba_c.specs.Entries.{entry_at, IsReadableMessage}
use Rattle.luvazhimba_c.proofs.entries.entries_at.Given as goal

abbrev pub invariant-loop-at : goal.invariant-loop-at
invariant-loop-at l = record {
  entries : l.entries.items ≡ map (entry_at l.bytes) (take l.at l.messages);
  readable : All (IsReadableMessage l.bytes) (take l.at l.messages);
}
