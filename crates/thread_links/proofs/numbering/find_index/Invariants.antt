use Rattle.std.proofs.Common.{◌≡◌, ◌+◌, drop}
use Rattle.thread_links.specs.Containers.{index_of}
use Rattle.thread_links.proofs.numbering.find_index.Given as goal

abbrev pub invariant-loop-at : goal.invariant-loop-at
invariant-loop-at l = index_of l.ids l.id ≡ l.at + index_of (drop l.at l.ids) l.id
