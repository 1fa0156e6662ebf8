use Rattle.std.proofs.Common.{◌≡◌, ◌++◌}
use Rattle.thread_core.proofs.MergeLemmas.{links_from}
use Rattle.thread_core.proofs.merging.link_under.Given as goal

-- the links so far and those that are left are all
abbrev pub invariant-loop-child : goal.invariant-loop-child
invariant-loop-child l = l.links.items ++ links_from l.children l.child-index l.first ≡ l.fn.links.items ++ links_from l.children 0 l.first
