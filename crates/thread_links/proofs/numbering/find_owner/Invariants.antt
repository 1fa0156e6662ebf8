use Rattle.std.proofs.Common.{◌≡◌, drop}
use Rattle.thread_links.specs.Containers.{owner, owner_from}
use Rattle.thread_links.proofs.numbering.find_owner.Given as goal

-- the owner is that among the messages that are left
abbrev pub invariant-loop-place : goal.invariant-loop-place
invariant-loop-place l = owner l.entries l.id ≡ owner_from l.place (drop l.place l.entries) l.id
