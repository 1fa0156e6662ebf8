use Rattle.std.proofs.Common.{◌≡◌, take}
use Rattle.std.specs.HashMap.{get_by}
use Rattle.mail_core.specs.MsgIds.{MessageId}
use Rattle.thread_links.specs.Containers.{same_id, owner}
use Rattle.thread_links.specs.Ids.{place_of_container}
use Rattle.thread_links.proofs.ids.number_messages.Given as goal

-- the ids of the messages so far
abbrev pub invariant-loop-place : goal.invariant-loop-place
invariant-loop-place l = (id : MessageId) → get_by (same_id id) l.numbers ≡ place_of_container (owner (take l.place l.entries) id)
