use Rattle.std.proofs.Common.{◌≡◌, map, filter, take}
use Rattle.std.specs.Prelude.{bytes_eq}
use Rattle.archive_model.specs.Messages.{archived_message}
use Rattle.archive_model.specs.Records.{Message}
use Rattle.archive_memory.specs.Entries.{message_in}
use Rattle.archive_memory.proofs.asking.messages_of.Given as goal

abbrev pub invariant-loop-entry : goal.invariant-loop-entry
invariant-loop-entry l = map (archived_message l.list) l.found.items ≡ filter (λ (m : Message). bytes_eq m.list l.list) (map message_in (take l.entry-index l.messages))
