use Rattle.std.proofs.Common.{◌≡◌, take, true}
use Rattle.archive_model.specs.Questions.{has_list}
use Rattle.archive_model.specs.Runs.{taken, tally_replies}
use Rattle.archive_port.specs.Adding.{reported_count, tally_of_report}
use Rattle.archive_memory.specs.State.{archive_in_memory, refusal_count}
use Rattle.archive_memory.proofs.archive.MemoryArchive.add_items.Given as goal

abbrev pub invariant-loop-done : goal.invariant-loop-done
invariant-loop-done l =
    (archive_in_memory l.self ≡ (taken (archive_in_memory l.fn.self) l.list (take l.done l.items)).archive)
    × (tally_of_report l.told ≡ tally_replies (taken (archive_in_memory l.fn.self) l.list (take l.done l.items)).replies)
    × (reported_count l.told ≡ l.done)
    × (has_list (archive_in_memory l.self) l.list ≡ true)
    × (refusal_count l.self ≡ refusal_count l.fn.self)
