use Rattle.std.proofs.Common.{◌≡◌, ◌+◌, ◌-◌, ◌<◌, ◌≤◌, ◌⊎◌, length, take}
use Rattle.archive_port.specs.Adding.{total_text_bytes}
use Rattle.archive_store.specs.declared.batches.TheConstants.{MESSAGES_AT_ONCE, BYTES_AT_ONCE}
use Rattle.archive_store.proofs.batches.batch_end.Given as goal

abbrev pub invariant-loop-to : goal.invariant-loop-to
invariant-loop-to l =
    (l.from < l.to) × (l.to ≤ length l.items) × (l.to ≤ l.from + MESSAGES_AT_ONCE)
    × ((total_text_bytes (take l.to l.items) + l.room ≤ total_text_bytes (take l.from l.items) + BYTES_AT_ONCE)
    ⊎ ((l.room ≡ 0) × (total_text_bytes (take l.to l.items) ≤ total_text_bytes (take (l.from + 1) l.items))))

abbrev pub decreases-loop-to : goal.decreases-loop-to
decreases-loop-to l = length l.items - l.to
