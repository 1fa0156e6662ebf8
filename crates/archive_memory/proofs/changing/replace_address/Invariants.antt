use Rattle.std.proofs.Common.{◌≡◌, map, take}
use Rattle.archive_model.specs.Addresses.{normalize_address}
use Rattle.archive_model.specs.Machine.{with_replaced_address}
use Rattle.archive_memory.specs.Entries.{address_in}
use Rattle.archive_memory.proofs.changing.replace_address.Given as goal

abbrev pub invariant-loop-entry : goal.invariant-loop-entry
invariant-loop-entry l =
    map address_in l.replaced.items
    ≡ map (with_replaced_address (record { person = l.person; address = normalize_address l.address })) (map address_in (take l.entry-index l.entry-items))
