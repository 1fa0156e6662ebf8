use Rattle.std.proofs.Common.{◌<◌, arith, ap, length, map}
use Rattle.archive_model.specs.Machine.{change_at_key, with_embargo}
use Rattle.archive_memory.specs.Entries.{columns_in, message_in}
use Rattle.archive_memory.proofs.ChangeLemmas.{change_more, same_more}
use Rattle.archive_memory.proofs.changing.set_embargo.Goals as goal

pub loop-entry-preserved : goal.loop-entry-preserved
loop-entry-preserved c =
    let old = c.args.messages.now.items in
    let within : c.loop-entry.entry-index < length old = omega (arith, c.loop-entry-test.true, ap length c.deref_mut-entry-items.ensures.value) in (
      same_more columns_in (map columns_in old) c.loop-entry.entry-items c.loop-entry.entry-index c.entry-item.result c.set_embargo.new.self c.loop-entry.invariant.0
          c.entry-item.is c.set_embargo.ensures.columns,
      change_more message_in (change_at_key c.args.list.now c.args.key.now (with_embargo c.args.until.now)) old c.loop-entry.entry-items c.loop-entry.entry-index
          c.entry-item.result c.set_embargo.new.self within
          c.loop-entry.invariant.1 c.entry-item.is c.set_embargo.ensures.message,
    )
