use Rattle.std.proofs.Common.{◌<◌, arith, ap, length, map}
use Rattle.archive_model.specs.Machine.{with_merge_setting}
use Rattle.archive_memory.specs.Entries.{list_name, list_option}
use Rattle.archive_memory.proofs.ChangeLemmas.{change_more, same_more}
use Rattle.archive_memory.proofs.changing.set_merge.Goals as goal

pub loop-entry-preserved : goal.loop-entry-preserved
loop-entry-preserved c =
    let old = c.args.lists.now.items in
    let within : c.loop-entry.entry-index < length old = omega (arith, c.loop-entry-test.true, ap length c.deref_mut-entry-items.ensures.value) in (
      same_more list_name (map list_name old) c.loop-entry.entry-items c.loop-entry.entry-index c.entry-item.result c.set_merge.new.self c.loop-entry.invariant.0
          c.entry-item.is c.set_merge.ensures.name,
      change_more list_option (with_merge_setting c.args.list.now c.args.merge) old c.loop-entry.entry-items c.loop-entry.entry-index c.entry-item.result c.set_merge.new.self within
          c.loop-entry.invariant.1 c.entry-item.is c.set_merge.ensures.option,
    )
