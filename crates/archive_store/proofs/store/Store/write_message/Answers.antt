use Rattle.std.proofs.Common.{subst}
use Rattle.archive_database.specs.Taking.{InsertsMessage, FailsToInsertMessage, CrashLeavesWholeMessage}
use Rattle.archive_store.proofs.CarryLemmas.{puts_taken}
use Rattle.archive_store.proofs.store.Store.write_message.Goals as goal

pub returns : goal.returns
returns g c = λ found.
    let list = c.args.list.now in
    let item = c.args.item.now in
    let old = c.args.self.now.conn in
    let new = c.insert_message-taken.new.conn in
    puts_taken g.S.Store c.insert_message-taken.result c.pass_fault.result list item found c.rows.ensures
    (subst (λ k. InsertsMessage g.S.Store old new c.insert_message-taken.result list k item) c.of.ensures c.insert_message-taken.ensures.taken)
    (subst (λ k. FailsToInsertMessage g.S.Store old new c.insert_message-taken.result list k item) c.of.ensures c.insert_message-taken.ensures.caused)
    (subst (λ k. CrashLeavesWholeMessage g.S.Store old new list k item) c.of.ensures c.insert_message-taken.ensures.crash)
    c.insert_message-taken.ensures.ends c.pass_fault.ensures.passed c.pass_fault.ensures.kind c.pass_fault.ensures.counted.0
