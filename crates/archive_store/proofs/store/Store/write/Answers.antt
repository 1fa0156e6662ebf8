use Rattle.archive_store.proofs.CarryLemmas.{puts_as}
use Rattle.archive_store.proofs.store.Store.write.Goals as goal

pub returns-in-ListAdd : goal.returns-in-ListAdd
returns-in-ListAdd g c = puts_as g.S.Store c.args.found.now c.in-ListAdd.is (c.write_list.ensures c.args.found.now)

pub returns-in-MergeSet : goal.returns-in-MergeSet
returns-in-MergeSet g c = puts_as g.S.Store c.args.found.now c.in-MergeSet.is (c.write_merge.ensures c.args.found.now)

pub returns-in-PersonAdd : goal.returns-in-PersonAdd
returns-in-PersonAdd g c = puts_as g.S.Store c.args.found.now c.in-PersonAdd.is (c.write_person.ensures c.args.found.now)

pub returns-in-AddressSet : goal.returns-in-AddressSet
returns-in-AddressSet g c = puts_as g.S.Store c.args.found.now c.in-AddressSet.is (c.write_address.ensures)

pub returns-in-Grant : goal.returns-in-Grant
returns-in-Grant g c = puts_as g.S.Store c.args.found.now c.in-Grant.is (c.write_grant.ensures)

pub returns-in-Revoke : goal.returns-in-Revoke
returns-in-Revoke g c = puts_as g.S.Store c.args.found.now c.in-Revoke.is (c.remove_grant.ensures c.args.found.now)

pub returns-in-Add : goal.returns-in-Add
returns-in-Add g c = puts_as g.S.Store c.args.found.now c.in-Add.is (c.write_message.ensures c.args.found.now)

pub returns-in-Withdraw : goal.returns-in-Withdraw
returns-in-Withdraw g c = puts_as g.S.Store c.args.found.now c.in-Withdraw.is (c.write_withdrawal.ensures c.args.found.now)

pub returns-in-Restore : goal.returns-in-Restore
returns-in-Restore g c = puts_as g.S.Store c.args.found.now c.in-Restore.is (c.clear_withdrawal.ensures c.args.found.now)

pub returns-in-Embargo : goal.returns-in-Embargo
returns-in-Embargo g c = puts_as g.S.Store c.args.found.now c.in-Embargo.is (c.write_embargo.ensures c.args.found.now)

pub returns-in-Lift : goal.returns-in-Lift
returns-in-Lift g c = puts_as g.S.Store c.args.found.now c.in-Lift.is (c.clear_embargo.ensures c.args.found.now)
