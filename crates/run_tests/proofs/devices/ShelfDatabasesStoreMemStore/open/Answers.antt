use Rattle.std.proofs.Common.{inr, refl}
use Rattle.run_tests.proofs.devices.ShelfDatabasesStoreMemStore.open.Goals as goal

pub returns-in-Err-clause-opened : goal.returns-in-Err-clause-opened
returns-in-Err-clause-opened c = (tt, inr (c.in-Some.connection, (let taken = c.take.ensures.value in let is = c.in-Some.is in cc), c.in-Err.stop, c.in-Err.ensures.refused, refl))
