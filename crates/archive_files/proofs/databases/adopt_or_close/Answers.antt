use Rattle.std.proofs.Common.{refl}
use Rattle.archive_files.proofs.databases.adopt_or_close.Goals as goal

pub returns-in-Err-clause-refused : goal.returns-in-Err-clause-refused
returns-in-Err-clause-refused g c = record {
  stop = c.in-Err.stop;
  is_not_adopted = c.in-Err.ensures.refused;
  last = c.close_connection-closed.ensures.last.0;
  is_closed = c.close_connection-closed.ensures.last.1;
  closed = c.close_connection-closed.result;
  closes = c.close_connection-closed.ensures.left;
  left_is = refl;
  fault_is_of_stop = refl;
}
