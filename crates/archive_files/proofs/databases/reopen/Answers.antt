use Rattle.std.proofs.Common.{inl, inr, refl}
use Rattle.archive_files.proofs.databases.reopen.Goals as goal

pub returns-in-Err-clause-cause : goal.returns-in-Err-clause-cause
returns-in-Err-clause-cause g c =
    inl (record {
      leftover = c.in-Err.left;
      error = c.in-Err.error;
      cause = c.in-Err.ensures.cause;
      leaves_files = c.in-Err.ensures.unharmed;
      left_is = refl;
      fault_is_of_error = c.database_fault.ensures.value;
    })

pub returns-in-Ok-adopt_or_close-clause-opened : goal.returns-in-Ok-adopt_or_close-clause-opened
returns-in-Ok-adopt_or_close-clause-opened g c = record {
  connection = c.in-Ok.connection;
  finds_files = c.in-Ok.ensures.found;
  is_opened = c.in-Ok.ensures.opened;
  is_adopted = c.in-Ok-adopt_or_close.ensures.adopted;
}

pub returns-in-Err-adopt_or_close-clause-cause : goal.returns-in-Err-adopt_or_close-clause-cause
returns-in-Err-adopt_or_close-clause-cause g c =
    inr (record {
      connection = c.in-Ok.connection;
      finds_files = c.in-Ok.ensures.found;
      is_opened = c.in-Ok.ensures.opened;
      is_refused = c.in-Err-adopt_or_close.ensures.refused;
    })
