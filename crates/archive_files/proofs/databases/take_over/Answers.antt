use Rattle.std.proofs.Common.{inl, inr}
use Rattle.archive_files.proofs.databases.take_over.Goals as goal

pub returns-in-Err-clause-cause : goal.returns-in-Err-clause-cause
returns-in-Err-clause-cause g c = inl c.in-Err.ensures.cause

pub returns-in-Ok-adopt_or_close-clause-opened : goal.returns-in-Ok-adopt_or_close-clause-opened
returns-in-Ok-adopt_or_close-clause-opened g c = record {
  connection = c.in-Ok.connection;
  finds_image = c.in-Ok.ensures.found;
  is_opened = c.in-Ok.ensures.opened;
  is_adopted = c.in-Ok-adopt_or_close.ensures.adopted;
}

pub returns-in-Err-adopt_or_close-clause-cause : goal.returns-in-Err-adopt_or_close-clause-cause
returns-in-Err-adopt_or_close-clause-cause g c =
    inr (record {
      opens_name = c.in-Ok.ensures.named;
      connection = c.in-Ok.connection;
      finds_image = c.in-Ok.ensures.found;
      is_opened = c.in-Ok.ensures.opened;
      is_refused = c.in-Err-adopt_or_close.ensures.refused;
    })
