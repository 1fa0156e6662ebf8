use Rattle.std.proofs.Common.{rules, inr}
use Rattle.archive_files.proofs.databases.reopen_left.Goals as goal

pub returns-in-Ok-reopen-clause-opened : goal.returns-in-Ok-reopen-clause-opened
returns-in-Ok-reopen-clause-opened g c = record {
  is_known = search rules;
  files = c.in-Some.files;
  were_left = c.in-Some.ensures.taken.0;
  is_opened_from_files = c.in-Ok-reopen.ensures.opened;
  none_is_left = c.in-Some.ensures.taken.1;
}

pub returns-in-Err-reopen-clause-cause : goal.returns-in-Err-reopen-clause-cause
returns-in-Err-reopen-clause-cause g c = inr (c.in-Some.files, c.in-Some.ensures.taken.0, c.in-Err-reopen.ensures.cause)
