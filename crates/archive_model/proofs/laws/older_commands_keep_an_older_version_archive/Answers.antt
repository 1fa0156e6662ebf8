use Rattle.archive_model.proofs.LastingLemmas as lasting
use Rattle.archive_model.proofs.laws.older_commands_keep_an_older_version_archive.Goals as goal

pub returns-clause-first : goal.returns-clause-first
returns-clause-first c = lasting.of_first

pub returns-clause-second : goal.returns-clause-second
returns-clause-second c = lasting.of_second
