use Rattle.archive_desk.proofs.RepeatLemmas.{again_added, again_imported}
use Rattle.archive_desk.proofs.laws.a_repeated_import_ends_with_the_same_archive.Goals as goal

pub returns-clause-added : goal.returns-clause-added
returns-clause-added c = again_added

pub returns-clause-imported : goal.returns-clause-imported
returns-clause-imported c = again_imported
