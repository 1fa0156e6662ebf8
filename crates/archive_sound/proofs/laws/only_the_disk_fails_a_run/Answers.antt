use Rattle.archive_sound.proofs.CauseLemmas.{only_disk_runs, only_disk_adds, never_left}
use Rattle.archive_sound.proofs.laws.only_the_disk_fails_a_run.Goals as goal

pub returns-clause-run : goal.returns-clause-run
returns-clause-run g c = only_disk_runs g.S.Store

pub returns-clause-add_all : goal.returns-clause-add_all
returns-clause-add_all g c = only_disk_adds g.S.Store

pub returns-clause-import : goal.returns-clause-import
returns-clause-import g c = λ store list items done held room senders. never_left g.S.Store store store list items done held room senders
