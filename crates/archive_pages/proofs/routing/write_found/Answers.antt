use Rattle.archive_port.proofs.LastLemmas.{leaves_same}
use Rattle.archive_pages.proofs.routing.write_found.Goals as goal

pub returns-in-Err-clause-leaves : goal.returns-in-Err-clause-leaves
returns-in-Err-clause-leaves g c = leaves_same g.S.ArchiveState c.args.store.now
