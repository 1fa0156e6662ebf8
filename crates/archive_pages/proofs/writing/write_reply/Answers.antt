use Rattle.archive_port.proofs.LastLemmas.{leaves_same}
use Rattle.archive_pages.proofs.writing.write_reply.Goals as goal

pub returns-in-Failed-clause-leaves : goal.returns-in-Failed-clause-leaves
returns-in-Failed-clause-leaves g c = leaves_same g.S.ArchiveState c.args.store.now
