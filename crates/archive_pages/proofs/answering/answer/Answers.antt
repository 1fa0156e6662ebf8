use Rattle.std.proofs.Common.{sym, subst}
use Rattle.archive_cache.specs.Coherence.{IsCacheCoherent}
use Rattle.archive_port.specs.Told.{archive_in}
use Rattle.archive_pages.proofs.answering.answer.Goals as goal

pub returns-clause-answered : goal.returns-clause-answered
returns-clause-answered g c = c.answer_cached.ensures.answered (λ returned held.
    subst (IsCacheCoherent (archive_in g.S.ArchiveState c.args.store.now) c.args.policy.now c.args.day) (sym c.new.ensures) (tt, tt))
