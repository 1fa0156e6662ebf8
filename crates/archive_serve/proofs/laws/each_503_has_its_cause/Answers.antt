use Rattle.archive_serve.proofs.PeerLemmas.{each_has_cause}
use Rattle.archive_serve.proofs.laws.each_503_has_its_cause.Goals as goal

pub returns : goal.returns
returns g c =
    each_has_cause g.S.ArchiveState g.L.Listener.over g.L.Listener.accepts g.L.Listener.closes g.met.L.Listener.accepts_none g.met.L.Listener.closes_one g.met.S.ArchiveStore.at_rest_is_open
