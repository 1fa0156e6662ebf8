use Rattle.archive_serve.proofs.PeerLemmas.{each_gets}
use Rattle.archive_serve.proofs.laws.each_peer_gets_its_reply.Goals as goal

pub returns : goal.returns
returns g c =
    each_gets g.S.ArchiveState g.L.Listener.over g.L.Listener.accepts g.L.Listener.closes g.met.L.Listener.accepts_none g.met.L.Listener.closes_one
