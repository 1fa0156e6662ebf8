use Rattle.archive_serve.proofs.SteadyLemmas.{leaves_ready}
use Rattle.archive_serve.proofs.laws.whole_replies_leave_the_store_ready.Goals as goal

pub returns : goal.returns
returns g c = leaves_ready g.S.ArchiveState g.met.S.ArchiveStore.at_rest_is_open g.L.Listener.accepts g.L.Listener.closes
