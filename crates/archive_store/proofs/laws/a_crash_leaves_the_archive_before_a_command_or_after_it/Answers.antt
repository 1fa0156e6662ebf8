use Rattle.archive_store.proofs.CrashLemmas.{stops_in}
use Rattle.archive_store.proofs.laws.a_crash_leaves_the_archive_before_a_command_or_after_it.Goals as goal

pub returns : goal.returns
returns g c = λ old new step reply does crash. stops_in g.S.Store old new (λ db up may. g.met.S.Store.settled new.store db up may) step reply does crash
