use Rattle.std.specs.Prelude.{⊤}
use Rattle.archive_store.proofs.CrashLemmas.{left_safe, live_is_safe}
use Rattle.archive_store.proofs.laws.a_crash_between_calls_leaves_what_is_remembered.Goals as goal

pub returns : goal.returns
returns g c = record {
  opened = λ connection kept live. live_is_safe g.S.Store connection (λ db up may. g.met.S.Store.settled connection.store db up may) kept live;
  called = λ connection kept left. left_safe g.S.Store connection (λ db up may. g.met.S.Store.settled connection.store db up may) kept (λ _. ⊤) left;
}
