use Rattle.std.proofs.lemmas.Result.{IfOk-weaker}
use Rattle.example_stopped.specs.Stopping.{IsReopenedAfterCrash, IsOpenedFrom}
use Rattle.example_stopped.proofs.StopLemmas.{found_behind}
use Rattle.example_stopped.proofs.stopping.stop_and_reopen.Goals as goal

pub returns-clause-found : goal.returns-clause-found
returns-clause-found g c =
    IfOk-weaker c.open.result (λ again. IsOpenedFrom c.crash_store-files.result again) (λ again. IsReopenedAfterCrash c.args.store again)
    (λ again opened. found_behind c.args.store again c.crash_store-files.result c.crash_store-files.ensures.left opened) c.open.ensures.opened
