use Rattle.std.proofs.lemmas.Result.{IfOk-weaker}
use Rattle.example_reopened.specs.Reopening.{RemembersSameArchive, StoreAdoptsFiles, WasReopened}
use Rattle.example_reopened.proofs.ReopenLemmas.{was_reopened, remembers}
use Rattle.example_reopened.proofs.reopening.reopen.Goals as goal

pub returns-in-Ok-clause-reopened : goal.returns-in-Ok-clause-reopened
returns-in-Ok-clause-reopened g c =
    IfOk-weaker c.open.result (λ again. StoreAdoptsFiles c.in-Ok.files again) (λ again. WasReopened c.args.store again)
    (λ again takes. was_reopened c.args.store again c.in-Ok.files c.in-Ok.ensures.live c.in-Ok.ensures.copied takes) c.open.ensures.opened

pub returns-in-Ok-clause-same : goal.returns-in-Ok-clause-same
returns-in-Ok-clause-same g c =
    IfOk-weaker c.open.result (λ again. StoreAdoptsFiles c.in-Ok.files again) (λ again. RemembersSameArchive c.args.store again)
    (λ again takes. remembers c.args.store again c.a_file_opened_again_holds_the_same_archive.ensures
    (was_reopened c.args.store again c.in-Ok.files c.in-Ok.ensures.live c.in-Ok.ensures.copied takes)) c.open.ensures.opened
