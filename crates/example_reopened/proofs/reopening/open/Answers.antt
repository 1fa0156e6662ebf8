use Rattle.example_reopened.proofs.ReopenLemmas.{takes_over}
use Rattle.example_reopened.proofs.reopening.open.Goals as goal

pub returns-in-Ok-adopt-clause-opened : goal.returns-in-Ok-adopt-clause-opened
returns-in-Ok-adopt-clause-opened g c =
    takes_over c.args.files c.in-Ok-adopt.store c.in-Ok.connection c.in-Ok.ensures.found c.in-Ok.ensures.opened c.in-Ok-adopt.ensures.adopted.disk_was_clean
    c.in-Ok-adopt.ensures.adopted.migrates_older
