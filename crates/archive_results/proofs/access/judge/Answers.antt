use Rattle.std.proofs.Common.{◌≡◌, false, ap}
use Rattle.archive_model.specs.Messages.{archived_message}
use Rattle.archive_results.specs.Access.{Ask}
use Rattle.archive_results.proofs.AccessLemmas.{unasked_ruling}
use Rattle.archive_results.proofs.access.judge.Goals as goal

pub returns-then-not-asks_own-clause-said : goal.returns-then-not-asks_own-clause-said
returns-then-not-asks_own-clause-said c = λ list.
    let none : c.asks_own.result ≡ false = cc in
    unasked_ruling c.args.ask.now c.args.reader.now (archived_message list c.args.message.now) c.marks_with.result _ c.ask.inside.policy.now
    (ap (λ (ask : Ask). ask.rules) c.ask.view_is) (c.asks_own.ensures.alike none) (c.marks_with.ensures list) c.verdict.ensures
