use Rattle.std.proofs.Common.{◌≡◌, refl, ap, None, false, rules}
use Rattle.archive_results.specs.Access.{Ask, message_facts, ruling_on}
use Rattle.archive_results.proofs.AccessLemmas.{unasked_ruling, unaddressed_ruling}
use Rattle.archive_results.proofs.access.asks_author.Goals as goal

pub returns-then-asks_own-clause-alike : goal.returns-then-asks_own-clause-alike
returns-then-asks_own-clause-alike c = λ none m.
    let nobody : c.args.reader.now.address ≡ None = search rules in
    unaddressed_ruling c.args.ask.now c.args.reader.now m nobody

pub returns-else-asks_own-clause-alike : goal.returns-else-asks_own-clause-alike
returns-else-asks_own-clause-alike c = λ none m.
    let marks = record (message_facts None m) { own = false } in
    unasked_ruling c.args.ask.now c.args.reader.now m marks (ruling_on c.args.ask.now c.args.reader.now marks) c.ask.inside.policy.now
    (ap (λ (ask : Ask). ask.rules) c.ask.view_is) (c.asks_own.ensures.alike none) refl refl
