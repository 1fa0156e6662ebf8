use Rattle.std.proofs.Common.{rules}
use Rattle.std.proofs.lemmas.List.Sorted.{answers_always}
use Rattle.std.proofs.lemmas.Result.{on_ok_weaker}
use Rattle.archive_memory.specs.declared.selecting.DatedPlace.{DatedPlace}
use Rattle.archive_memory.proofs.SentLemmas.{sorted}
use Rattle.archive_memory.proofs.selecting.sort_by_sent.Goals as goal

pub returns : goal.returns
returns c =
    let sent : DatedPlace → _ = λ p. p.sent in
    let keys = answers_always _ _ _ (λ f a r next called. search rules) in
    on_ok_weaker c.sort_by_key.result (λ up. sorted _ _ (up sent keys) (c.sort_by_key.ensures.stable sent keys)) c.sort_by_key.ensures.sorted
