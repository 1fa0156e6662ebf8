use Rattle.std.proofs.lemmas.Result.{MatchResult-weaker}
use Rattle.archive_memory.proofs.StateLemmas.{adds}
use Rattle.archive_memory.proofs.state.MemoryArchiveArchiveStore.add_all.Goals as goal

pub returns-clause-step : goal.returns-clause-step
returns-clause-step c = adds c.args.self.now c.add_items.new.self c.args.list.now c.args.items.now c.add_items.result c.items_are_writable.ensures c.add_items.ensures.added

pub returns-clause-total : goal.returns-clause-total
returns-clause-total c = MatchResult-weaker c.add_items.result c.add_items.ensures.told (λ report is. is) (λ stop within. tt)

pub returns-clause-bound : goal.returns-clause-bound
returns-clause-bound c = MatchResult-weaker c.add_items.result c.add_items.ensures.told (λ report is. tt) (λ stop within. within)
