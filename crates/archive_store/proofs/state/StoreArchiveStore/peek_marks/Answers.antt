use Rattle.archive_store.proofs.StateLemmas.{peeks, next_caused, ends_unrefused}
use Rattle.archive_store.specs.Walking.{walk_over_store}
use Rattle.archive_store.proofs.state.StoreArchiveStore.peek_marks.Goals as goal

pub returns-clause-shown : goal.returns-clause-shown
returns-clause-shown g c = peeks g.S.Store (walk_over_store c.args.self.now c.args.walk.now) (walk_over_store c.peek_marks.new.store c.peek_marks.new.self) c.peek_marks.result
    c.peek_marks.ensures.shown

pub returns-clause-caused : goal.returns-clause-caused
returns-clause-caused g c = next_caused g.S.Store (walk_over_store c.args.self.now c.args.walk.now) (walk_over_store c.peek_marks.new.store c.peek_marks.new.self) c.peek_marks.result
    c.peek_marks.ensures.caused

pub returns-clause-ends : goal.returns-clause-ends
returns-clause-ends g c = ends_unrefused g.S.Store c.args.self.now c.peek_marks.new.store c.peek_marks.result c.peek_marks.ensures.ends
