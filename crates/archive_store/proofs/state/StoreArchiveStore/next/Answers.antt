use Rattle.archive_store.proofs.StateLemmas.{gives_next, next_caused, ends_unrefused}
use Rattle.archive_store.specs.Walking.{walk_over_store}
use Rattle.archive_store.proofs.state.StoreArchiveStore.next.Goals as goal

pub returns-clause-given : goal.returns-clause-given
returns-clause-given g c = gives_next g.S.Store (walk_over_store c.args.self.now c.args.walk.now) (walk_over_store c.next.new.store c.next.new.self) c.next.result c.next.ensures.given

pub returns-clause-caused : goal.returns-clause-caused
returns-clause-caused g c = next_caused g.S.Store (walk_over_store c.args.self.now c.args.walk.now) (walk_over_store c.next.new.store c.next.new.self) c.next.result c.next.ensures.caused

pub returns-clause-ends : goal.returns-clause-ends
returns-clause-ends g c = ends_unrefused g.S.Store c.args.self.now c.next.new.store c.next.result c.next.ensures.ends
