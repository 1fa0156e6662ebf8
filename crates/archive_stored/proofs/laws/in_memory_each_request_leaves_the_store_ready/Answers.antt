use Rattle.archive_stored.proofs.MemoryLemmas.{memory_stays_open}
use Rattle.archive_stored.proofs.laws.in_memory_each_request_leaves_the_store_ready.Goals as goal

pub returns : goal.returns
returns c = λ old new result stays. (
  stays.archive_is_same.0,
  λ returned held. stays.archive_is_same.1 returned held (memory_stays_open old new stays.archive_is_same.0 held.is_open),
)
