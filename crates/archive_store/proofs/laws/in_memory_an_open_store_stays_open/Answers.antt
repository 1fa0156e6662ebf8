use Rattle.archive_store.proofs.AdoptLemmas.{memory_stays_open}
use Rattle.archive_store.proofs.laws.in_memory_an_open_store_stays_open.Goals as goal

pub returns : goal.returns
returns c = λ old new lasts up. memory_stays_open old new lasts up
