use Rattle.archive_store.proofs.AdoptLemmas.{memory_refuses}
use Rattle.archive_store.proofs.adopting.Store+MemStore.open_in_memory.Goals as goal

pub returns-in-Err-clause-fault : goal.returns-in-Err-clause-fault
returns-in-Err-clause-fault c =
    memory_refuses c.in_ok-open_in_memory.field-0 c.in-Err.field-0 c.in_ok-open_in_memory.ensures.empty c.in_ok-open_in_memory.ensures.fresh c.in-Err.ensures.refused
