use Rattle.archive_pages.specs.Causes.{IsInputDataUnreadable}
use Rattle.archive_pages.proofs.CauseLemmas.{nothing_unread}
use Rattle.archive_stored.proofs.MemoryLemmas.{memory_refused}
use Rattle.archive_stored.proofs.laws.in_memory_503_means_that_memory_was_refused.Goals as goal

pub returns : goal.returns
returns c = λ old new result told_before told_after rules day held free can serves bad.
    memory_refused old new held free (IsInputDataUnreadable told_before told_after rules day) (nothing_unread _ can rules day told_before told_after) (serves.1 bad)
