use Rattle.sqlite.specs.Steps.{over_memory}
use Rattle.archive_store.specs.State.{state_of}
use Rattle.archive_desk.proofs.UnbrokenLemmas.{never_broken, never_cut_off, never_lost}
use Rattle.archive_stored.proofs.MemoryLemmas.{memory_is_untroubled}
use Rattle.archive_stored.proofs.laws.in_memory_no_question_fails.Goals as goal

pub returns-clause-question : goal.returns-clause-question
returns-clause-question g c = λ old new result ask fully_readable. never_broken (state_of over_memory) old new (memory_is_untroubled old new fully_readable) result ask

pub returns-clause-export : goal.returns-clause-export
returns-clause-export g c = λ old new result ask fully_readable. never_cut_off (state_of over_memory) old new (memory_is_untroubled old new fully_readable) result ask

pub returns-clause-names : goal.returns-clause-names
returns-clause-names g c = λ old new result fully_readable. never_lost (state_of over_memory) old new (memory_is_untroubled old new fully_readable) result
