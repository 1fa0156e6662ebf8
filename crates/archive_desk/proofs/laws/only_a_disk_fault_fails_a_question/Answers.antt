use Rattle.archive_desk.proofs.UnbrokenLemmas.{never_broken, never_cut_off, never_lost}
use Rattle.archive_desk.proofs.laws.only_a_disk_fault_fails_a_question.Goals as goal

pub returns-clause-question : goal.returns-clause-question
returns-clause-question g c = λ old new result ask well. never_broken g.S.ArchiveState old new well result ask

pub returns-clause-export : goal.returns-clause-export
returns-clause-export g c = λ old new result ask well. never_cut_off g.S.ArchiveState old new well result ask

pub returns-clause-names : goal.returns-clause-names
returns-clause-names g c = λ old new result well. never_lost g.S.ArchiveState old new well result
