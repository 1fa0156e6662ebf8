use Rattle.archive_model.proofs.RunLemmas as laws
use Rattle.archive_model.proofs.laws.a_run_is_its_parts_in_turn.Goals as goal

pub returns-clause-archive : goal.returns-clause-archive
returns-clause-archive c = laws.archive_of_both

pub returns-clause-replies : goal.returns-clause-replies
returns-clause-replies c = laws.replies_of_both
