use Rattle.archive_sound.proofs.CauseLemmas.{never_next_ordinary}
use Rattle.archive_sound.proofs.ItemLemmas.{never_an_item_left}
use Rattle.archive_sound.proofs.RoomLemmas.{never_a_command}
use Rattle.archive_sound.proofs.laws.no_run_is_refused.Goals as goal

pub returns-clause-run : goal.returns-clause-run
returns-clause-run c = never_a_command

pub returns-clause-next : goal.returns-clause-next
returns-clause-next c = never_next_ordinary

pub returns-clause-items : goal.returns-clause-items
returns-clause-items c = never_an_item_left
