use Rattle.archive_sound.proofs.CommandLemmas.{never_refused, never_next, is_sound}
use Rattle.archive_sound.proofs.laws.no_command_is_refused.Goals as goal

pub returns-clause-any : goal.returns-clause-any
returns-clause-any c = never_refused

pub returns-clause-live : goal.returns-clause-live
returns-clause-live c = λ limit command db schema tables live range room. never_refused limit command db (is_sound db schema tables live) range room

pub returns-clause-next : goal.returns-clause-next
returns-clause-next c = never_next
