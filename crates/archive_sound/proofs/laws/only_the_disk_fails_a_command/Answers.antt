use Rattle.archive_sound.proofs.CauseLemmas.{only_disk}
use Rattle.archive_sound.proofs.laws.only_the_disk_fails_a_command.Goals as goal

pub returns : goal.returns
returns g c = only_disk g.S.Store
