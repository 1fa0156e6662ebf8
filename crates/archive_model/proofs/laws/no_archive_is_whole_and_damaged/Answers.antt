use Rattle.archive_model.proofs.ListedLemmas as listed
use Rattle.archive_model.proofs.laws.no_archive_is_whole_and_damaged.Goals as goal

pub returns-clause-apart : goal.returns-clause-apart
returns-clause-apart c = listed.not_both

pub returns-clause-alone : goal.returns-clause-alone
returns-clause-alone c = listed.one_first

pub returns-clause-sound : goal.returns-clause-sound
returns-clause-sound c = listed.whole_is_sound

pub returns-clause-whole : goal.returns-clause-whole
returns-clause-whole c = listed.sound_is_whole
