-- What is filed stays right: what each change of the store leaves, in the words for the layers above.
use Rattle.std.proofs.Common.{refl}
use Rattle.std.specs.Prelude.{⊤}
use Rattle.archive_model.specs.Records.{Archive}
use Rattle.archive_model.specs.Commands.{Command}
use Rattle.archive_model.specs.Machine.{step}
use Rattle.archive_model.specs.Sound.{IsIndexedCorrectly}
use Rattle.archive_model.proofs.FilingLemmas.{files_right}
use Rattle.archive_model.proofs.RunLemmas.{kept_by_steps}
use Rattle.archive_tables.specs.Making.{empty_archive}

-- a command
pub step_right : (command : Command) (a : Archive) → IsIndexedCorrectly a → IsIndexedCorrectly (step a command).0
step_right command a right = kept_by_steps IsIndexedCorrectly (λ _. ⊤) files_right a command tt right

-- nothing is filed
pub empty_right : IsIndexedCorrectly empty_archive
empty_right = refl
