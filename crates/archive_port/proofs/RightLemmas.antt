-- What is filed stays right: what each change of the archive leaves.
use Rattle.std.proofs.Common.{◌≡◌, ℕ, List, [], map, refl}
use Rattle.std.specs.Prelude.{⊤}
use Rattle.mbox_items.specs.Division.{Item}
use Rattle.archive_model.specs.Records.{Archive}
use Rattle.archive_model.specs.Commands.{Command, add}
use Rattle.archive_model.specs.Machine.{step}
use Rattle.archive_model.specs.Runs.{run, taken}
use Rattle.archive_model.specs.Sound.{IsIndexedCorrectly}
use Rattle.archive_model.proofs.FilingLemmas.{files_right}
use Rattle.archive_model.proofs.RunLemmas.{kept_by_steps, kept_by_runs}

-- a command
pub step_right : (command : Command) (a : Archive) → IsIndexedCorrectly a → IsIndexedCorrectly (step a command).0
step_right command a right = kept_by_steps IsIndexedCorrectly (λ _. ⊤) files_right a command tt right

-- commands one after the other
pub run_right : (a : Archive) (commands : List Command) → IsIndexedCorrectly a → IsIndexedCorrectly (run a commands).archive
run_right a commands right = kept_by_runs IsIndexedCorrectly (λ _. ⊤) files_right a commands (λ k d within. tt) right

-- messages that are added to a list
pub taken_right : (a : Archive) (list : List ℕ) (items : List Item) → IsIndexedCorrectly a → IsIndexedCorrectly (taken a list items).archive
taken_right a list items right = run_right a (map (add list) items) right

-- no command changes nothing
pub run_nothing : (a : Archive) → a ≡ (run a []).archive
unfolding run
run_nothing a = refl
