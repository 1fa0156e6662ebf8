use Rattle.std.specs.Prelude.{⊤}
use Rattle.archive_model.specs.Sound.{IsIndexedCorrectly}
use Rattle.archive_model.proofs.RunLemmas.{kept_by_steps, kept_by_runs}
use Rattle.archive_model.proofs.FilingLemmas.{files_right}
use Rattle.archive_model.proofs.laws.commands_keep_index_columns_correct.Goals as goal

pub returns-clause-step : goal.returns-clause-step
returns-clause-step c = λ a command. kept_by_steps IsIndexedCorrectly (λ _. ⊤) files_right a command tt

pub returns-clause-run : goal.returns-clause-run
returns-clause-run c = λ a commands. kept_by_runs IsIndexedCorrectly (λ _. ⊤) files_right a commands (λ k d within. tt)
