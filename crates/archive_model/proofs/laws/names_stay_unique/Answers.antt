use Rattle.std.specs.Prelude.{⊤}
use Rattle.archive_model.specs.Sound.{HasUniqueNames}
use Rattle.archive_model.proofs.RunLemmas.{kept_by_steps, kept_by_runs}
use Rattle.archive_model.proofs.NameLemmas.{names}
use Rattle.archive_model.proofs.laws.names_stay_unique.Goals as goal

pub returns-clause-step : goal.returns-clause-step
returns-clause-step c = λ a command. kept_by_steps HasUniqueNames (λ _. ⊤) names a command tt

pub returns-clause-run : goal.returns-clause-run
returns-clause-run c = λ a commands. kept_by_runs HasUniqueNames (λ _. ⊤) names a commands (λ k d within. tt)
