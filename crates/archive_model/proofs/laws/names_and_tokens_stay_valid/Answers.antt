use Rattle.std.specs.Prelude.{⊤}
use Rattle.archive_model.specs.Sound.{HasValidNamesAndTokens}
use Rattle.archive_model.proofs.RunLemmas.{kept_by_steps, kept_by_runs}
use Rattle.archive_model.proofs.WordLemmas.{words}
use Rattle.archive_model.proofs.laws.names_and_tokens_stay_valid.Goals as goal

pub returns-clause-step : goal.returns-clause-step
returns-clause-step c = λ a command. kept_by_steps HasValidNamesAndTokens (λ _. ⊤) words a command tt

pub returns-clause-run : goal.returns-clause-run
returns-clause-run c = λ a commands. kept_by_runs HasValidNamesAndTokens (λ _. ⊤) words a commands (λ k d within. tt)
