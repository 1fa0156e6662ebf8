use Rattle.std.specs.Prelude.{⊤}
use Rattle.archive_model.specs.Sound.{HasOneOptionPerList}
use Rattle.archive_model.proofs.RunLemmas.{kept_by_steps, kept_by_runs}
use Rattle.archive_model.proofs.NameLemmas.{options}
use Rattle.archive_model.proofs.laws.each_list_keeps_one_option.Goals as goal

pub returns-clause-step : goal.returns-clause-step
returns-clause-step c = λ a command. kept_by_steps HasOneOptionPerList (λ _. ⊤) options a command tt

pub returns-clause-run : goal.returns-clause-run
returns-clause-run c = λ a commands. kept_by_runs HasOneOptionPerList (λ _. ⊤) options a commands (λ k d within. tt)
