-- What an order came to: by its rules, on its day, and with its databases closed.
use Rattle.std.proofs.Common.{◌≡◌, ap, inr, ℕ, ℤ, true, List, Option, Some, Result, Ok, Err}
use Rattle.std.specs.Prelude.{⊤}
use Rattle.policy_core.specs.Rules.{Rule}
use Rattle.archive_run.specs.Orders.{RunsByPolicy, RunsOnDay}
use Rattle.sift_run.specs.Running.{AreRulesOfPolicyFile, IsReadingDay}
use Rattle.sift_run.specs.declared.clock.DayClock.{Ghosts as Tells}
use Rattle.archive_run.specs.declared.faults.RunError.{RunError}
use Rattle.sift_run.specs.declared.files.ReadFiles.{Ghosts as Gives}
use Rattle.archive_run.specs.declared.world.Environment.{Environment}

module _ {Y S F D C P T R O E W I L K A B M : Type 0} (old new : Environment Y S F D C P T R O E W I L K A B M) where
  -- what one thing more was done to
  pub with_databases : (databases : D) → new ≡ old → record new { databases = databases } ≡ record old { databases = databases }
  with_databases databases e = ap (λ (w : Environment Y S F D C P T R O E W I L K A B M). record w { databases = databases }) e

  pub databases_of : new ≡ old → new.databases ≡ old.databases
  databases_of e = ap (λ (w : Environment Y S F D C P T R O E W I L K A B M). w.databases) e

  pub by_policy : (gives : Gives F) (policy : Option (List ℕ)) (Runs : List Rule → Result ⊤ RunError → Type 0) (rules : List Rule)
      → AreRulesOfPolicyFile gives old.files policy rules → (result : Result ⊤ RunError) → Runs rules result → RunsByPolicy old new gives policy Runs result
  by_policy gives policy Runs rules is (Ok done) it = (rules, is, it)
  by_policy gives policy Runs rules is (Err refusal) it = inr (rules, is, it)

  pub on_day : (tells : Tells C) (given : Option ℤ) (Runs : Environment Y S F D C P T R O E W I L K A B M → ℤ → Result ⊤ RunError → Type 0) (clock : C) (day : ℤ)
      → IsReadingDay tells given true old.clock clock (Some day) → (result : Result ⊤ RunError) → Runs (record old { clock = clock }) day result
      → RunsOnDay old new tells given Runs result
  on_day tells given Runs clock day is (Ok done) it = (clock, day, is, it)
  on_day tells given Runs clock day is (Err refusal) it = inr (clock, day, is, it)
