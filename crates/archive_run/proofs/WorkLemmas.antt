-- A database that is opened, worked on, and closed.
use Rattle.std.proofs.Common.{◌⊎◌, inr, ℕ, List, Result, Ok, Err}
use Rattle.std.specs.Prelude.{MatchResult}
use Rattle.archive_port.specs.declared.state.ArchiveState.{Ghosts as StateOf}
use Rattle.archive_port.specs.declared.faults.StoreFault.{StoreFault}
use Rattle.archive_args.specs.Values.{StoreCommand}
use Rattle.archive_commands.specs.Working.{CarriesOutCommand, EndsStoreCommand}
use Rattle.archive_commands.specs.declared.commands.Answer.{Answer}
use Rattle.archive_run.specs.Databases.{UsesDatabase}
use Rattle.archive_run.specs.Working.{RefusesCommand}
use Rattle.archive_port.specs.declared.databases.Databases.{Ghosts}
use Rattle.archive_run.specs.declared.faults.RunError.TheVariants as refusal

module _ {S D : Type 0} (keeps : Ghosts D S) (old device new : D) (file : List ℕ) (before after : S)
    (opened : keeps.opens old device file (Ok before)) (closed : keeps.closes device new after) where
  pub works : (Becomes : S → S → Type 0) → Becomes before after → UsesDatabase keeps old new file Becomes
  works Becomes becomes = record { device = device; store_before = before; store_after = after; opens_database = opened; store_changes = becomes; closes_database = closed }

  -- whatever came of the work, after what an opening that failed would say
  pub worked : {A E : Type 0} (result : Result A E) (Said : A → S → S → Type 0) (Failed : E → S → S → Type 0) (Unopened : E → Type 0)
      → MatchResult result (λ a. Said a before after) (λ e. Failed e before after)
      → MatchResult result (λ a. UsesDatabase keeps old new file (Said a)) (λ e. Unopened e ⊎ UsesDatabase keeps old new file (Failed e))
  worked (Ok a) Said Failed Unopened it = works (Said a) it
  worked (Err e) Said Failed Unopened it = inr (works (Failed e) it)

  -- the same of one fact over the whole result
  pub worked_by : {A E : Type 0} (result : Result A E) (Becomes : Result A E → S → S → Type 0) (Unopened : E → Type 0)
      → Becomes result before after
      → MatchResult result (λ a. UsesDatabase keeps old new file (Becomes (Ok a))) (λ e. Unopened e ⊎ UsesDatabase keeps old new file (Becomes (Err e)))
  worked_by (Ok a) Becomes Unopened it = works (Becomes (Ok a)) it
  worked_by (Err e) Becomes Unopened it = inr (works (Becomes (Err e)) it)

-- a command that was carried out, or refused
pub carried : {S W : Type 0} (pages : StateOf S W) (old new : S) (command : StoreCommand) (result : Result Answer StoreFault)
    → CarriesOutCommand pages old new command result → EndsStoreCommand pages old new command result
    → MatchResult result (λ answer. CarriesOutCommand pages old new command (Ok answer)) (λ fault. RefusesCommand pages old new command (refusal.Store fault))
carried pages old new command (Ok answer) it ends = it
carried pages old new command (Err fault) it ends = (it, (ends.refusals_counted.1, ends.fault_has_cause))
