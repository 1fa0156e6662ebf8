-- Why a sift is refused, and what came of one that the output failed to pass on.
use Rattle.std.proofs.Common.{◌≡◌, ℕ, List, length, Result, Ok, Err, inr, ◌∙◌, subst}
use Rattle.std.specs.Prelude.{⊤}
use Rattle.policy_core.specs.Rules.{Rule}
use Rattle.archive_args.specs.Values.{SiftValues}
use Rattle.byte_device.specs.declared.devices.Sink.{Ghosts as Takes}
use Rattle.byte_device.specs.declared.devices.Source.{Ghosts as Reads}
use Rattle.archive_listen.specs.declared.connections.BufferedSink.{Ghosts as Passes}
use Rattle.archive_listen.specs.Connections.{ErrorStreamState}
use Rattle.sift_run.specs.Running.{AreRulesOfPolicyFile, SiftEndsByPolicy, SiftEndsByRules}
use Rattle.sift_run.specs.Sifting.{SiftConditions, FilteringFails, FiltersTranscriptPartly, FiltersTranscript}
use Rattle.sift_run.specs.Streams.{InputStreamState}
use Rattle.sift_run.specs.declared.clock.DayClock.{Ghosts as Tells}
use Rattle.sift_run.specs.declared.sifting.SiftFault.{SiftFault}
use Rattle.sift_run.specs.declared.faults.CommandError.{CommandError}
use Rattle.sift_run.specs.declared.files.ReadFiles.{Ghosts as Gives}
use Rattle.sift_run.proofs.ResultLemmas.{whole_cut}

-- the same fault
pub not_at : (rules : List Rule) (asked : SiftConditions) (in_old in_new : InputStreamState) (out_old out_new : ErrorStreamState) (f same : SiftFault) → f ≡ same
    → FilteringFails rules asked in_old in_new out_old out_new f → FilteringFails rules asked in_old in_new out_old out_new same
not_at rules asked in_old in_new out_old out_new f same e it =
    let P : SiftFault → Type 0 = λ x. FilteringFails rules asked in_old in_new out_old out_new x in
    subst P e it

-- the messages that pass were written, and an output that told no more was not passed on
pub sifted_whole : (rules : List Rule) (asked : SiftConditions) (in_old in_new out_old mid out_new : List ℕ) → out_new ≡ mid
    → (told : FiltersTranscript rules asked in_old in_new out_old mid) → FiltersTranscriptPartly rules asked in_old in_new out_old out_new (length told.1)
sifted_whole rules asked in_old in_new out_old mid out_new same told =
    (told.0, told.1, told.2, told.4, λ short. whole_cut out_old out_new told.1 (same ∙ told.3))

-- what came of it by the rules of the policy
module _ {C R O F : Type 0} (tells : Tells C) (reads : Reads R) (writes : Takes O) (passes : Passes O) (clock_old clock_new : C) (in_old in_new : R)
    (out_old out_new : O) (gives : Gives F) (files : F) (order : SiftValues) (rules : List Rule) (is : AreRulesOfPolicyFile gives files order.policy rules) where
  pub run_by_policy : (result : Result ⊤ CommandError)
      → SiftEndsByRules tells reads writes passes clock_old clock_new in_old in_new out_old out_new order rules result
      → SiftEndsByPolicy tells reads writes passes clock_old clock_new in_old in_new out_old out_new gives files order result
  run_by_policy (Ok done) it = (rules, is, it)
  run_by_policy (Err fault) it = inr (rules, is, it)
