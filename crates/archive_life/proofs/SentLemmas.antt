-- A server that was refused for another reason than F4 sent nothing.
use Rattle.std.proofs.Common.{◌≡◌, ◌≢◌, ◌∙◌, ◌⊎◌, inl, inr, ap, refl, append-nil, ℕ, ℤ, List, [], ◌++◌, Ok, Err}
use Rattle.policy_core.specs.Rules.{Rule}
use Rattle.archive_listen.specs.declared.connections.BoundListener.{BoundListener}
use Rattle.archive_args.specs.Values.{ServeValues}
use Rattle.archive_args.specs.declared.orders.Order.TheVariants.{Serve}
use Rattle.sift_run.specs.declared.faults.CommandError.TheVariants.{Write, Memory}
use Rattle.archive_run.specs.Runs.{RunsOrder}
use Rattle.archive_run.specs.Serving.{RefusesServing, ServerOutput, server_output}
use Rattle.archive_run.specs.Environments.{DeviceContracts}
use Rattle.archive_run.specs.declared.faults.RunError.{RunError}
use Rattle.archive_run.specs.declared.faults.RunError.TheVariants.{Run, Net}
use Rattle.archive_run.specs.declared.world.Environment.{Environment}

module _ {Y S F D C P T R O E W I L K A B M : Type 0} (dev : DeviceContracts S W F I D C P L T R O E)
    (listens_none : (before after : P) (port : ℕ) (listening : BoundListener L) → dev.listens before after port (Ok listening)
    → (dev.went after ≡ dev.went before) × (dev.over listening.listener ≡ []))
    (old stopped : Environment Y S F D C P T R O E W I L K A B M) (order : ServeValues) where
  abbrev SendsNothing : Type 0
  SendsNothing = dev.went stopped.ports ≡ dev.went old.ports

  -- a listener that gave no connection was ended
  ended_unused : (ports : P) (listening : BoundListener L) → dev.listens old.ports ports order.port (Ok listening)
      → dev.went stopped.ports ≡ dev.went ports ++ dev.over listening.listener → SendsNothing
  ended_unused ports listening had ended =
      let none = listens_none old.ports ports order.port listening had in
      ended ∙ ap (λ over. dev.went ports ++ over) none.1 ∙ append-nil (dev.went ports) ∙ none.0

  refused_serving : (refusal : RunError) → refusal ≢ Net → (ports : P) (listening : BoundListener L) → dev.listens old.ports ports order.port (Ok listening)
      → (rules : List Rule) (day : ℤ) (o c : S) (before after : ServerOutput)
      → RefusesServing dev.archive dev.accepts dev.shuts dev.over dev.went ports stopped.ports rules day listening o c before after order.count refusal → SendsNothing
  refused_serving Net other ports listening had rules day o c before after it = absurd (other refl)
  refused_serving (Run Write) other ports listening had rules day o c before after it = ended_unused ports listening had it.0.1
  refused_serving (Run Memory) other ports listening had rules day o c before after it = ended_unused ports listening had it.0.1
  refused_serving refusal other ports listening had rules day o c before after it = absurd it

  sends_nothing : (refusal : RunError) → refusal ≢ Net → RunsOrder dev old stopped (Serve order) (Err refusal) → SendsNothing
  sends_nothing refusal other (inr (made, e, same)) = ap (λ (w : Environment Y S F D C P T R O E W I L K A B M). dev.went w.ports) same
  sends_nothing refusal other (inl (made, (inl (never, same)), more)) = ap (λ (w : Environment Y S F D C P T R O E W I L K A B M). dev.went w.ports) same
  sends_nothing refusal other (inl (made, (inr (rules, is, (inl (e, none, same)))), more)) =
      ap (λ (w : Environment Y S F D C P T R O E W I L K A B M). dev.went w.ports) same
  sends_nothing refusal other (inl (made, (inr (rules, is, (inr (clock, day, given, (inl (never, same)))))), more)) =
      ap (λ (w : Environment Y S F D C P T R O E W I L K A B M). dev.went w.ports) same
  sends_nothing refusal other (inl (made, (inr (rules, is, (inr (clock, day, given, (inr (works, same)))))), more)) = elim works.store_changes [
    | inl none ↦ absurd (other none.0)
    | inr it ↦ refused_serving refusal other it.1 it.0 it.2 rules day works.store_before works.store_after
        (server_output dev.takes dev.passes dev.notes old.output old.faults) (server_output dev.takes dev.passes dev.notes stopped.output stopped.faults) it.3
  ]

  pub refused_sends_nothing : (refusal : RunError) → refusal ≢ Net → ((refusal ≡ Run Memory) × (stopped ≡ old)) ⊎ RunsOrder dev old stopped (Serve order) (Err refusal) → SendsNothing
  refused_sends_nothing refusal other (inl (e, same)) = ap (λ (w : Environment Y S F D C P T R O E W I L K A B M). dev.went w.ports) same
  refused_sends_nothing refusal other (inr ran) = sends_nothing refusal other ran
