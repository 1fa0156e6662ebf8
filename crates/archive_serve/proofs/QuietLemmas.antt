-- A server writes nothing to its store.
use Rattle.std.proofs.Common.{◌≡◌, inl, inr, ℕ, ℤ, List, [], ◌∷◌, Bool, Option, subst}
use Rattle.archive_port.specs.declared.state.ArchiveState.{Ghosts}
use Rattle.policy_core.specs.Rules.{Rule}
use Rattle.archive_port.specs.Crashes.{CrashMayLeave, WritesNothing}
use Rattle.archive_listen.specs.Connections.{ConnectionResult, ErrorStreamState, Exchange}
use Rattle.archive_listen.specs.Serving.{ServerState, ServesAllConnections, ServesEachConnection, ServesFewerConnections, ServesOneConnection}
use Rattle.archive_listen.specs.declared.faults.AcceptError.{AcceptError}
use Rattle.archive_serve.specs.Runs.{ServingAnswerLaw}

module _ {S W : Type 0} (g : Ghosts S W) where
  -- a store that is the same but for what is counted of it
  pub same_writes_nothing : (old new : S) → new ≡ old → WritesNothing g old new
  same_writes_nothing old new is = λ db may. subst (λ s. CrashMayLeave g s db) is may

-- connections one after the other
module _ {S W L : Type 0} (g : Ghosts S W) (accepts : L → L → Option AcceptError → Type 0) (closes : L → L → Exchange → Bool → Type 0)
    (rules : List Rule) (day : ℤ) (old new : S) where
  one_writes_nothing : (outcome : ConnectionResult) (before after : ServerState L S) → ServesOneConnection (ServingAnswerLaw g rules day old new) accepts closes outcome before after
      → WritesNothing g before.state after.state
  one_writes_nothing outcome before after (inl takes) = takes.is_answered.is_answered.ends.writes_nothing
  one_writes_nothing outcome before after (inr gone) = same_writes_nothing g before.state after.state gone.state_is_same

  each_writes_nothing : (outcomes : List ConnectionResult) (before after : ServerState L S)
      → ServesEachConnection (ServingAnswerLaw g rules day old new) accepts closes outcomes before after → WritesNothing g before.state after.state
  each_writes_nothing [] before after same = λ db may. subst (λ (s : ServerState L S). CrashMayLeave g s.state db) same may
  each_writes_nothing (outcome ∷ outcomes) before after (between, first, rest) = λ db may.
      one_writes_nothing outcome before between first db (each_writes_nothing outcomes between after rest db may)

  module _ (first : ServerState L S) (before after : ErrorStreamState) (count : ℕ) (end : ServerState L S) where
    pub all_write_nothing : ServesAllConnections (ServingAnswerLaw g rules day old new) accepts closes first before after count end → WritesNothing g first.state end.state
    all_write_nothing (outcomes, is, run) = each_writes_nothing outcomes first end run.serves_each

    pub fewer_write_nothing : ServesFewerConnections (ServingAnswerLaw g rules day old new) accepts closes first before after count end → WritesNothing g first.state end.state
    fewer_write_nothing (outcomes, last, fewer, run, same, gone) = λ db may.
        each_writes_nothing outcomes first last run.serves_each db (same_writes_nothing g last.state end.state same db may)
