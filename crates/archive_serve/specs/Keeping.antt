-- What a service keeps of an archive from one connection to the next. No caller sees it: it keeps nothing before the first, and is gone
-- behind the last.
use Rattle.std.specs.Prelude.{◌≡◌, ℕ, ℤ, Bool, true, List, Result}
use Rattle.archive_port.specs.declared.state.ArchiveState.{Ghosts}
use Rattle.policy_core.specs.Rules.{Rule}
use Rattle.archive_cache.specs.Views.{CacheState, empty_cache}
use Rattle.archive_cache.specs.Coherence.{IsCacheCoherent, KeepsCacheCoherent}
use Rattle.archive_pages.specs.Answered.{AnswersRequestFromStore}
use Rattle.archive_pages.specs.KeptServing.{IsTrueOfRememberedArchive}
use Rattle.archive_pages.specs.declared.faults.ServeFault.{ServeFault}
use Rattle.archive_listen.specs.Connections.{ConnectionTranscript, ConnectionResult}
use Rattle.archive_serve.specs.Pages.{EndsConnection, Answers404IfUnrouted, connection_result_of}

-- what answers: by which rules, on which day, whether it has routes, and what it keeps
pub record ServingContextState : Type 0 where
  pub rules : List Rule
  pub day : ℤ
  pub routes : Bool
  pub kept : CacheState

-- before the first connection: it has routes, and keeps nothing yet
abbrev pub fresh_serving_context : List Rule → (day : ℤ) → (most : ℕ) → ServingContextState
fresh_serving_context rules day most = record { rules = rules; day = day; routes = true; kept = empty_cache most }

-- One request is answered as the call that answers says, of what the connection told before and after: out of what the store
-- remembers, by the rules and on the day, where what is kept is of that; and what is kept then stays so.
pub record AnswersFromCache {S W : Type 0} (g : Ghosts S W) (keeper later : ServingContextState) (old new : S) (before after : ConnectionTranscript)
    (outcome : ConnectionResult) : Type 0 where
  pub result : Result ℕ ServeFault
  pub is : outcome ≡ connection_result_of result
  pub answered : IsTrueOfRememberedArchive g old new (λ archive. IsCacheCoherent archive keeper.rules keeper.day keeper.kept)
      → AnswersRequestFromStore g old new keeper.rules keeper.day before.read after.read before.ends after.ends before.written after.written result
  pub ends : EndsConnection g keeper.rules keeper.day old new before after result
  pub unrouted : keeper.routes ≡ true → Answers404IfUnrouted before after result
  pub same_rules : later.rules ≡ keeper.rules
  pub same_day : later.day ≡ keeper.day
  pub same_routes : later.routes ≡ keeper.routes
  pub keeps : KeepsCacheCoherent g old new keeper.rules keeper.day keeper.kept later.kept
