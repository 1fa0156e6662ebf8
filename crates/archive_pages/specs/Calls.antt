-- What calls say of pages, of a store, and of what they read and write, each before and after.
use Rattle.std.specs.Prelude.{◌≡◌, ◌≢◌, ℕ, ℤ, List, Option, None, Some, Result, OnOk, IfErr, IfOk, IfSome}
use Rattle.archive_port.specs.declared.state.ArchiveState.{Ghosts}
use Rattle.byte_device.specs.declared.devices.Sink.{Ghosts as Takes}
use Rattle.byte_device.specs.declared.devices.Source.{Ghosts as Gives}
use Rattle.policy_core.specs.Rules.{Rule}
use Rattle.archive_model.specs.Records.{Archive}
use Rattle.archive_port.specs.Crashes.{WritesNothing}
use Rattle.archive_results.specs.Access.{Ask, no_list}
use Rattle.archive_desk.specs.Faults.{ask_reason, refused}
use Rattle.archive_cache.specs.ListIndexes.{index_for_ask}
use Rattle.archive_cache.specs.Parts.{ViewPart}
use Rattle.archive_cache.specs.Views.{CacheState, cached_index_at}
use Rattle.archive_cache.specs.Coherence.{IsCacheCoherent, KeepsCacheCoherent}
use Rattle.archive_pages.specs.Causes.{FindsOrHasCause, SendsOr503, ServesOr503}
use Rattle.archive_pages.specs.Replies.{Reply, HasReplyFaultCause, HasServeFaultCause, SendsReply}
use Rattle.archive_pages.specs.Seen.{model_reply}
use Rattle.archive_pages.specs.Serving.{FindsInArchive, ServesFromArchive, StoreKeepsArchive}
use Rattle.archive_pages.specs.KeptServing.{FindsInArchiveIf, ServesFromArchiveIf}
use Rattle.archive_pages.specs.Headline.{AnswersRequestFromArchive}
use Rattle.archive_pages.specs.declared.faults.ServeFault.{ServeFault}
use Rattle.archive_pages.specs.declared.pages.Pages.{Pages}
use Rattle.archive_pages.specs.declared.pages.Client.{Client}
use Rattle.archive_pages.specs.declared.replies.Reply.{Reply as Made}

-- ---- what is kept

-- it is of this archive, by the rules and on the day of who asks
abbrev pub IsCacheCoherentForAsk : Ask → CacheState → Archive → Type 0
IsCacheCoherentForAsk ask kept archive = IsCacheCoherent archive ask.rules ask.day kept

-- the same of pages
abbrev pub IsPagesCacheCoherent : {T : Type 0} → Pages T → Archive → Type 0
IsPagesCacheCoherent pages archive = IsCacheCoherent archive pages.policy.now pages.day pages.kept

-- What a call leaves of pages: all but what is kept is as it was; and what is kept stays so, as `KeepsCacheCoherent` says.
pub record ChangesOnlyPagesCache {S W T : Type 0} (g : Ghosts S W) (old new : S) (pages later : Pages T) : Type 0 where
  pub only_cache_differs : later ≡ record pages { kept = later.kept }
  pub cache_stays_coherent : KeepsCacheCoherent g old new pages.policy.now pages.day pages.kept later.kept

-- ---- what is found

-- Where the outline of what is asked for, of this part of it, stands among what is kept. None: there is no such list.
abbrev pub IsCachedIndexPlace : Archive → Ask → CacheState → ViewPart → Option ℕ → Type 0
IsCachedIndexPlace archive ask kept part None = ask_reason archive ask ≡ Some (refused no_list)
IsCachedIndexPlace archive ask kept part (Some place) = (ask_reason archive ask ≡ None) × (cached_index_at kept place ≡ Some (index_for_ask archive ask part))

module _ {S W F : Type 0} (g : Ghosts S W) (old new : S) (result : Result Made F) where
  -- the reply that is made so of what the store remembers
  abbrev pub FindsReply : (Archive → Reply) → Type 0
  FindsReply made = FindsInArchive g old new result (λ a reply. model_reply reply ≡ made a)

  -- where this is so of the archive
  abbrev pub FindsReplyIf : (Archive → Type 0) → (Archive → Reply) → Type 0
  FindsReplyIf If made = FindsInArchiveIf g old new If result (λ a reply. model_reply reply ≡ made a)

  -- Why none is found. One that is found is not 503.
  pub record EndsFindingReply (Unread : Archive → Type 0) : Type 0 where
    pub fault_has_cause : FindsOrHasCause g old new result Unread
    pub status_is_not_503 : IfOk result (λ reply. (model_reply reply).status ≢ 503)

-- ---- what goes out

module _ {W : Type 0} (takes : Takes W) (before after : W) where
  abbrev pub WritesReply : (Reply → Type 0) → Result ℕ ServeFault → Type 0
  WritesReply IsRight result = SendsReply IsRight (takes.told before) (takes.told after) result

  -- the one that is wanted, if one is
  abbrev pub WritesReplyIfWanted : Option Reply → Result ℕ ServeFault → Type 0
  WritesReplyIfWanted wanted result = IfSome wanted (λ it. WritesReply (λ reply. reply ≡ it) result)

  -- How a reply ends: no write failed where it went out whole, and each fault has its cause.
  pub record EndsReply (result : Result ℕ ServeFault) : Type 0 where
    pub no_failure_if_ok : OnOk result (takes.failures after ≡ takes.failures before)
    pub cause : IfErr result (λ fault. HasReplyFaultCause (takes.told before) (takes.told after) (takes.failures before) (takes.failures after) fault)

  -- so does one that is made in memory; and where 503 goes out in its place, memory was refused once more
  pub record EndsReplyMadeInMemory (wants_before wants_after : ℕ) (made : Reply) (result : Result ℕ ServeFault) : Type 0 where
    pub ends_reply : EndsReply result
    pub sends_or_503 : SendsOr503 wants_before wants_after made result

module _ {S K W : Type 0} (g : Ghosts S K) (takes : Takes W) (old new : S) (before after : W) (result : Result ℕ ServeFault) where
  -- the reply that is made so of what the store remembers
  abbrev pub ServesReply : (Archive → Reply) → Type 0
  ServesReply made = ServesFromArchive g old new (λ a reply. reply ≡ made a) (takes.told before) (takes.told after) result

  -- where this is so of the archive
  abbrev pub ServesReplyIf : (Archive → Type 0) → (Archive → Reply) → Type 0
  ServesReplyIf If made = ServesFromArchiveIf g old new If (λ a reply. reply ≡ made a) (takes.told before) (takes.told after) result

-- How a reply out of a store ends: 503 and S3 have their cause, too.
module _ {S K W : Type 0} (g : Ghosts S K) (takes : Takes W) (old new : S) (before after : W) (result : Result ℕ ServeFault) (Unread : Archive → Type 0) where
  pub record EndsReplyFromStore : Type 0 where
    pub ends_reply : EndsReply takes before after result
    pub fault_has_cause : ServesOr503 g old new result Unread

  -- and what it leaves of pages
  pub record EndsReplyFromPages {T : Type 0} (pages later : Pages T) : Type 0 where
    pub ends_reply : EndsReply takes before after result
    pub fault_has_cause : ServesOr503 g old new result Unread
    pub changes_only_cache : ChangesOnlyPagesCache g old new pages later

-- ---- a request and its reply

-- How an answer ends, whatever is kept and whatever the store is: what it leaves of the store, to which it writes nothing; no direction
-- failed where a reply went out; and each fault has its cause.
pub record EndsAnswer {S K R W : Type 0} (g : Ghosts S K) (gives : Gives R) (takes : Takes W) (old new : S) (input_old input_new : R) (output_old output_new : W)
    (result : Result ℕ ServeFault) : Type 0 where
  pub stays : StoreKeepsArchive g old new result
  pub writes_nothing : WritesNothing g old new
  pub quiet : OnOk result ((gives.failures input_new ≡ gives.failures input_old) × (takes.failures output_new ≡ takes.failures output_old))
  pub cause : IfErr result (λ fault. HasServeFaultCause (takes.told output_old) (takes.told output_new) (gives.failures input_old) (gives.failures input_new)
      (takes.failures output_old) (takes.failures output_new) fault)

module _ {R W : Type 0} (gives : Gives R) (takes : Takes W) where
  -- what `AnswersRequestFromArchive` says of a peer
  abbrev pub AnswersClient : Archive → List Rule → (day : ℤ) → (old new : Client R W) → Result ℕ ServeFault → Type 0
  AnswersClient archive rules day old new result = AnswersRequestFromArchive archive rules day (gives.told old.input) (gives.told new.input)
      (gives.ends old.input) (gives.ends new.input) (takes.told old.output) (takes.told new.output) result

  -- what `HasServeFaultCause` says
  abbrev pub HasClientFaultCause : (old new : Client R W) → ServeFault → Type 0
  HasClientFaultCause old new fault = HasServeFaultCause (takes.told old.output) (takes.told new.output) (gives.failures old.input) (gives.failures new.input)
      (takes.failures old.output) (takes.failures new.output) fault

  -- no direction failed
  abbrev pub ClientMeetsNoFailure : (old new : Client R W) → Type 0
  ClientMeetsNoFailure old new = (gives.failures new.input ≡ gives.failures old.input) × (takes.failures new.output ≡ takes.failures old.output)
