-- What went over the connections that a listener took back in a run.
use Rattle.std.proofs.Common.{◌≡◌, ◌<◌, ◌∙◌, inl, inr, ℕ, ℤ, List, [], ◌∷◌, ◌++◌, Bool, Option, Result, Err, refl, sym, ap, subst, append_assoc, IsTrue}
use Rattle.std.proofs.lemmas.Bool.{cases_Bool}
use Rattle.std.proofs.lemmas.List.{append-nil}
use Rattle.archive_port.specs.declared.state.ArchiveState.{Ghosts}
use Rattle.policy_core.specs.Rules.{Rule}
use Rattle.archive_model.specs.Records.{Archive}
use Rattle.archive_port.proofs.LastLemmas.{lasts_same, lasts_then}
use Rattle.archive_port.specs.Told.{DiskHasFailed, HasNoStepLimit, StoreHasCleanDisk, HoldsTables, IsOpen, IsStoreClosed, StaysOpenUnlessDiskFails, archive_in}
use Rattle.archive_pages.specs.Causes.{IsInputDataUnreadable, Sent503OrBrokeOff, ServesOr503}
use Rattle.archive_pages.specs.Headline.{AnswersRequestFromArchive}
use Rattle.archive_pages.specs.declared.faults.ServeFault.{ServeFault}
use Rattle.archive_listen.specs.Connections.{ConnectionResult, Exchange, ClientReceives, exchange}
use Rattle.archive_listen.specs.Serving.{ServerState, ServesEachConnection, ServesOneConnection, AcceptsAndAnswers}
use Rattle.archive_listen.specs.declared.faults.AcceptError.{AcceptError}
use Rattle.archive_listen.specs.declared.faults.ConnectionError.TheVariants.{Read}
use Rattle.archive_serve.specs.Runs.{AnswersFromArchiveInRun, ExchangesAreAnswered, HasSoundStore, EachGetsItsReply, ExchangeIsAnswered}
use Rattle.archive_serve.specs.Runs.{Each503HasItsCause, ExchangeIsAnsweredWithCause, ExchangesAreAnsweredWithCause, HasUnservedCause}

module _ {S W L : Type 0} (g : Ghosts S W) (accepts : L → L → Option AcceptError → Type 0) (closes : L → L → Exchange → Bool → Type 0)
    (If : Type 0) (archive : Archive) (rules : List Rule) (day : ℤ) where
  -- a disk that has returned what was written so far had done so before
  had_one : (outcome : ConnectionResult) (before after : ServerState L S) → ServesOneConnection (AnswersFromArchiveInRun g If archive rules day) accepts closes outcome before after
      → StoreHasCleanDisk g after.state → StoreHasCleanDisk g before.state
  had_one outcome before after (inl takes) returned = takes.is_answered.is_answered.ends.archive_is_kept.archive_is_same.0.disk_was_clean returned
  had_one outcome before after (inr misses) returned = subst (λ (s : S). StoreHasCleanDisk g s) misses.state_is_same returned

  pub had_before : (outcomes : List ConnectionResult) (before after : ServerState L S)
      → ServesEachConnection (AnswersFromArchiveInRun g If archive rules day) accepts closes outcomes before after
      → StoreHasCleanDisk g after.state → StoreHasCleanDisk g before.state
  had_before [] before after same returned = subst (λ (s : ServerState L S). StoreHasCleanDisk g s.state) same returned
  had_before (outcome ∷ outcomes) before after (between, first, rest) returned =
      had_one outcome before between first (had_before outcomes between after rest returned)

-- what was answered, without its cause
pub are_answered : {S W : Type 0} (g : Ghosts S W) (archive : Archive) (rules : List Rule) (day : ℤ) (first old new : S) (outcomes : List ConnectionResult) (all : List Exchange)
    → ExchangesAreAnsweredWithCause g archive rules day first old new outcomes all → ExchangesAreAnswered archive rules day outcomes all
are_answered g archive rules day first old new [] [] it = tt
are_answered g archive rules day first old new [] (over ∷ others) it = absurd it
are_answered g archive rules day first old new (outcome ∷ outcomes) [] it = (it.0, are_answered g archive rules day first old new outcomes [] it.1)
are_answered g archive rules day first old new (outcome ∷ outcomes) (over ∷ others) (inl (between, one, rest)) =
    inl (one.answered, are_answered g archive rules day first between new outcomes others rest)
are_answered g archive rules day first old new (outcome ∷ outcomes) (over ∷ others) (inr (gone, rest)) =
    inr (gone, are_answered g archive rules day first old new outcomes (over ∷ others) rest)

-- a run from this store, which was open, and of which no limit was set
module _ {S W : Type 0} (g : Ghosts S W) (archive : Archive) (rules : List Rule) (day : ℤ) (first : S) (up : IsOpen g first) (unlimited : HasNoStepLimit g first) where
  -- what the run hands on from one connection to the next
  pub record StaysSound (store : S) : Type 0 where
    pub lasts : StaysOpenUnlessDiskFails g first store
    pub remembers : IsOpen g store → HoldsTables g store × (archive_in g store ≡ archive)

  -- only a fault of the disk closes a store
  failed_before : (store : S) → StaysSound store → StoreHasCleanDisk g store → IsStoreClosed g store → DiskHasFailed g first store
  failed_before store sound clean down = elim (sound.lasts.closes_only_by_fault.stays_open clean up) [
    | inl still ↦ absurd (down still)
    | inr more ↦ more
  ]

  cause_of : (old new : S) (read : List ℕ) (result : Result ℕ ServeFault) → ServesOr503 g old new result (IsInputDataUnreadable [] read rules day)
      → StoreHasCleanDisk g old → StoreHasCleanDisk g new → StaysSound old → Sent503OrBrokeOff result → HasUnservedCause g archive rules day first old new read
  cause_of old new read result caused was_clean clean sound sent = elim (cases_Bool (g.is_open old)) [
    | inl still ↦ elim (caused.1 sent) [
      | inl refused ↦ inl refused
      | inr why ↦
          let was = sound.remembers still in
          elim (why clean was.0 (sound.lasts.sets_no_limit unlimited)) [
            | inl failed ↦ inr (inl failed)
            | inr unread ↦ inr (inr (inr (subst (λ a. IsInputDataUnreadable [] read rules day a) was.1 unread)))
          ]
    ]
    | inr closed ↦
        let down : IsStoreClosed g old = λ still. (let it = sym still ∙ closed in absurd (cc)) in
        inr (inr (inl (down, failed_before old sound was_clean down)))
  ]

module _ {S W L : Type 0} (g : Ghosts S W) (over : L → List Exchange) (accepts : L → L → Option AcceptError → Type 0)
    (closes : L → L → Exchange → Bool → Type 0)
    (accepts_none : (old new : L) (fault : Option AcceptError) → accepts old new fault → over new ≡ over old)
    (closes_one : (old new : L) (went : Exchange) (broke_off : Bool) → closes old new went broke_off → over new ≡ over old ++ went ∷ []) where
  module _ (If : Type 0) (archive : Archive) (rules : List Rule) (day : ℤ) where
    -- one that was gone
    replied_gone : (outcome : ConnectionResult) (outcomes : List ConnectionResult) (others : List Exchange) → outcome ≡ Err Read
        → ExchangesAreAnswered archive rules day outcomes others → ExchangesAreAnswered archive rules day (outcome ∷ outcomes) others
    replied_gone outcome outcomes [] gone rest = (gone, rest)
    replied_gone outcome outcomes (one ∷ others) gone rest = inr (gone, rest)

    module _ (before between : ServerState L S) (outcome : ConnectionResult)
        (takes : AcceptsAndAnswers (AnswersFromArchiveInRun g If archive rules day) accepts closes before between outcome) where
      abbrev went : Exchange
      went = exchange takes.transcript.read takes.sent

      stands_last : over between.listener ≡ over before.listener ++ went ∷ []
      stands_last =
          closes_one takes.listening between.listener went _ takes.closes_exchange
          ∙ ap (λ (all : List Exchange). all ++ went ∷ []) (accepts_none before.listener takes.listening _ takes.accepts_peer)

      abbrev replied : If → ExchangeIsAnswered archive rules day outcome went
      replied i =
          let a = takes.is_answered in
          let it = a.is_answered in
          record {
            result = it.result;
            ends = a.transcript.ends;
            written = a.transcript.written;
            answers_request = subst (λ read. AnswersRequestFromArchive archive rules day [] read 0 a.transcript.ends [] a.transcript.written it.result) (sym a.read_is_transcript)
                (it.reply i);
            made = a.transcript.write_failures;
            bytes_passed = takes.transcript.write_failures;
            client_receives = subst (λ answer. ClientReceives answer outcome a.transcript.written (a.transcript.write_failures < takes.transcript.write_failures) takes.sent) it.is a.client_receives;
          }

    each_replied : (outcomes : List ConnectionResult) (before after : ServerState L S)
        → ServesEachConnection (AnswersFromArchiveInRun g If archive rules day) accepts closes outcomes before after → If
        → (all : List Exchange) × (over after.listener ≡ over before.listener ++ all) × ExchangesAreAnswered archive rules day outcomes all
    each_replied [] before after same i =
        ([], ap (λ (s : ServerState L S). over s.listener) same ∙ sym (append-nil (over before.listener)), tt)
    each_replied (outcome ∷ outcomes) before after (between, inl takes, rest) i =
        let others = each_replied outcomes between after rest i in
        let one = went before between outcome takes in (
          one ∷ others.0,
          others.1 ∙ (ap (λ (all : List Exchange). all ++ others.0) (stands_last before between outcome takes)
              ∙ append_assoc (over before.listener) (one ∷ []) others.0),
          inl (replied before between outcome takes i, others.2),
        )
    each_replied (outcome ∷ outcomes) before after (between, inr misses, rest) i =
        let others = each_replied outcomes between after rest i in (
          others.0,
          others.1 ∙ ap (λ (all : List Exchange). all ++ others.0) (accepts_none before.listener between.listener _ misses.accepts_no_peer),
          replied_gone outcome outcomes others.0 misses.read_failed others.2,
        )

    -- the same with causes, in a run from this store
    module _ (first : S) (up : IsOpen g first) (unlimited : HasNoStepLimit g first) where
      abbrev Sound : S → Type 0
      Sound = StaysSound g archive rules day first up unlimited

      caused_gone : (outcome : ConnectionResult) (outcomes : List ConnectionResult) (others : List Exchange) (old new : S) → outcome ≡ Err Read
          → ExchangesAreAnsweredWithCause g archive rules day first old new outcomes others
          → ExchangesAreAnsweredWithCause g archive rules day first old new (outcome ∷ outcomes) others
      caused_gone outcome outcomes [] old new gone rest = (gone, rest)
      caused_gone outcome outcomes (one ∷ others) old new gone rest = inr (gone, rest)

      module _ (before between : ServerState L S) (outcome : ConnectionResult)
          (takes : AcceptsAndAnswers (AnswersFromArchiveInRun g If archive rules day) accepts closes before between outcome) (sound : Sound before.state) (i : If) where
        sound_on : Sound between.state
        sound_on =
            let it = takes.is_answered.is_answered in
            record { lasts = lasts_then g _ _ _ sound.lasts it.ends.archive_is_kept.archive_is_same.0; remembers = it.left i }

        caused : StoreHasCleanDisk g between.state → ExchangeIsAnsweredWithCause g archive rules day first before.state between.state outcome (went before between outcome takes)
        caused clean =
            let a = takes.is_answered in
            let it = a.is_answered in
            let lasts = it.ends.archive_is_kept.archive_is_same.0 in
            record {
              answered = replied before between outcome takes i;
              cause = λ sent. subst (λ read. HasUnservedCause g archive rules day first before.state between.state read) (sym a.read_is_transcript)
                  (cause_of g archive rules day first up unlimited before.state between.state a.transcript.read it.result it.ends.fault_has_cause (lasts.disk_was_clean clean) clean sound sent);
              refusals_never_fall = it.ends.fault_has_cause.0;
              remains_open = lasts;
            }

      each_caused : (outcomes : List ConnectionResult) (before after : ServerState L S)
          → ServesEachConnection (AnswersFromArchiveInRun g If archive rules day) accepts closes outcomes before after → If → StoreHasCleanDisk g after.state → Sound before.state
          → (all : List Exchange) × (over after.listener ≡ over before.listener ++ all) × ExchangesAreAnsweredWithCause g archive rules day first before.state after.state outcomes all
      each_caused [] before after same i clean sound = (
        [],
        ap (λ (s : ServerState L S). over s.listener) same ∙ sym (append-nil (over before.listener)),
        ap (λ (s : ServerState L S). s.state) same,
      )
      each_caused (outcome ∷ outcomes) before after (between, inl takes, rest) i clean sound =
          let others = each_caused outcomes between after rest i clean (sound_on before between outcome takes sound i) in
          let one = went before between outcome takes in (
            one ∷ others.0,
            others.1 ∙ (ap (λ (all : List Exchange). all ++ others.0) (stands_last before between outcome takes)
                ∙ append_assoc (over before.listener) (one ∷ []) others.0),
            inl (
              between.state,
              caused before between outcome takes sound i (had_before g accepts closes If archive rules day outcomes between after rest clean),
              others.2,
            ),
          )
      each_caused (outcome ∷ outcomes) before after (between, inr misses, rest) i clean sound =
          let others = each_caused outcomes between after rest i clean (subst Sound (sym misses.state_is_same) sound) in (
            others.0,
            others.1 ∙ ap (λ (all : List Exchange). all ++ others.0) (accepts_none before.listener between.listener _ misses.accepts_no_peer),
            caused_gone outcome outcomes others.0 before.state after.state misses.read_failed
                (subst (λ (s : S). ExchangesAreAnsweredWithCause g archive rules day first s after.state outcomes others.0) misses.state_is_same others.2),
          )

  pub each_gets : EachGetsItsReply g over accepts closes
  each_gets rules day outcomes first last old new each can =
      each_replied (HasSoundStore g old new) (archive_in g old) rules day outcomes
      (record { listener = first; state = old }) (record { listener = last; state = new }) each can

  pub each_has_cause : ((store : S) → g.is_at_rest store → IsTrue (g.is_open store)) → Each503HasItsCause g over accepts closes
  each_has_cause opens rules day outcomes first last old new each can unlimited =
      each_caused (HasSoundStore g old new) (archive_in g old) rules day old (opens old can.1) unlimited outcomes
      (record { listener = first; state = old }) (record { listener = last; state = new }) each can can.0
      (record { lasts = lasts_same g _; remembers = λ up. (can.1, refl) })
