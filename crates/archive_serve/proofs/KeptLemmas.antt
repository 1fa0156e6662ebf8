-- Connections one after the other, out of what is kept from one to the next.
use Rattle.std.proofs.Common.{◌≡◌, ◌∙◌, inl, inr, ℤ, List, Bool, true, Option, None, Some, Result, Ok, Err, refl, sym, ap, subst, ℕ, IsTrue}
use Rattle.std.specs.Prelude.{IfErr, IfSome, OnOk, OnErr, is_some}
use Rattle.std.proofs.lemmas.Bool.{cases_Bool}
use Rattle.archive_port.specs.declared.state.ArchiveState.{Ghosts}
use Rattle.policy_core.specs.Rules.{Rule}
use Rattle.archive_model.specs.Records.{Archive}
use Rattle.archive_port.specs.Told.{StoreHasCleanDisk, HoldsTables, IsOpen, archive_in}
use Rattle.archive_port.specs.Crashes.{WritesNothing}
use Rattle.archive_cache.specs.Coherence.{IsCacheCoherent, KeepsCacheCoherent}
use Rattle.archive_pages.specs.Answered.{AnswersRequestFromStore}
use Rattle.archive_pages.specs.Calls.{IsPagesCacheCoherent, ChangesOnlyPagesCache}
use Rattle.archive_pages.specs.Causes.{IsInputDataUnreadable, ServesOr503}
use Rattle.archive_pages.specs.KeptServing.{IsTrueOfRememberedArchive}
use Rattle.archive_pages.specs.Replies.{HasServeFaultCause}
use Rattle.archive_pages.specs.Headline.{AnswersRequestFromArchive}
use Rattle.archive_pages.specs.Serving.{StoreKeepsArchive}
use Rattle.archive_pages.specs.declared.faults.ServeFault.{ServeFault}
use Rattle.archive_pages.specs.declared.pages.Pages.{Pages}
use Rattle.archive_pages.proofs.RunningLemmas.{answers_left}
use Rattle.archive_listen.specs.Connections.{ConnectionTranscript, ConnectionResult, Exchange, ErrorStreamState}
use Rattle.archive_listen.specs.declared.faults.AcceptError.{AcceptError}
use Rattle.archive_listen.specs.Serving.{RunningService, ServerState, ServesAllConnections, ServesEachConnection, ServesFewerConnections, running_service, service_answer_law, server_state}
use Rattle.archive_listen.proofs.ThroughLemmas.{each_had_through, part_of}
use Rattle.archive_serve.specs.Keeping.{AnswersFromCache, ServingContextState, fresh_serving_context}
use Rattle.archive_serve.specs.Pages.{Answers404IfUnrouted, connection_result_of}
use Rattle.archive_serve.specs.Runs.{AnswersFromArchiveInRun, HasSoundStore, IsNeither503NorWriteError, ServingAnswerLaw}
use Rattle.archive_serve.proofs.SteadyLemmas.{goes_by}

pub on_ok : {A E : Type 0} (result : Result A E) {P Q : Type 0} → (P → Q) → OnOk result P → OnOk result Q
on_ok (Ok a) f it = f it
on_ok (Err e) f it = tt

pub on_err : {A E : Type 0} (result : Result A E) {P Q : Type 0} → (P → Q) → OnErr result P → OnErr result Q
on_err (Ok a) f it = tt
on_err (Err e) f it = f it

pub same_state : {V St : Type 0} (service : V) (store : St) (w : RunningService V St) → running_service service store ≡ w → store ≡ w.state
same_state {V} {St} service store w same = ap (λ (x : RunningService V St). x.state) same

-- what is said with routes, where there are some
with_routes : {A P : Type 0} (routes : Option A) → IfSome routes (λ _. P) → is_some routes ≡ true → P
with_routes None says some = absurd (cc)
with_routes (Some routes) says some = says

-- what a call that answers says
module _ {S W T : Type 0} (g : Ghosts S W) (pages later : Pages T) (old new : S) (before after : ConnectionTranscript) (result : Result ℕ ServeFault) where
  pub answers_kept : (outcome : ConnectionResult) → outcome ≡ connection_result_of result
      → (IsTrueOfRememberedArchive g old new (IsPagesCacheCoherent pages)
      → AnswersRequestFromStore g old new pages.policy.now pages.day before.read after.read before.ends after.ends before.written after.written result)
      → ChangesOnlyPagesCache g old new pages later → StoreKeepsArchive g old new result → WritesNothing g old new
      → OnOk result ((after.read_failures ≡ before.read_failures) × (after.write_failures ≡ before.write_failures))
      → IfErr result (λ fault. HasServeFaultCause before.written after.written before.read_failures after.read_failures before.write_failures after.write_failures fault)
      → ServesOr503 g old new result (IsInputDataUnreadable before.read after.read pages.policy.now pages.day) → IfSome pages.routes (λ _. Answers404IfUnrouted before after result)
      → AnswersFromCache g (record { rules = pages.policy.now; day = pages.day; routes = is_some pages.routes; kept = pages.kept })
      (record { rules = later.policy.now; day = later.day; routes = is_some later.routes; kept = later.kept })
      old new before after outcome
  answers_kept outcome is answered keeps stays writes_nothing quiet cause caused unrouted = record {
    result = result;
    is = is;
    answered = answered;
    ends = record { archive_is_kept = stays; writes_nothing = writes_nothing; no_failure_if_ok = quiet; cause = cause; fault_has_cause = caused };
    unrouted = with_routes pages.routes unrouted;
    same_rules = ap (λ (p : Pages T). p.policy.now) keeps.only_cache_differs;
    same_day = ap (λ (p : Pages T). p.day) keeps.only_cache_differs;
    same_routes = ap (λ (p : Pages T). is_some p.routes) keeps.only_cache_differs;
    keeps = keeps.cache_stays_coherent;
  }

module _ {S W : Type 0} (g : Ghosts S W) (rules : List Rule) (day : ℤ) where
  -- pages and the store that they answer out of
  abbrev Serving : Type 0
  Serving = RunningService ServingContextState S

  abbrev pub KeptLaw : Serving → Serving → ConnectionTranscript → ConnectionTranscript → ConnectionResult → Type 0
  KeptLaw = service_answer_law (λ keeper later. AnswersFromCache g keeper later)

  -- the pages go by these rules, on this day, and have routes
  abbrev pub SameBy : Serving → Type 0
  SameBy serving = (serving.service.rules ≡ rules) × (serving.service.day ≡ day) × (serving.service.routes ≡ true)

  -- What the pages keep is of this archive, which the store remembers, unless it is shut.
  pub record IsSound (archive : Archive) (serving : Serving) : Type 0 where
    pub kept : IsCacheCoherent archive rules day serving.service.kept
    pub left : IsOpen g serving.state → HoldsTables g serving.state × (archive_in g serving.state ≡ archive)

  -- one answer on, by pages that go by these rules, on this day
  module _ (opens : (store : S) → g.is_at_rest store → IsTrue (g.is_open store)) (archive : Archive) (old new : Serving) (same : SameBy old) (before after : ConnectionTranscript)
      (outcome : ConnectionResult)
      (law : KeptLaw old new before after outcome) where
    same_on : SameBy new
    same_on = (law.same_rules ∙ same.0, law.same_day ∙ same.1, law.same_routes ∙ same.2)

    -- where the disk has returned what was written, and what is kept is of the archive
    module _ (had : StoreHasCleanDisk g new.state) (sound : IsSound archive old) where
      serves_held_archive : IsTrueOfRememberedArchive g old.state new.state (λ a. IsCacheCoherent a rules day old.service.kept)
      serves_held_archive returned held = subst (λ a. IsCacheCoherent a rules day old.service.kept) (sym (sound.left (opens old.state held)).1) sound.kept

      answered : AnswersRequestFromStore g old.state new.state rules day before.read after.read before.ends after.ends before.written after.written law.result
      answered = (rw (same.0, same.1) at law.answered) serves_held_archive

      reply : AnswersRequestFromArchive archive rules day before.read after.read before.ends after.ends before.written after.written law.result
      reply = answers_left g old.state new.state archive had sound.left rules day law.result
          before.read after.read before.ends after.ends before.written after.written answered

      left : IsOpen g new.state → HoldsTables g new.state × (archive_in g new.state ≡ archive)
      left up =
          let was = sound.left (law.ends.archive_is_kept.archive_is_same.0.closed_stays_closed had up) in
          let now = law.ends.archive_is_kept.archive_is_same.1 had was.0 up in
          (now.0, now.1 ∙ was.1)

      stays_open : IsNeither503NorWriteError outcome → IsOpen g old.state → IsOpen g new.state
      stays_open steady up =
          let goes = goes_by g old.state new.state before after law.result _ (subst IsNeither503NorWriteError law.is steady) answered law.ends.archive_is_kept in
          opens new.state (goes.1 had (sound.left up).0).0

      kept_on : KeepsCacheCoherent g old.state new.state rules day old.service.kept new.service.kept → IsCacheCoherent archive rules day new.service.kept
      kept_on keeps = elim (cases_Bool (g.is_open old.state)) [
        | inl up ↦
            let was = sound.left up in
            subst (λ a. IsCacheCoherent a rules day new.service.kept) was.1 (keeps.keeps_coherent had was.0 (serves_held_archive had was.0))
        | inr down ↦ subst (λ kept. IsCacheCoherent archive rules day kept) (sym (keeps.when_store_closed had (λ up. let it = sym up ∙ down in absurd (cc)))) sound.kept
      ]

      sound_on : IsSound archive new
      sound_on = record { kept = kept_on (rw (same.0, same.1) at law.keeps); left = left }

    module _ (If : Type 0) (had : If → StoreHasCleanDisk g new.state) (sound : If → IsSound archive old) where
      answers_in : AnswersFromArchiveInRun g If archive rules day old.state new.state before after outcome
      answers_in = record {
        result = law.result;
        is = law.is;
        ends = rw (same.0, same.1) at law.ends;
        unrouted = law.unrouted same.2;
        reply = λ i. reply (had i) (sound i);
        left = λ i. left (had i) (sound i);
        stays_open = λ i. stays_open (had i) (sound i);
      }

  module _ {L : Type 0} (opens : (store : S) → g.is_at_rest store → IsTrue (g.is_open store)) (accepts : L → L → Option AcceptError → Type 0) (closes : L → L → Exchange → Bool → Type 0)
      (If : Type 0) (archive : Archive) where
    -- what a run hands on from connection to connection
    pub record GoesOn (serving : Serving) : Type 0 where
      pub same : SameBy serving
      pub sound : If → IsSound archive serving

    -- Each connection is answered as if nothing were kept, and what is kept stays of the archive, where it was at first, the tables
    -- were an archive's, and the disk has returned what was written.
    pub answers_each : (outcomes : List ConnectionResult) (before after : ServerState L Serving) → (If → StoreHasCleanDisk g after.state.state) → GoesOn before.state
        → ServesEachConnection KeptLaw accepts closes outcomes before after
        → ServesEachConnection (AnswersFromArchiveInRun g If archive rules day) accepts closes outcomes
        (part_of KeptLaw (AnswersFromArchiveInRun g If archive rules day) (λ (w : Serving). w.state) accepts closes before)
        (part_of KeptLaw (AnswersFromArchiveInRun g If archive rules day) (λ (w : Serving). w.state) accepts closes after)
        × GoesOn after.state
    answers_each outcomes before after had goes each =
        each_had_through KeptLaw (AnswersFromArchiveInRun g If archive rules day) (λ (w : Serving). w.state) accepts closes (λ w. If → StoreHasCleanDisk g w.state) GoesOn
        (λ old new first last outcome law returned i. law.ends.archive_is_kept.archive_is_same.0.disk_was_clean (returned i))
        (λ old new first last outcome returned on law. (
          answers_in opens archive old new on.same first last outcome law If returned on.sound,
          record {
            same = same_on opens archive old new on.same first last outcome law;
            sound = λ i. sound_on opens archive old new on.same first last outcome law (returned i) (on.sound i);
          },
        ))
        outcomes before after had goes each

-- a run of a service that keeps nothing before the first connection
module _ {S W L : Type 0} (g : Ghosts S W) (opens : (store : S) → g.is_at_rest store → IsTrue (g.is_open store)) (accepts : L → L → Option AcceptError → Type 0)
    (closes : L → L → Exchange → Bool → Type 0)
    (rules : List Rule) (day : ℤ) (most : ℕ) (keeper : ServingContextState) (fresh : keeper ≡ fresh_serving_context rules day most) (store : S) (listener : L) where
  abbrev Law : RunningService ServingContextState S → RunningService ServingContextState S → ConnectionTranscript → ConnectionTranscript → ConnectionResult → Type 0
  Law = KeptLaw g rules day

  run_each : (last : S) (outcomes : List ConnectionResult) (after : ServerState L (RunningService ServingContextState S)) → last ≡ after.state.state
      → ServesEachConnection Law accepts closes outcomes (server_state listener (running_service keeper store)) after
      → ServesEachConnection (ServingAnswerLaw g rules day store last) accepts closes outcomes (server_state listener store) (server_state after.listener after.state.state)
  run_each last outcomes after same each =
      let through = answers_each g rules day opens accepts closes (HasSoundStore g store last) (archive_in g store) outcomes (server_state listener (running_service keeper store)) after
      (λ i. subst (λ s. StoreHasCleanDisk g s) same i.0)
      (record {
        same = (ap (λ (k : ServingContextState). k.rules) fresh, ap (λ (k : ServingContextState). k.day) fresh, ap (λ (k : ServingContextState). k.routes) fresh);
        sound = λ i. record {
          kept = subst (λ (k : ServingContextState). IsCacheCoherent (archive_in g store) rules day k.kept) (sym fresh) (tt, tt);
          left = λ up. (i.1, refl);
        };
      }) each in
      through.0

  module _ (before after : ErrorStreamState) (count : ℕ) (service : ServingContextState) (last : S) (end : L) where
    abbrev left_at : ServerState L (RunningService ServingContextState S)
    left_at = server_state end (running_service service last)

    -- the store before the service was made
    module _ (was : S) (is_was : store ≡ was) where
      pub all_of_fresh : ServesAllConnections Law accepts closes (server_state listener (running_service keeper store)) before after count left_at
          → ServesAllConnections (ServingAnswerLaw g rules day was last) accepts closes (server_state listener was) before after count (server_state end last)
      all_of_fresh it =
          subst (λ s. ServesAllConnections (ServingAnswerLaw g rules day s last) accepts closes (server_state listener s) before after count (server_state end last)) is_was
          (it.0, it.1, record { serves_each = run_each last it.0 left_at refl it.2.serves_each; reports_outcomes = it.2.reports_outcomes })

      pub fewer_of_fresh : ServesFewerConnections Law accepts closes (server_state listener (running_service keeper store)) before after count left_at
          → ServesFewerConnections (ServingAnswerLaw g rules day was last) accepts closes (server_state listener was) before after count (server_state end last)
      fewer_of_fresh it =
          let same = same_state service last it.1.state it.4 in
          subst (λ s. ServesFewerConnections (ServingAnswerLaw g rules day s last) accepts closes (server_state listener s) before after count (server_state end last)) is_was (
            it.0,
            server_state it.1.listener it.1.state.state,
            it.2,
            record { serves_each = run_each last it.0 it.1 same it.3.serves_each; reports_outcomes = it.3.reports_outcomes },
            same,
            it.5,
          )
