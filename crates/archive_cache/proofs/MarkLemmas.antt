-- Messages that are withheld again by the marks that are kept of them.
use Rattle.std.proofs.Common.{◌≡◌, refl, sym, ap, ◌∙◌, subst, inl, inr, ℕ, zero, suc, ◌≤◌, Bool, true, false, cond, List, [], ◌∷◌, ◌++◌, drop, Option, Some, None, Result, Ok, Err}
use Rattle.std.specs.Prelude.{◌⊎◌, find, option_map, bytes_eq, IfErr}
use Rattle.std.proofs.lemmas.Bool.{and_parts}
use Rattle.std.proofs.lemmas.Slice.Eq.{bytes_eq-Decides}
use Rattle.archive_port.specs.declared.state.ArchiveState.{Ghosts}
use Rattle.policy_core.specs.Verdict.{denied}
use Rattle.archive_model.specs.Records.{Archive, Message}
use Rattle.archive_model.specs.Questions.{list_refusal, message_of}
use Rattle.archive_port.specs.Told.{memory_refusal_count}
use Rattle.archive_port.specs.Told.{AnswersStoreQuestion, StoreHasCleanDisk, HoldsTables, IsOpen, StaysOpenUnlessDiskFails, archive_in}
use Rattle.archive_port.specs.declared.faults.StoreFault.{StoreFault}
use Rattle.archive_port.proofs.Joins.{goes_in_as}
use Rattle.archive_results.specs.Access.{Ask, Asked, MessageFacts, ReaderFacts, absent, asked_under_ruling, asked_for_key, asked_of_message, denied_by, message_facts, ruling_on}
use Rattle.archive_desk.specs.Asking.{DeterminesVerdicts}
use Rattle.archive_desk.specs.Causes.{IsMessageUnreadable, IsReaderUnreadable}
use Rattle.archive_desk.specs.Ending.{EndsDeskCall, EndsDeskQuestion}
use Rattle.archive_desk.specs.Faults.{IsAskFault, ask_reason, desk_error_of, missing_list_reason, refusal_reason}
use Rattle.archive_desk.specs.Holding.{AnswersFromStoreTables, RelatesTableArchives}
use Rattle.archive_desk.specs.declared.faults.DeskError.{DeskError}
use Rattle.archive_desk.proofs.AskLemmas.{desk_declined, never_declined, no_such_list}
use Rattle.archive_desk.proofs.CallLemmas.{calls_after, calls_last, store_asked}
use Rattle.archive_desk.proofs.EndLemmas.{ask_after}
use Rattle.archive_desk.proofs.MarkLemmas.{asked_alike}
use Rattle.archive_cache.specs.Coherence.{AnswersOfFoundList, IsCacheCoherent, AreWithheldCoherent, AreCoherent, IsWithheldCoherent, KeepsCacheCoherent}
use Rattle.archive_cache.specs.Views.{IsCacheBounded, CachesWithheldMessage, CachedView, CacheState, WithheldMessage, is_withheld_message, cached_message_facts}

-- ---- marks that are kept

module _ (a : Archive) where
  -- fewer
  marked_later : (n : ℕ) (ws : List WithheldMessage) → AreWithheldCoherent a ws → AreWithheldCoherent a (drop n ws)
  marked_later zero ws h = h
  marked_later (suc n) [] h = tt
  marked_later (suc n) (w ∷ ws) h = marked_later n ws h.1

  -- and one more
  marked_more : (ws : List WithheldMessage) (w : WithheldMessage) → AreWithheldCoherent a ws → IsWithheldCoherent a w → AreWithheldCoherent a (ws ++ w ∷ [])
  marked_more [] w h is = (is, tt)
  marked_more (x ∷ xs) w h is = (h.0, marked_more xs w h.1 is)

  pub marked_on : (old new : List WithheldMessage) (w : WithheldMessage) → CachesWithheldMessage old new w → IsWithheldCoherent a w → AreWithheldCoherent a old → AreWithheldCoherent a new
  marked_on old new w (n, inl more) is h = subst (AreWithheldCoherent a) (sym more) (marked_more (drop n old) w (marked_later n old h) is)
  marked_on old new w (n, inr same) is h = subst (AreWithheldCoherent a) (sym same) (marked_later n old h)

  -- those that a search gives are the marks of the message
  pub marked_found : (list key : List ℕ) (marks : MessageFacts) (ws : List WithheldMessage) → AreWithheldCoherent a ws
      → Some marks ≡ option_map (λ (w : WithheldMessage). w.marks) (find (is_withheld_message list key) ws)
      → (m : Message) × (message_of a list key ≡ Some m) × (marks ≡ message_facts None m)
  marked_found list key marks [] h is = absurd (cc)
  marked_found list key marks (w ∷ ws) h is = by_test (λ rest. marked_found list key marks ws h.1 rest) (is_withheld_message list key w) refl is
    where
      by_test : (Some marks ≡ option_map (λ (w : WithheldMessage). w.marks) (find (is_withheld_message list key) ws) → (m : Message) × (message_of a list key ≡ Some m)
          × (marks ≡ message_facts None m))
          → (t : Bool) → is_withheld_message list key w ≡ t → Some marks ≡ option_map (λ (w : WithheldMessage). w.marks) (cond t (Some w) (find (is_withheld_message list key) ws))
          → (m : Message) × (message_of a list key ≡ Some m) × (marks ≡ message_facts None m)
      by_test rest true it is =
          let both = and_parts (bytes_eq w.key key) (bytes_eq w.list list) it in
          let keyed = (bytes_eq-Decides w.key key).0 both.0 in
          let listed = (bytes_eq-Decides w.list list).0 both.1 in
          let same : marks ≡ w.marks = cc in
          (h.0.0, subst (λ l. message_of a l key ≡ Some h.0.0) listed (subst (λ k. message_of a w.list k ≡ Some h.0.0) keyed h.0.1), same ∙ h.0.2)
      by_test rest false it is = rest is

-- ---- a denial

-- where it does not matter who wrote it
unowned : (m : Message) → record (message_facts None m) { own = false } ≡ message_facts None m
unfolding message_facts
unowned m = refl

-- one that the list holds
pub denied_there : (ask : Ask) (reader : ReaderFacts) (rule : List ℕ) (marks : MessageFacts)
    → ((m : Message) → ruling_on ask reader (record (message_facts None m) { own = false }) ≡ ruling_on ask reader (message_facts reader.address m))
    → denied rule ≡ ruling_on ask reader marks → (held : Option Message) (m : Message) → held ≡ Some m → marks ≡ message_facts None m → denied_by rule ≡ asked_of_message ask reader held
denied_there ask reader rule marks alike says held m is same =
    ap (asked_under_ruling m) (says ∙ ap (ruling_on ask reader) (same ∙ sym (unowned m)) ∙ alike m) ∙ ap (asked_of_message ask reader) (sym is)

pub denied_again : (a : Archive) (ask : Ask) (reader : ReaderFacts) (key rule : List ℕ) (kept : CacheState) (marks : MessageFacts) → Some marks ≡ cached_message_facts kept ask.list key
    → ((m : Message) → ruling_on ask reader (record (message_facts None m) { own = false }) ≡ ruling_on ask reader (message_facts reader.address m))
    → denied rule ≡ ruling_on ask reader marks → AreWithheldCoherent a kept.withheld → DeterminesVerdicts a ask reader → denied_by rule ≡ asked_for_key a ask key
denied_again a ask reader key rule kept marks found alike says each enough =
    let it = marked_found a ask.list key marks kept.withheld each found in
    denied_there ask reader rule marks alike says (message_of a ask.list key) it.0 it.1 it.2 ∙ asked_alike a ask reader enough (message_of a ask.list key)

-- the message whose marks a store found, and none where it found none
pub facts_held : (held : Option Message) (marks : MessageFacts) → Some marks ≡ option_map (message_facts None) held → (m : Message) × (held ≡ Some m) × (marks ≡ message_facts None m)
facts_held None marks is = absurd (cc)
facts_held (Some m) marks is = (m, refl, cc)

pub none_held : (ask : Ask) (reader : ReaderFacts) (held : Option Message) → None ≡ option_map (message_facts None) held → absent ≡ asked_of_message ask reader held
none_held ask reader None is = refl
none_held ask reader (Some m) is = absurd (cc)

-- ---- a message that is read

-- a question that no reason refuses
pub unrefused_of_list : {S W : Type 0} (g : Ghosts S W) (old new : S) (ask : Ask) {A : Type 0} (Says : Archive → A → Type 0) (fault : StoreFault) → StaysOpenUnlessDiskFails g old new
    → AnswersStoreQuestion g old new {A = A} (Err fault) (λ _. None) Says → AnswersOfFoundList g old new ask {A = A} (Err (desk_error_of fault)) Says
unrefused_of_list g old new ask {A = A} Says fault lasts it =
    let refuses : Archive → _ = λ a. list_refusal a ask.list in
    desk_declined g old new refuses Says fault (never_declined g old new refuses Says fault (store_asked g {A = A} old new (Err fault) (λ _. None) Says lasts it))

module _ {S W : Type 0} (g : Ghosts S W) (ask : Ask) (reader : ReaderFacts) (key : List ℕ) {X : Type 0} (say : X → Asked) where
  abbrev Says : Archive → X → Type 0
  Says a answer = say answer ≡ asked_of_message ask reader (message_of a ask.list key)

  -- what is kept is as it was
  pub read_kept : (old new : S) (kept : List WithheldMessage) (result : Result X DeskError)
      → AnswersOfFoundList g old new ask result Says
      → AnswersOfFoundList g old new ask result (λ a answer. Says a answer × (AreWithheldCoherent a kept → AreWithheldCoherent a kept))
  read_kept old new kept (Ok answer) it =
      goes_in_as g (HoldsTables g) old new (λ a b. (b ≡ a) × Says a answer)
      (λ a b. (b ≡ a) × (Says a answer × (AreWithheldCoherent a kept → AreWithheldCoherent a kept)))
      (λ a b h. (h.0, (h.1, (λ are. are)))) it
  read_kept old new kept (Err fault) it = it

  -- behind its marks
  pub read_behind : (old mid new : S) (found : Option MessageFacts)
      → RelatesTableArchives g old mid (λ a b. (b ≡ a) × (missing_list_reason a ask ≡ None) × (found ≡ option_map (message_facts None) (message_of a ask.list key))) → (result : Result X DeskError)
      → AnswersOfFoundList g mid new ask result Says → AnswersOfFoundList g old new ask result Says
  read_behind old mid new found first result read = calls_after g (HoldsTables g) old mid new refusal_reason
      (λ a b. (b ≡ a) × (missing_list_reason a ask ≡ None) × (found ≡ option_map (message_facts None) (message_of a ask.list key)))
      (λ a b answer. (b ≡ a) × Says a answer) (λ a b answer. (b ≡ a) × Says a answer)
      (λ a b why. (b ≡ a) × (missing_list_reason a ask ≡ Some why)) (λ a b why. (b ≡ a) × (missing_list_reason a ask ≡ Some why)) (λ a b _. b ≡ a) (λ a b _. b ≡ a)
      (λ a b c answer before it. (it.0 ∙ before.0, it.1 ∙ ap (λ x. asked_of_message ask reader (message_of x ask.list key)) before.0))
      (λ a b c why before it. (it.0 ∙ before.0, subst (λ x. missing_list_reason x ask ≡ Some why) before.0 it.1))
      (λ a b c fault before it. it ∙ before.0) result first read

-- ---- behind the reader, who was found

module _ {S W : Type 0} (g : Ghosts S W) (ask : Ask) (reader : ReaderFacts) (key : List ℕ) (old mid new : S)
    (known : RelatesTableArchives g old mid (λ a b. (b ≡ a) × (ask_reason a ask ≡ None) × DeterminesVerdicts a ask reader)) (kept later : CacheState) {X : Type 0} (say : X → Asked) where
  abbrev Reads : Archive → X → Type 0
  Reads a answer = (say answer ≡ asked_of_message ask reader (message_of a ask.list key)) × (AreWithheldCoherent a kept.withheld → AreWithheldCoherent a later.withheld)

  abbrev Answered : Archive → X → Type 0
  Answered a answer = IsCacheCoherent a ask.rules ask.day kept → say answer ≡ asked_for_key a ask key

  module _ (result : Result X DeskError) (read : AnswersOfFoundList g mid new ask result Reads) where
    read_lasts : StaysOpenUnlessDiskFails g mid new
    read_lasts = calls_last g (HoldsTables g) mid new refusal_reason (λ a b answer. (b ≡ a) × Reads a answer)
        (λ a b why. (b ≡ a) × (missing_list_reason a ask ≡ Some why)) (λ a b _. b ≡ a) result read

    pub read_then : AnswersFromStoreTables g old new refusal_reason result (λ a. ask_reason a ask) Answered
    read_then = calls_after g (HoldsTables g) old mid new refusal_reason (λ a b. (b ≡ a) × (ask_reason a ask ≡ None) × DeterminesVerdicts a ask reader)
        (λ a b answer. (b ≡ a) × Reads a answer) (λ a b answer. (b ≡ a) × (ask_reason a ask ≡ None) × Answered a answer)
        (λ a b why. (b ≡ a) × (missing_list_reason a ask ≡ Some why)) (λ a b why. (b ≡ a) × (ask_reason a ask ≡ Some why)) (λ a b _. b ≡ a) (λ a b _. b ≡ a)
        (λ a b c answer first it. (
          it.0 ∙ first.0,
          first.1,
          (λ are. it.1.0 ∙ ap (λ x. asked_of_message ask reader (message_of x ask.list key)) first.0 ∙ asked_alike a ask reader first.2 (message_of a ask.list key)),
        ))
        (λ a b c why first it. (it.0 ∙ first.0, no_such_list a ask why (subst (λ x. missing_list_reason x ask ≡ Some why) first.0 it.1)))
        (λ a b c fault first it. it ∙ first.0) result known read

    pub read_ends : memory_refusal_count g old ≤ memory_refusal_count g mid → (StoreHasCleanDisk g mid → IsOpen g old) → EndsDeskCall g mid new IsAskFault result (λ a. IsMessageUnreadable a ask key)
        → EndsDeskQuestion g old new IsAskFault result (λ a. IsMessageUnreadable a ask key ⊎ IsReaderUnreadable a ask)
    read_ends grows up it = ask_after g old mid new (known.0, (λ returned held. let there = known.1 returned held in (there.0, there.1.0))) read_lasts grows IsAskFault
        result (λ a. IsMessageUnreadable a ask key) (λ a. IsMessageUnreadable a ask key ⊎ IsReaderUnreadable a ask) (λ a bad. inl bad) it up

  -- what is kept stays of the archive
  marks_stay : (result : Result X DeskError) → AnswersOfFoundList g mid new ask result Reads
      → IfErr result (λ _. later ≡ kept) → later ≡ record kept { withheld = later.withheld } → StoreHasCleanDisk g new → StoreHasCleanDisk g mid → HoldsTables g old
      → IsCacheCoherent (archive_in g old) ask.rules ask.day kept → IsCacheCoherent (archive_in g old) ask.rules ask.day later
  marks_stay (Err fault) read same rest returned there held are = subst (λ k. IsCacheCoherent (archive_in g old) ask.rules ask.day k) (sym same) are
  marks_stay (Ok answer) read same rest returned there held are =
      let a = archive_in g old in
      let first = known.1 there held in
      let it = read.1 returned first.0 in (
        subst (λ (vs : List CachedView). AreCoherent a ask.rules ask.day vs) (sym (ap (λ (k : CacheState). k.views) rest)) are.0,
        subst (λ x. AreWithheldCoherent x later.withheld) first.1.0 (it.1.1.1 (subst (λ x. AreWithheldCoherent x kept.withheld) (sym first.1.0) are.1)),
      )

  pub read_keeps : (result : Result X DeskError) → AnswersOfFoundList g mid new ask result Reads
      → IfErr result (λ _. later ≡ kept) → later ≡ record kept { withheld = later.withheld } → (IsCacheBounded kept → IsCacheBounded later) → (StoreHasCleanDisk g mid → IsOpen g old)
      → KeepsCacheCoherent g old new ask.rules ask.day kept later
  read_keeps result read same rest bounded up =
      let lasts = read_lasts result read in record {
        keeps_coherent = λ returned held are. marks_stay result read same rest returned (lasts.disk_was_clean returned) held are;
        when_store_closed = λ returned shut. absurd (shut (up (lasts.disk_was_clean returned)));
        capacity_is_same = ap (λ (k : CacheState). k.most) rest;
        cache_stays_bounded = bounded;
      }
