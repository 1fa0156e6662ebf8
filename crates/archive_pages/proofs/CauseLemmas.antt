-- Why 503 goes out, and why an mbox breaks off.
use Rattle.std.proofs.Common.{◌≡◌, ◌∙◌, ◌≤◌, ◌<◌, inl, inr, refl, sym, subst, arith, length, zero, suc, ℕ, ℤ, List, [], ◌∷◌, Bool, true, false, not, cond, Option, Some, None, Result, Ok, Err}
use Rattle.std.specs.Prelude.{◌≢◌, ◌||◌, option_map, slice_get, if◌then◌else◌, find, bytes_eq, MatchResult, MatchOption, IfOk}
use Rattle.std.specs.List.{list_any}
use Rattle.std.specs.Option.{IsSomeAnd, option_map_or}
use Rattle.std.proofs.lemmas.Slice.Eq.{bytes_eq-Decides}
use Rattle.archive_port.specs.declared.state.ArchiveState.{Ghosts}
use Rattle.archive_port.specs.Told.{memory_refusal_count}
use Rattle.policy_core.specs.Rules.{Rule}
use Rattle.archive_model.specs.Records.{Archive, Person}
use Rattle.archive_model.specs.Questions.{has_list, has_person, person_of_token}
use Rattle.archive_port.proofs.LastLemmas.{more_since, more_before}
use Rattle.archive_port.specs.Replies.{IsRefusedOnlyFor, refusal_of_fault}
use Rattle.archive_port.specs.Told.{E15MeansDiskFailedOr as StoreCausedOr, CountsRefusals, DiskHasFailed, StaysOpenUnlessDiskFails, MemoryWasRefused, archive_in}
use Rattle.archive_desk.specs.Holding.{RelatesTableArchives, RelatesTableArchivesIfOpen}
use Rattle.archive_port.specs.Wanting.{IsMemoryRefusal}
use Rattle.archive_port.specs.declared.faults.StoreFault.{StoreFault}
use Rattle.archive_port.specs.declared.faults.StoreFault.TheVariants as faults
use Rattle.archive_results.specs.Access.{Ask, no_list, no_person}
use Rattle.archive_desk.specs.Causes.{HasCause, IsDeskDatabaseFault, IsDeskMemoryRefusal}
use Rattle.archive_desk.specs.Walking.{IsWalkStop}
use Rattle.archive_desk.specs.Faults.{IsAskFault, ask_reason, refusal_reason, refused}
use Rattle.archive_desk.specs.Readable.{CanBeRead}
use Rattle.archive_desk.proofs.UnbrokenLemmas.{holder_read, list_read, lists_read, message_or_reader_read}
use Rattle.archive_desk.specs.declared.faults.DeskError.{DeskError}
use Rattle.archive_desk.specs.declared.faults.DeskError.TheVariants as desk
use Rattle.archive_cache.specs.Views.{CachedView, CacheState, cached_index_at}
use Rattle.archive_requests.specs.Requests.{Request, bad as no_request, other_method, unauthorized, asks as asking_for, request_of}
use Rattle.archive_requests.specs.Routes.{Route, lists, message, month, threads, thread, author, mbox, route_of}
use Rattle.archive_pages.specs.Answers.{ask_of_reader}
use Rattle.archive_pages.specs.Causes.{FindsOrHasCause, Has503Cause, IsTokenDataUnreadable, IsPathDataUnreadable, IsRequestDataUnreadable}
use Rattle.archive_pages.specs.Causes.{IsRouteDataUnreadable, IsUnreadableOrReaderUnknown, IsInputDataUnreadable, Sent503OrBrokeOff, SendsOr503, ServesOr503}
use Rattle.archive_pages.specs.Replies.{Reply, SendsReply}
use Rattle.archive_pages.specs.declared.faults.ServeFault.{ServeFault}
use Rattle.archive_pages.specs.declared.faults.ServeFault.TheVariants.{Read, Write, Broken}

-- ---- who asks

module _ (a : Archive) (ask : Ask) where
  by_person : (b : Bool) → option_map refused (if not b then Some no_person else None) ≡ Some (refused no_person) → b ≡ false
  by_person true is = absurd (cc)
  by_person false is = refl

  by_reader : (listed : Bool) (reader : Option (List ℕ))
      → option_map refused (if not listed then Some no_list else if option_map_or (λ person. not (has_person a person)) reader false then Some no_person else None) ≡ Some (refused no_person)
      → IsSomeAnd reader (λ name. has_person a name ≡ false)
  by_reader false reader is = absurd (cc)
  by_reader true None is = absurd (cc)
  by_reader true (Some name) is = by_person (has_person a name) is

  -- whom the archive does not know
  pub stranger : ask_reason a ask ≡ Some (refused no_person) → IsSomeAnd ask.reader (λ name. has_person a name ≡ false)
  stranger is = by_reader (has_list a ask.list) ask.reader is

module _ (test : Person → Bool) (name : List ℕ) where
  abbrev named : Person → Bool
  named p = bytes_eq p.name name

  one_named : (persons : List Person) → option_map (λ (p : Person). p.name) (find test persons) ≡ Some name → list_any named persons ≡ true
  one_named [] is = absurd (cc)
  one_named (p ∷ ps) is = cases (test p) is (one_named ps)
    where
      or_true : (b : Bool) → (b || true) ≡ true
      or_true true = refl
      or_true false = refl

      cases : (b : Bool) → option_map (λ (p : Person). p.name) (cond b (Some p) (find test ps)) ≡ Some name
          → (option_map (λ (p : Person). p.name) (find test ps) ≡ Some name → list_any named ps ≡ true) → list_any named (p ∷ ps) ≡ true
      cases true is rest = let same : p.name ≡ name = cc in rw ((bytes_eq-Decides p.name name).1 same) refl
      cases false is rest = rw (rest is) (or_true (named p))

-- whoever has a token is a person
pub known : (a : Archive) (token name : List ℕ) → person_of_token a token ≡ Some name → has_person a name ≡ true
known a token name is = one_named (λ p. bytes_eq p.token token) name a.persons is

pub holder_unread : (rules : List Rule) (day : ℤ) (a : Archive) (token path name : List ℕ) → person_of_token a token ≡ Some name
    → IsUnreadableOrReaderUnknown (IsPathDataUnreadable rules day path (Some name)) (Some name) a → IsTokenDataUnreadable rules day token path a
holder_unread rules day a token path name is bad = elim bad [
  | inl unread ↦ inr (subst (λ o. IsSomeAnd o (λ who. IsPathDataUnreadable rules day path (Some who) a)) (sym is) unread)
  | inr none ↦ absurd (let no : true ≡ false = sym (known a token name is) ∙ none in cc)
]

-- ---- where an archive can be read

module _ (a : Archive) (can : CanBeRead a) (rules : List Rule) (day : ℤ) where
  route_read : (ask_of : List ℕ → Ask) (route : Route) → ¬ IsRouteDataUnreadable ask_of route a
  route_read ask_of lists = lists_read a can
  route_read ask_of (message list key) = message_or_reader_read a can (ask_of list) key
  route_read ask_of (month list text) = list_read a can (ask_of list)
  route_read ask_of (threads list) = list_read a can (ask_of list)
  route_read ask_of (thread list key) = list_read a can (ask_of list)
  route_read ask_of (author list key) = list_read a can (ask_of list)
  route_read ask_of (mbox list) = list_read a can (ask_of list)

  none_so : {X : Type 0} (P : X → Type 0) (o : Option X) → ((x : X) → ¬ P x) → ¬ IsSomeAnd o P
  none_so P None never = λ bad. bad
  none_so P (Some x) never = never x

  path_read : (path : List ℕ) (reader : Option (List ℕ)) → ¬ IsPathDataUnreadable rules day path reader a
  path_read path reader = none_so (λ route. IsRouteDataUnreadable (ask_of_reader rules day reader) route a) (route_of path) (route_read (ask_of_reader rules day reader))

  request_read : (request : Request) → ¬ IsRequestDataUnreadable rules day request a
  request_read no_request = λ never. never
  request_read other_method = λ never. never
  request_read unauthorized = λ never. never
  request_read (asking_for None path) = path_read path None
  request_read (asking_for (Some token) path) = λ never. elim never [
    | inl name ↦ holder_read a can token name
    | inr path' ↦ none_so (λ name. IsPathDataUnreadable rules day path (Some name) a) (person_of_token a token) (λ name. path_read path (Some name)) path'
  ]

  pub nothing_unread : (told_before told_after : List ℕ) → ¬ IsInputDataUnreadable told_before told_after rules day a
  nothing_unread told_before told_after = λ it. request_read (request_of it.head) it.data_is_unreadable

-- ---- at a place that is kept stands an outline

kept_at : (views : List CachedView) (place : ℕ) → place < length views → option_map (λ (v : CachedView). v.outline) (slice_get views place) ≡ None → ⊥
kept_at [] place less none = absurd (omega (arith, less))
kept_at (v ∷ vs) zero less none = absurd (cc)
kept_at (v ∷ vs) (suc n) less none = kept_at vs n (omega (arith, less)) none

pub no_outline : {X : Type 0} (kept : CacheState) (place : ℕ) → place < length kept.views → cached_index_at kept place ≡ None → X
no_outline kept place less none = absurd (kept_at kept.views place less none)

-- ---- a reply that is not 503

pub other_status : (P : Reply → Type 0) (before after : List ℕ) (result : Result ℕ ServeFault) {X : Type 0} → ((r : Reply) → P r → r.status ≢ 503) → SendsReply P before after result
    → Sent503OrBrokeOff result → X
other_status P before after (Ok status) other sent it = absurd (other sent.0 sent.1 (sym sent.2.0 ∙ it))
other_status P before after (Err Read) other sent it = absurd it
other_status P before after (Err (Write written)) other sent it = absurd it
other_status P before after (Err (Broken written)) other sent it = absurd sent.2

module _ {S W : Type 0} (g : Ghosts S W) where
  -- ---- a cause of which more is known

  pub cause_as : (old new : S) (P Q : Archive → Type 0) → ((a : Archive) → P a → Q a) → Has503Cause g old new P → Has503Cause g old new Q
  cause_as old new P Q implies it = elim it [
    | inl more ↦ inl more
    | inr why ↦ inr (λ returned held free. elim (why returned held free) [ inl more ↦ inl more | inr bad ↦ inr (implies _ bad) ])
  ]

  pub serves_or_as : (old new : S) (result : Result ℕ ServeFault) (P Q : Archive → Type 0) → ((a : Archive) → P a → Q a) → ServesOr503 g old new result P → ServesOr503 g old new result Q
  serves_or_as old new result P Q implies it = (it.0, λ bad. cause_as old new P Q implies (it.1 bad))

  module _ (old new : S) where
    -- ---- of a fault of the store

    of_store : (fault : StoreFault) (Unread : Archive → Type 0) → fault ≡ faults.Store → StoreCausedOr g old new {A = Unit {0}} (Err fault) Unread → Has503Cause g old new Unread
    of_store fault Unread it why = inr (λ returned held free. why returned held free it)

    -- none of a question that is never refused
    pub store_unfound : (fault : StoreFault) (Unread : Archive → Type 0) → IsRefusedOnlyFor {A = Unit {0}} (Err fault) []
        → CountsRefusals g {A = Unit {0}} IsMemoryRefusal old new (Err fault) → StoreCausedOr g old new {A = Unit {0}} (Err fault) Unread → Has503Cause g old new Unread
    store_unfound faults.Memory Unread kind counts why = inl (counts.1 refl)
    store_unfound faults.Store Unread kind counts why = of_store faults.Store Unread refl why
    store_unfound faults.BadName Unread kind counts why = absurd kind
    store_unfound faults.BadText Unread kind counts why = absurd kind
    store_unfound faults.ListExists Unread kind counts why = absurd kind
    store_unfound faults.NoList Unread kind counts why = absurd kind
    store_unfound faults.PersonExists Unread kind counts why = absurd kind
    store_unfound faults.NoPerson Unread kind counts why = absurd kind
    store_unfound faults.TokenTaken Unread kind counts why = absurd kind
    store_unfound faults.NoMessage Unread kind counts why = absurd kind
    store_unfound faults.AlreadyWithdrawn Unread kind counts why = absurd kind
    store_unfound faults.NotWithdrawn Unread kind counts why = absurd kind
    store_unfound faults.BadDays Unread kind counts why = absurd kind
    store_unfound faults.ListFull Unread kind counts why = absurd kind
    store_unfound faults.TooLarge Unread kind counts why = absurd kind

    -- ---- of a fault of the desk

    module _ (ask : Ask) (Unread : Archive → Type 0) where
      broken_desk : (fault : DeskError) → IsDeskDatabaseFault fault → (IsDeskDatabaseFault fault → HasCause g old new Unread) → Has503Cause g old new (IsUnreadableOrReaderUnknown Unread ask.reader)
      broken_desk fault it why = inr (λ returned held free. elim (why it returned held free) [ inl more ↦ inl more | inr bad ↦ inr (inl bad) ])

      unasked : RelatesTableArchives g old new (λ a b. (b ≡ a) × (ask_reason a ask ≡ Some (refused no_person))) → Has503Cause g old new (IsUnreadableOrReaderUnknown Unread ask.reader)
      unasked goes = inr (λ returned held free. inr (inr (stranger (archive_in g old) ask (goes.1 returned held).1.1)))

      -- of a refusal of the store, which carries no other than E14 and E15
      by_store : (fault : StoreFault) → refusal_of_fault fault ≡ None → (IsDeskMemoryRefusal (desk.Store fault) → MemoryWasRefused g old new)
          → (IsDeskDatabaseFault (desk.Store fault) → HasCause g old new Unread) → Has503Cause g old new (IsUnreadableOrReaderUnknown Unread ask.reader)
      by_store faults.Memory none counts why = inl (counts (inr refl))
      by_store faults.Store none counts why = broken_desk (desk.Store faults.Store) refl why
      by_store faults.BadName none counts why = absurd (cc)
      by_store faults.BadText none counts why = absurd (cc)
      by_store faults.ListExists none counts why = absurd (cc)
      by_store faults.NoList none counts why = absurd (cc)
      by_store faults.PersonExists none counts why = absurd (cc)
      by_store faults.NoPerson none counts why = absurd (cc)
      by_store faults.TokenTaken none counts why = absurd (cc)
      by_store faults.NoMessage none counts why = absurd (cc)
      by_store faults.AlreadyWithdrawn none counts why = absurd (cc)
      by_store faults.NotWithdrawn none counts why = absurd (cc)
      by_store faults.BadDays none counts why = absurd (cc)
      by_store faults.ListFull none counts why = absurd (cc)
      by_store faults.TooLarge none counts why = absurd (cc)

      pub desk_unfound : (fault : DeskError) → fault ≢ desk.NoList → IsAskFault fault → (IsDeskMemoryRefusal fault → MemoryWasRefused g old new) →
          (IsDeskDatabaseFault fault → HasCause g old new Unread)
          → MatchOption (refusal_reason fault) (RelatesTableArchivesIfOpen g old new (λ a b. b ≡ a)) (λ why. RelatesTableArchives g old new (λ a b. (b ≡ a) × (ask_reason a ask ≡ Some why)))
          → Has503Cause g old new (IsUnreadableOrReaderUnknown Unread ask.reader)
      desk_unfound desk.NoList other kind counts why asks = absurd (other refl)
      desk_unfound desk.NoPerson other kind counts why asks = unasked asks
      desk_unfound desk.NotInView other kind counts why asks = absurd kind
      desk_unfound desk.Write other kind counts why asks = absurd kind
      desk_unfound desk.Memory other kind counts why asks = inl (counts (inl refl))
      desk_unfound (desk.Store fault) other kind counts why asks = by_store fault kind counts why

      -- an mbox that stopped for no writer
      pub mbox_unserved : (before after : List ℕ) (failed fails written : ℕ) (fault : DeskError) → fault ≢ desk.Write → IsWalkStop before after failed fails written fault
          → (IsDeskMemoryRefusal fault → MemoryWasRefused g old new) → (IsDeskDatabaseFault fault → HasCause g old new Unread) → Has503Cause g old new (IsUnreadableOrReaderUnknown Unread ask.reader)
      mbox_unserved before after failed fails written desk.NoList other stop counts why = absurd stop
      mbox_unserved before after failed fails written desk.NoPerson other stop counts why = absurd stop
      mbox_unserved before after failed fails written desk.NotInView other stop counts why = absurd stop
      mbox_unserved before after failed fails written desk.Write other stop counts why = absurd (other refl)
      mbox_unserved before after failed fails written desk.Memory other stop counts why = inl (counts (inl refl))
      mbox_unserved before after failed fails written (desk.Store fault) other stop counts why = by_store fault stop.0 counts why

  -- ---- a reply of what was found

  module _ (old mid new : S) (lasts : StaysOpenUnlessDiskFails g mid new) (result : Result ℕ ServeFault) (Unread : Archive → Type 0) where
    pub found_served : {A F : Type 0} (found : Result A F) (made : A → Reply) → FindsOrHasCause g old mid found Unread → IfOk found (λ x. (made x).status ≢ 503)
        → MatchResult found (λ x. SendsOr503 (memory_refusal_count g mid) (memory_refusal_count g new) (made x) result) (λ _. memory_refusal_count g mid ≤ memory_refusal_count g new)
        → ServesOr503 g old new result Unread
    found_served (Ok x) made finds other sends = (
      omega (arith, finds.0, sends.0),
      (λ bad. elim (sends.1 bad) [ inl more ↦ inl (omega (arith, finds.0, more)) | inr is ↦ absurd (other is) ]),
    )
    found_served (Err e) made finds other sends = (
      omega (arith, finds.0, sends),
      (λ bad. elim finds.1 [
        | inl more ↦ inl (omega (arith, more, sends))
        | inr why ↦ inr (λ returned held free. elim (why (lasts.disk_was_clean returned) held free) [ inl more ↦ inl (more_before g old mid new lasts more) | inr bad ↦ inr bad ])
      ]),
    )

  -- ---- behind a question

  module _ (old mid new : S) (P : Archive → Type 0) (first : RelatesTableArchives g old mid (λ a b. (b ≡ a) × P a)) (grows : memory_refusal_count g old ≤ memory_refusal_count g mid)
      (last : StaysOpenUnlessDiskFails g mid new) where
    pub served_after : (result : Result ℕ ServeFault) (Unread Unread' : Archive → Type 0) → ((a : Archive) → P a → Unread a → Unread' a) → ServesOr503 g mid new result Unread
        → ServesOr503 g old new result Unread'
    served_after result Unread Unread' implies it = (
      omega (arith, grows, it.0),
      (λ bad. elim (it.1 bad) [
        | inl more ↦ inl (omega (arith, grows, more))
        | inr why ↦ inr (λ returned held free.
            let there = first.1 (last.disk_was_clean returned) held in
            elim (why returned there.0 (first.0.sets_no_limit free)) [
              | inl more ↦ inl (failed_since more)
              | inr bad ↦ inr (implies _ there.1.1 (subst Unread there.1.0 bad))
            ])
      ]),
    )
      where
        failed_since : DiskHasFailed g mid new → DiskHasFailed g old new
        failed_since more = more_since g old mid new first.0 more
