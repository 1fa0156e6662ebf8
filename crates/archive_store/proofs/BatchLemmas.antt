-- Messages added to one list, many in one transaction.
use Rattle.std.proofs.Common.{◌≡◌, inl, inr, ℕ, ◌+◌, ◌<◌, ◌≤◌, Bool, true, false, List, [], ◌∷◌, ◌++◌, length, get_or, take, map, filter, refl, ap, sym, subst, ◌∙◌, arith, Option, Some, None, Result}
use Rattle.std.proofs.Common.{Ok}
use Rattle.std.specs.Prelude.{MatchResult, nat_le, not, bytes_eq, MatchOption, if◌then◌else◌}
use Rattle.std.specs.List.{list_any}
use Rattle.std.proofs.lemmas.Bool.Decides.{nat_tests}
use Rattle.std.proofs.lemmas.List.{append-nil, length-append, map_more}
use Rattle.std.proofs.lemmas.List.Elements.{filter-append}
use Rattle.std.proofs.lemmas.Slice.Eq.{bytes_eq-Decides}
use Rattle.sqlite.specs.Effect.{Database}
use Rattle.sqlite.specs.State.{State, HasCleanDisk}
use Rattle.mbox_items.specs.Division.{Item}
use Rattle.archive_model.specs.Records.{Archive, Message}
use Rattle.archive_model.specs.Commands.{add, CommandReply, Refusal, refused, no_list, too_large, already_known, list_full, taken_in}
use Rattle.archive_model.specs.Keys.{item_key}
use Rattle.archive_model.specs.Questions.{has_list, has_message, is_message_at_key, messages_in}
use Rattle.archive_model.specs.Machine.{StepOutcome, add_within_limit, is_too_large, message_limit, keyed_message, with_message_under_key, with_message}
use Rattle.archive_model.specs.Runs.{taken, run, Tally, tally_replies, is_added_reply, is_known_reply, is_too_large_reply}
use Rattle.archive_tables.specs.Tables.{IsOpenArchive, IsArchiveAtRest, archive_of}
use Rattle.archive_tables.specs.Calls.{ChangesArchive, FaultKeepsRows, FaultKeepsRowsOrRollsBack, LeavesRowsUnchanged, IsOpenArchiveOrRolledBack}
use Rattle.archive_tables.proofs.EndLemmas.{archive_stays}
use Rattle.archive_store.specs.Batches.{ListHasMessageCount, AddsMessageToState, HoldsAddedItems, HoldsAddedItemsIfOpen}
use Rattle.archive_port.specs.Adding.{IsListFullAt, IsRefusedAt, tally_of_report}
use Rattle.archive_port.specs.declared.reports.AddReport.{AddReport}
use Rattle.sqlite.specs.declared.error.Error.{Error}
use Rattle.sqlite.specs.Store.{Ghosts}
use Rattle.sqlite.specs.Held.{Held, state}
use Rattle.archive_tables.specs.Crashes.{CrashAddsNothing, CrashAddsOnly, CrashAddsOnlyCommit, IsArchiveStored}
use Rattle.archive_tables.proofs.CrashLemmas.{commit_over}
use Rattle.archive_database.specs.Taking.{CrashLeavesWholeMessage}
use Rattle.archive_store.specs.Crashes.{IsWholeBatch}
use Rattle.archive_store.proofs.StepEquations.{add_known, add_full, add_new}
use Rattle.archive_store.proofs.RunLemmas.{run_archive, run_replies, run_nothing}

-- ---- one message

abbrev tally_is : ℕ → ℕ → ℕ → Tally
tally_is n k l = record { new = n; known = k; too_large = l }

is_full : (n : ℕ) → 50000 ≤ n → true ≡ nat_le message_limit n
is_full n h = grind (arith, nat_tests, h)

has_room : (n : ℕ) → n < 50000 → false ≡ nat_le message_limit n
has_room n h = grind (arith, nat_tests, h)

counted_more : {X : Type 0} (p : X → Bool) (xs : List X) (x : X) → p x ≡ true → length (filter p (xs ++ x ∷ [])) ≡ length (filter p xs) + 1
counted_more p xs x h = rw (filter-append p xs (x ∷ []), h) (length-append (filter p xs) (x ∷ []))

counted_same : {X : Type 0} (p : X → Bool) (xs : List X) (x : X) → p x ≡ false → length (filter p (xs ++ x ∷ [])) ≡ length (filter p xs)
counted_same p xs x h = rw (filter-append p xs (x ∷ []), h) (ap length (append-nil (filter p xs)))

same_word : (a : List ℕ) → bytes_eq a a ≡ true
same_word a = (bytes_eq-Decides a a).1 refl

module _ (behind : Option Database) (old new : State) (list : List ℕ) (item : Item) (count : ℕ) (n : ListHasMessageCount (archive_of old) list count) where
  -- one that changes nothing
  told_over : (reply : CommandReply) → add_within_limit message_limit (archive_of old) list item ≡ (archive_of old, reply) → LeavesRowsUnchanged behind old new
      → AddsMessageToState behind old new list item count reply
  told_over reply is stays = (stays.0, ap (λ a. (a, reply)) (archive_stays stays.1) ∙ sym is, subst (λ a. ListHasMessageCount a list count) (sym (archive_stays stays.1)) n)

  module _ (k : List ℕ) (small : false ≡ is_too_large item) where
    pub known_over : k ≡ item_key item → true ≡ list_any (is_message_at_key list k) (archive_of old).messages → LeavesRowsUnchanged behind old new
        → AddsMessageToState behind old new list item count already_known
    known_over e known stays = told_over already_known (add_known message_limit list k item e small (archive_of old) ((tt, sym n.list_exists), known)) stays

    pub full_over : k ≡ item_key item → false ≡ list_any (is_message_at_key list k) (archive_of old).messages → 50000 ≤ count → LeavesRowsUnchanged behind old new
        → AddsMessageToState behind old new list item count (refused list_full)
    full_over e none full stays =
        told_over (refused list_full) (add_full message_limit list k item e small (archive_of old)
        (((tt, sym n.list_exists), none), subst (λ m. true ≡ nat_le message_limit m) (sym n.message_count_is) (is_full count full))) stays

    pub new_is : (key : List ℕ) → k ≡ key → key ≡ item_key item → false ≡ list_any (is_message_at_key list k) (archive_of old).messages → count < 50000
        → add_within_limit message_limit (archive_of old) list item ≡ (with_message_under_key (archive_of old) list key item, taken_in)
    new_is key e ek none room =
        add_new message_limit list k key item e ek small (archive_of old) (((tt, sym n.list_exists), none), subst (λ m. false ≡ nat_le message_limit m) (sym n.message_count_is) (has_room count room))

    pub new_over : (key : List ℕ) (mid : State) → k ≡ key → key ≡ item_key item → false ≡ list_any (is_message_at_key list k) (archive_of old).messages → count < 50000
        → LeavesRowsUnchanged behind old mid → ChangesArchive behind mid new (λ a. with_message_under_key a list key item)
        → AddsMessageToState behind old new list item (count + 1) taken_in
    new_over key mid e ek none room stays written =
        let change : Archive → Archive = λ a. with_message_under_key a list key item in
        let is : archive_of new ≡ change (archive_of old) = written.1 ∙ ap change (archive_stays stays.1) in
        let more : ListHasMessageCount (change (archive_of old)) list (count + 1) = record {
          list_exists = n.list_exists;
          message_count_is = counted_more (λ (m : Message). bytes_eq m.list list) (archive_of old).messages (keyed_message list key item) (same_word list) ∙ ap (λ m. m + 1) n.message_count_is;
        } in (
          written.0,
          ap (λ a. (a, taken_in)) is
              ∙ sym (new_is key e ek none room),
          subst (λ a. ListHasMessageCount a list (count + 1)) (sym is) more,
        )

-- the same outside a transaction, of the tables before a question on them
pub counted_at : (old mid : State) (list : List ℕ) → mid.now ≡ old.now → (count : ℕ) → true ≡ has_list (archive_of old) list → length (messages_in (archive_of old) list) ≡ count
    → ListHasMessageCount (archive_of mid) list count
counted_at old mid list same count there n = subst (λ a. ListHasMessageCount a list count) (sym (archive_stays same)) (record { list_exists = sym there; message_count_is = n })

pub none_of : (old mid : State) (list k key : List ℕ) → k ≡ key → false ≡ list_any (is_message_at_key list k) (archive_of old).messages → mid.now ≡ old.now
    → list_any (is_message_at_key list key) (archive_of mid).messages ≡ false
none_of old mid list k key e none same =
    subst (λ (a : Archive). list_any (is_message_at_key list key) a.messages ≡ false) (sym (archive_stays same))
    (subst (λ w. list_any (is_message_at_key list w) (archive_of old).messages ≡ false) e (sym none))

-- what a stop leaves of one that is new
pub new_crash : {S : Type 0} (g : Ghosts S) (old mid new : Held S) (behind : Option Database) (list : List ℕ) (item : Item) (count : ℕ) → ListHasMessageCount (archive_of (state g old)) list count
    → (k key : List ℕ) → false ≡ is_too_large item → k ≡ key → key ≡ item_key item → false ≡ list_any (is_message_at_key list k) (archive_of (state g old)).messages → count < 50000
    → LeavesRowsUnchanged behind (state g old) (state g mid) → CrashAddsNothing g old mid → (HasCleanDisk (state g new) → HasCleanDisk (state g mid))
    → CrashLeavesWholeMessage g mid new list key item
    → CrashAddsOnly g old new (λ db. (behind ≡ None) × IsArchiveStored (add_within_limit message_limit (archive_of (state g old)) list item).0 db)
new_crash g old mid new behind list item count n k key small e ek none room stays quiet was crash clean db may =
    let is = new_is behind (state g old) (state g new) list item count n k small key e ek none room in
    let made = ap (λ a. with_message_under_key a list key item) (archive_stays stays.1) ∙ ap (λ (o : StepOutcome). o.0) (sym is) in
    elim (crash behind stays.0 (none_of (state g old) (state g mid) list k key e none stays.1) clean db may) [
      | inl earlier ↦ inl (quiet (was clean) db earlier)
      | inr it ↦ inr (it.0, subst (λ a. IsArchiveStored a db) made it.1)
    ]

-- ---- messages one after the other

abbrev outcome_by : Archive → Archive → Bool → Bool → Bool → Bool → StepOutcome
outcome_by a x there large known full =
    if not there then (a, refused no_list) else if large then (a, refused too_large) else if known then (a, already_known) else if full then (a, refused list_full) else (x, taken_in)

-- a full list is told only where it holds as many as the limit, and nothing is changed
full_is : (a x : Archive) (there large known full : Bool) → (outcome_by a x there large known full).1 ≡ refused list_full → (full ≡ true) × ((outcome_by a x there large known full).0 ≡ a)
full_is a x false large known full is = absurd cc
full_is a x true true known full is = absurd cc
full_is a x true false true full is = absurd cc
full_is a x true false false true is = (refl, refl)
full_is a x true false false false is = absurd cc

is_limit : (n : ℕ) → nat_le message_limit n ≡ true → 50000 ≤ n
is_limit n h = grind (arith, nat_tests, h)

pub full_at : (a : Archive) (list : List ℕ) (item : Item) → (add_within_limit message_limit a list item).1 ≡ refused list_full
    → (50000 ≤ length (messages_in a list)) × ((add_within_limit message_limit a list item).0 ≡ a)
full_at a list item is =
    let it = full_is a (with_message a list item) (has_list a list) (is_too_large item) (has_message a list (item_key item)) (nat_le message_limit (length (messages_in a list))) is in
    (is_limit _ it.0, it.1)

module _ (a : Archive) (list : List ℕ) (items : List Item) (i : ℕ) (item : Item) (within : i < length items) (is : item ≡ get_or items i item) where
  one_more_is : map (add list) (take (i + 1) items) ≡ map (add list) (take i items) ++ add list item ∷ []
  one_more_is = map_more (add list) items i item within ∙ ap (λ x. map (add list) (take i items) ++ add list x ∷ []) (sym is)

  pub taken_more : (taken a list (take (i + 1) items)).archive ≡ (add_within_limit message_limit (taken a list (take i items)).archive list item).0
  taken_more = ap (λ cs. (run a cs).archive) one_more_is ∙ run_archive a (map (add list) (take i items)) (add list item)

  pub reads_text : (taken a list (take (i + 1) items)).replies ≡ (taken a list (take i items)).replies ++ (add_within_limit message_limit (taken a list (take i items)).archive list item).1 ∷ []
  reads_text = ap (λ cs. (run a cs).replies) one_more_is ∙ run_replies a (map (add list) (take i items)) (add list item)

-- ---- the report

module _ (r : AddReport) (replies : List CommandReply) (t : tally_of_report r ≡ tally_replies replies) where
  pub told_new : tally_is (r.new + 1) r.known r.too_large ≡ tally_replies (replies ++ taken_in ∷ [])
  told_new = λ i. tally_is
      ((ap (λ (x : Tally). x.new + 1) t ∙ sym (counted_more is_added_reply replies taken_in refl)) i)
      ((ap (λ (x : Tally). x.known) t ∙ sym (counted_same is_known_reply replies taken_in refl)) i)
      ((ap (λ (x : Tally). x.too_large) t ∙ sym (counted_same is_too_large_reply replies taken_in refl)) i)

  pub told_known : tally_is r.new (r.known + 1) r.too_large ≡ tally_replies (replies ++ already_known ∷ [])
  told_known = λ i. tally_is
      ((ap (λ (x : Tally). x.new) t ∙ sym (counted_same is_added_reply replies already_known refl)) i)
      ((ap (λ (x : Tally). x.known + 1) t ∙ sym (counted_more is_known_reply replies already_known refl)) i)
      ((ap (λ (x : Tally). x.too_large) t ∙ sym (counted_same is_too_large_reply replies already_known refl)) i)

  pub told_too_large : tally_is r.new r.known (r.too_large + 1) ≡ tally_replies (replies ++ refused too_large ∷ [])
  told_too_large = λ i. tally_is
      ((ap (λ (x : Tally). x.new) t ∙ sym (counted_same is_added_reply replies (refused too_large) refl)) i)
      ((ap (λ (x : Tally). x.known) t ∙ sym (counted_same is_known_reply replies (refused too_large) refl)) i)
      ((ap (λ (x : Tally). x.too_large + 1) t ∙ sym (counted_more is_too_large_reply replies (refused too_large) refl)) i)

-- ---- one item more

module _ (behind : Option Database) (mid new : State) (a : Archive) (list : List ℕ) (items : List Item) (i before after : ℕ) (item : Item) (told : AddReport)
    (so_far : HoldsAddedItems behind mid a list (take i items) before told) (within : i < length items) (is : item ≡ get_or items i item) where
  -- the machine's answer
  answer_is : (reply : CommandReply) → AddsMessageToState behind mid new list item after reply → reply ≡ (add_within_limit message_limit (taken a list (take i items)).archive list item).1
  answer_is reply adds = ap (λ (p : StepOutcome). p.1) adds.1 ∙ ap (λ x. (add_within_limit message_limit x list item).1) so_far.archive_is

  pub one_taken : (reply : CommandReply) (telling : AddReport) → AddsMessageToState behind mid new list item after reply
      → tally_of_report telling ≡ tally_replies ((taken a list (take i items)).replies ++ reply ∷ []) → HoldsAddedItems behind new a list (take (i + 1) items) after telling
  one_taken reply telling adds tells = record {
    is_open_archive = adds.0;
    archive_is = ap (λ (p : StepOutcome). p.0) adds.1 ∙ ap (λ x. (add_within_limit message_limit x list item).0) so_far.archive_is ∙ sym (taken_more a list items i item within is);
    list_has_count = adds.2;
    tally_is = tells ∙ ap (λ r. tally_replies ((taken a list (take i items)).replies ++ r ∷ [])) (answer_is reply adds) ∙ ap tally_replies (sym (reads_text a list items i item within is));
  }

  pub none_taken : AddsMessageToState behind mid new list item after (refused list_full) → HoldsAddedItems behind new a list (take i items) after told × IsListFullAt a list items i
  none_taken adds =
      let full = answer_is (refused list_full) adds in (
        record {
          is_open_archive = adds.0;
          archive_is = ap (λ (p : StepOutcome). p.0) adds.1 ∙ (full_at (archive_of mid) list item (sym (ap (λ (p : StepOutcome). p.1) adds.1))).1 ∙ so_far.archive_is;
          list_has_count = adds.2;
          tally_is = so_far.tally_is;
        },
        record {
          at_in_range = within;
          list_is_full = (full_at (taken a list (take i items)).archive list item (sym full)).0;
          item_is_refused = reads_text a list items i item within is ∙ ap (λ r. (taken a list (take i items)).replies ++ r ∷ []) (sym full);
        },
      )

pub held_or_back : (db : Database) (old new : State) → FaultKeepsRowsOrRollsBack (Some db) old new → IsOpenArchiveOrRolledBack db new
held_or_back db old new rests up = elim (rests up) [ inl held ↦ inl held.0 | inr back ↦ inr back ]

-- ---- transactions one after the other

-- the same rows, over something else
pub stays_taken : (before after : Option Database) (old new : State) (a : Archive) (list : List ℕ) (items : List Item) (count : ℕ) (told : AddReport)
    → HoldsAddedItems before old a list items count told → LeavesRowsUnchanged after old new → HoldsAddedItems after new a list items count told
stays_taken before after old new a list items count told t stays = record {
  is_open_archive = stays.0;
  archive_is = archive_stays stays.1 ∙ t.archive_is;
  list_has_count = subst (λ x. ListHasMessageCount x list count) (sym (archive_stays stays.1)) t.list_has_count;
  tally_is = t.tally_is;
}

-- a transaction is begun over them
pub begun_taken : {A : Type 0} {told : Result A Error} {x : A} {first : State} (begun : State) {a : Archive} {list : List ℕ} {items : List Item} {count : ℕ} {report : AddReport}
    → told ≡ Ok x → MatchResult told (λ _. LeavesRowsUnchanged (Some first.now) first begun) (λ _. FaultKeepsRows first begun)
    → HoldsAddedItems None first a list items count report → HoldsAddedItems (Some first.now) begun a list items count report
begun_taken {first = first} begun is held t =
    stays_taken None (Some first.now) first begun _ _ _ _ _ t (subst (λ r. MatchResult r (λ _. LeavesRowsUnchanged (Some first.now) first begun) (λ _. FaultKeepsRows first begun)) is held)

-- what a stop leaves behind COMMIT: none of the batch, or the whole of it
pub none_or_whole : {S : Type 0} (g : Ghosts S) (old mid new : Held S) {db : Database} {a : Archive} {list : List ℕ} (items : List Item) {from to : ℕ} (at : ℕ) {count : ℕ} {report : AddReport}
    → CrashAddsNothing g old mid → HoldsAddedItems (Some db) (state g mid) a list (take at items) count report → IsWholeBatch a list items from to at
    → (HasCleanDisk (state g new) → HasCleanDisk (state g mid)) → CrashAddsOnlyCommit g mid new
    → CrashAddsOnly g old new (λ db. (at : ℕ) × IsWholeBatch a list items from to at × IsArchiveStored (taken a list (take at items)).archive db)
none_or_whole g old mid new {db = before} items at quiet held whole was commits clean db may =
    elim (commit_over g mid new before held.is_open_archive commits clean db may) [
      | inl earlier ↦ inl (quiet (was clean) db earlier)
      | inr it ↦ inr (at, whole, subst (λ x. IsArchiveStored x db) held.archive_is it)
    ]

abbrev pub no_report : AddReport
no_report = record { new = 0; known = 0; too_large = 0 }

no_replies : (a : Archive) → tally_of_report no_report ≡ tally_replies (run a []).replies
unfolding run
no_replies a = refl

-- nothing is taken yet
pub first_taken : (behind : Option Database) (s : State) (a : Archive) (list : List ℕ) (items : List Item) (count : ℕ) → IsOpenArchive behind s → archive_of s ≡ a
    → ListHasMessageCount (archive_of s) list count
    → HoldsAddedItems behind s a list (take 0 items) count no_report
first_taken behind s a list items count k is n = record { is_open_archive = k; archive_is = is ∙ run_nothing a; list_has_count = n; tally_is = no_replies a }

-- ---- where no message was added

pub none_added : (o : Option Refusal) (old new : State) (list : List ℕ) (items : List Item)
    → MatchOption o (FaultKeepsRows old new) (λ r. LeavesRowsUnchanged None old new × (r ≡ no_list) × (has_list (archive_of old) list ≡ false))
    → MatchOption o (HoldsAddedItemsIfOpen new (archive_of old) list (take 0 items))
    (λ r. IsArchiveAtRest new × (archive_of new ≡ (taken (archive_of old) list (take 0 items)).archive) × IsRefusedAt (archive_of old) list items 0 r)
none_added None old new list items rests = λ up. let r = rests up in (r.0, archive_stays r.1 ∙ run_nothing (archive_of old))
none_added (Some r) old new list items it =
    (it.0.0, archive_stays it.0.1 ∙ run_nothing (archive_of old), subst (λ why. IsRefusedAt (archive_of old) list items 0 why) (sym it.1) (refl, it.2))
