-- A command that is looked up, decided and written: what each part says, and each exit of the whole.
use Rattle.std.proofs.Common.{◌≡◌, ◌∙◌, ℕ, inl, inr, true, false, List, [], ◌∷◌, None, Some, Option, Result, Ok, Err, IfErr, refl, sym, ap, subst, if◌then◌else◌, arith}
use Rattle.std.specs.Prelude.{IfSome, IsErrAnd, Bool, is_some, ⊤, ◌≤◌, find, map, not, int_lt, option_map}
use Rattle.std.specs.Option.{option_map_or}
use Rattle.sqlite.specs.declared.error.Error.{Error}
use Rattle.sqlite.specs.Effect.{Database}
use Rattle.sqlite.specs.Store.{Ghosts}
use Rattle.sqlite.specs.Held.{state}
use Rattle.archive_model.specs.Records.{Archive, Message}
use Rattle.archive_model.specs.Commands.{Command, list_add, person_add, grant, revoke, add, withdraw, restore, embargo, lift, merge_set, address_set, Refusal, bad_name, bad_text, list_exists, no_list}
use Rattle.archive_model.specs.Commands.{person_exists, no_person, token_taken, no_message, already_withdrawn, not_withdrawn, bad_days, list_full, too_large, CommandReply, refused, taken_in}
use Rattle.archive_model.specs.Commands.{already_known}
use Rattle.archive_model.specs.Machine.{StepOutcome, GuardedReply, refuse_if, no_command_facts, command_facts_within_limit, guarded_replies_of, archive_changed_by, reply_if_carried_out}
use Rattle.archive_model.specs.Machine.{outcome_unless_guarded, is_too_large, step_within_limit}
use Rattle.archive_model.specs.declared.found.CommandFacts.{CommandFacts}
use Rattle.archive_model.specs.Addresses.{is_address}
use Rattle.archive_model.specs.BearerTokens.{is_token}
use Rattle.policy_core.specs.Names.{is_name}
use Rattle.archive_model.specs.Questions.{is_message_at_key, is_withdrawn, has_embargo}
use Rattle.archive_model.specs.Keys.{item_key}
use Rattle.mbox_items.specs.Division.{Item}
use Rattle.std.specs.List.{list_any}
use Rattle.archive_store.proofs.StepEquations.{is_some-find}
use Rattle.archive_tables.specs.Statements.{Statement, IsStatementRefused}
use Rattle.archive_tables.specs.Rows.{decoded_dated_marks}
use Rattle.archive_tables.specs.Tables.{archive_in_trees as archive_of_trees}
use Rattle.archive_tables.specs.Calls.{AnswersFromDatabase, WritesByStatement, LeavesRowsUnchanged, EndsConnectionCall}
use Rattle.archive_tables.specs.Crashes.{IsArchiveStored, CrashAddsNothing}
use Rattle.archive_tables.proofs.EndLemmas.{archive_stays, stays_then, rests_behind}
use Rattle.archive_tables.proofs.LastLemmas.{lasts_then, lasts_same}
use Rattle.archive_store.specs.Held.{store_connection, memory_refusal_count}
use Rattle.archive_port.specs.Words.{new_or_known, added_reply}
use Rattle.archive_port.specs.Wanting.{IsMemoryRefusal, RaisesRefusalCount}
use Rattle.archive_port.specs.Replies.{refusal_of_fault, IsOneOf, reply_of_result}
use Rattle.archive_store.specs.Replies.{PerformsModelStep, MatchesModelStep}
use Rattle.archive_store.specs.Refusals.{IsExecutedReply, IsWriteRefused}
use Rattle.archive_store.specs.Told.{EndsWithCause, StaysOpenUnlessDiskFails, StoreHasCleanDisk, HoldsTables, archive_in}
use Rattle.archive_store.specs.Crashes.{CrashSteps}
use Rattle.archive_store.specs.Carrying.{ReadsArchive, WritesToArchive, WritesCommandRows, ExecutesCommand, ExecutesWithinListLimit, PassesCommandTests, facts_from_marks_row, first_passing_reply}
use Rattle.archive_store.specs.Carrying.{reply_without_write, map_store_result}
use Rattle.archive_port.specs.Commands.{prepend_if_refusal, refusals_among, possible_refusals_of, reply_unless_refused}
use Rattle.archive_store.specs.declared.store.Store.{Store}
use Rattle.archive_port.specs.declared.faults.StoreFault.{StoreFault}
use Rattle.archive_store.specs.declared.deciding.Settled.{Settled}
use Rattle.archive_store.specs.declared.deciding.Settled.TheVariants as settled_as
use Rattle.archive_port.specs.declared.commands.Command.{Command as Given}
use Rattle.archive_store.proofs.FindLemmas.{more_since, is_database, passes_to, when_ok, Passes, kind_last, PassesFault, blames, blames_disk, blames_passed}
use Rattle.archive_store.proofs.AskLemmas.{ends_with}
use Rattle.std.proofs.lemmas.Result.{MatchResult-weaker}
use Rattle.archive_port.proofs.WantLemmas.{raises_after}
use Rattle.archive_database.specs.declared.faults.DatabaseError.{DatabaseError}
use Rattle.archive_database.specs.Taking.{InsertsMessage, FailsToInsertMessage, CrashLeavesWholeMessage}

-- ---- the tables of the machine

-- an answer that leaves the archive
abbrev pub told_at : Archive → CommandReply → StepOutcome
told_at a reply = (a, reply)

-- by the first test that is so
by_first : (a : Archive) (tests : List GuardedReply) (made : StepOutcome) → outcome_unless_guarded a tests made ≡ option_map_or (told_at a) (first_passing_reply tests) made
by_first a [] made = refl
by_first a (test ∷ tests) made = go test.0 (by_first a tests made)
  where
    go : (b : Bool) → outcome_unless_guarded a tests made ≡ option_map_or (told_at a) (first_passing_reply tests) made
        → (if b then told_at a test.1 else outcome_unless_guarded a tests made) ≡ option_map_or (told_at a) (if b then Some test.1 else first_passing_reply tests) made
    go true later = refl
    go false later = later

-- the step, by what was found
told_step : (limit : ℕ) (a : Archive) (command : Command) (told : CommandReply) → first_passing_reply (guarded_replies_of command (command_facts_within_limit limit a command)) ≡ Some told
    → step_within_limit limit a command ≡ told_at a told
told_step limit a command told first =
    let made = told_at (archive_changed_by command a) (reply_if_carried_out command (command_facts_within_limit limit a command)) in
    by_first a (guarded_replies_of command (command_facts_within_limit limit a command)) made ∙ ap (λ o. option_map_or (told_at a) o made) first

made_step : (limit : ℕ) (a : Archive) (command : Command) (found : CommandFacts) → found ≡ command_facts_within_limit limit a command → first_passing_reply (guarded_replies_of command found) ≡ None
    → step_within_limit limit a command ≡ told_at (archive_changed_by command a) (reply_if_carried_out command found)
made_step limit a command found is none =
    let made = told_at (archive_changed_by command a) (reply_if_carried_out command (command_facts_within_limit limit a command)) in
    by_first a (guarded_replies_of command (command_facts_within_limit limit a command)) made
    ∙ ap (λ o. option_map_or (told_at a) o made) (ap (λ f. first_passing_reply (guarded_replies_of command f)) (sym is) ∙ none)
    ∙ ap (λ f. told_at (archive_changed_by command a) (reply_if_carried_out command f)) (sym is)

-- ---- its refusals

among : (why : Refusal) (reply : CommandReply) (reasons : List Refusal) → IsOneOf why reasons → IsOneOf why (prepend_if_refusal reply reasons)
among why (refused other) reasons it = inr it
among why _ reasons it = it

one_behind : (b : Bool) (reply : CommandReply) (why : Refusal) (other : Option CommandReply) (reasons : List Refusal) → (if b then Some reply else other) ≡ Some (refused why)
    → (other ≡ Some (refused why) → IsOneOf why reasons) → IsOneOf why (prepend_if_refusal reply reasons)
one_behind true reply why other reasons is later =
    let same : reply ≡ refused why = cc in subst (λ r. IsOneOf why (prepend_if_refusal r reasons)) (sym same) (inl refl)
one_behind false reply why other reasons is later = among why reply reasons (later is)

first_is_one : (tests : List GuardedReply) (why : Refusal) → first_passing_reply tests ≡ Some (refused why) → IsOneOf why (refusals_among tests)
first_is_one [] why is = absurd cc
first_is_one (test ∷ tests) why is = one_behind test.0 test.1 why (first_passing_reply tests) (refusals_among tests) is (first_is_one tests why)

same_reasons : (command : Command) (found : CommandFacts) → refusals_among (guarded_replies_of command found) ≡ possible_refusals_of command
same_reasons (list_add name) found = refl
same_reasons command found = refl

-- one of the reasons of the command
is_reason : (command : Command) (found : CommandFacts) (why : Refusal) → first_passing_reply (guarded_replies_of command found) ≡ Some (refused why) → IsOneOf why (possible_refusals_of command)
is_reason command found why is = subst (IsOneOf why) (same_reasons command found) (first_is_one (guarded_replies_of command found) why is)

-- the reason that a fault tells
reason_told : (fault : StoreFault) (o : Option CommandReply) → Some (option_map refused (refusal_of_fault fault)) ≡ option_map Some o → (why : Refusal) × (refusal_of_fault fault ≡ Some why)
    × (o ≡ Some (refused why))
reason_told fault o is = go (refusal_of_fault fault) o refl is
  where
    go : (r : Option Refusal) (o : Option CommandReply) → refusal_of_fault fault ≡ r → Some (option_map refused r) ≡ option_map Some o → (why : Refusal) × (refusal_of_fault fault ≡ Some why)
        × (o ≡ Some (refused why))
    go None None e is = absurd cc
    go None (Some reply) e is = absurd cc
    go (Some why) None e is = absurd cc
    go (Some why) (Some reply) e is = (let same : reply ≡ refused why = cc in (why, e, ap Some same))

-- ---- its answer

pub same_of : (o p : Option CommandReply) → option_map Some o ≡ option_map Some p → o ≡ p
same_of None None is = refl
same_of None (Some q) is = absurd cc
same_of (Some r) None is = absurd cc
same_of (Some r) (Some q) is = cc

-- a message that no test answers was not found
unknown : (unlisted large known full : Bool)
    → (if unlisted then Some (refused no_list) else if large then Some (refused too_large) else if known then Some already_known else if full then Some (refused list_full) else None) ≡ None
    → known ≡ false
unknown true large known full is = absurd cc
unknown false true known full is = absurd cc
unknown false false true full is = absurd cc
unknown false false false full is = refl

-- and one of which it is told that it is known was found
is_known : (unlisted large known full : Bool)
    → (if unlisted then Some (refused no_list) else if large then Some (refused too_large) else if known then Some already_known else if full then Some (refused list_full) else None)
    ≡ Some already_known
    → (if known then already_known else taken_in) ≡ already_known
is_known true large known full is = absurd cc
is_known false true known full is = absurd cc
is_known false false true full is = refl
is_known false false false true is = absurd cc
is_known false false false false is = absurd cc

answer_made : (command : Command) (found : CommandFacts) → first_passing_reply (guarded_replies_of command found) ≡ None → reply_unless_refused command found ≡ reply_if_carried_out command found
answer_made (add list item) found none =
    ap (λ b. if b then already_known else taken_in) (unknown (not found.list) (is_too_large item) found.message found.full none)
answer_made command found none = refl

-- tests that refuse, and nothing else
never_known : (tests : List (Bool × Refusal)) → first_passing_reply (map (λ t. refuse_if t.0 t.1) tests) ≡ Some already_known → ⊥
never_known [] is = absurd cc
never_known (test ∷ tests) is = go test.0 (never_known tests) is
  where
    go : (b : Bool) → (first_passing_reply (map (λ t. refuse_if t.0 t.1) tests) ≡ Some already_known → ⊥)
        → (if b then Some (refused test.1) else first_passing_reply (map (λ t. refuse_if t.0 t.1) tests)) ≡ Some already_known → ⊥
    go true later is = absurd cc
    go false later is = later is

answer_known : (command : Command) (found : CommandFacts) → first_passing_reply (guarded_replies_of command found) ≡ Some already_known → reply_unless_refused command found ≡ already_known
answer_known (add list item) it is = is_known (not it.list) (is_too_large item) it.message it.full is
answer_known (list_add name) it is = absurd (never_known ((not (is_name name), bad_name) ∷ (it.list, list_exists) ∷ []) is)
answer_known (merge_set list merge) it is = absurd (never_known ((not it.list, no_list) ∷ []) is)
answer_known (person_add name token) it is =
    absurd (never_known ((not (is_name name), bad_name) ∷ (not (is_token token), bad_text) ∷ (it.person, person_exists) ∷ (it.token, token_taken) ∷ []) is)
answer_known (address_set person address) it is = absurd (never_known ((not it.person, no_person) ∷ (not (is_address address), bad_text) ∷ []) is)
answer_known (grant person list rank from until) it is = absurd (never_known ((not it.person, no_person) ∷ (not it.list, no_list) ∷ (int_lt until from, bad_days) ∷ []) is)
answer_known (revoke person list rank) it is = absurd (never_known ((not it.person, no_person) ∷ (not it.list, no_list) ∷ []) is)
answer_known (withdraw list key party) it is = absurd (never_known ((not it.list, no_list) ∷ (not it.message, no_message) ∷ (it.withdrawn, already_withdrawn) ∷ []) is)
answer_known (restore list key) it is = absurd (never_known ((not it.list, no_list) ∷ (not it.message, no_message) ∷ (not it.withdrawn, not_withdrawn) ∷ []) is)
answer_known (embargo list key until) it is = absurd (never_known ((not it.list, no_list) ∷ (not it.message, no_message) ∷ []) is)
answer_known (lift list key) it is = absurd (never_known ((not it.list, no_list) ∷ (not it.message, no_message) ∷ []) is)

-- a command that no test answers is carried out
pub is_carried : (command : Command) (found : CommandFacts) → IsExecutedReply (reply_if_carried_out command found)
is_carried (revoke person list rank) found = tt
is_carried command found = tt

-- ---- the tests of the code

-- tests of the code and of the machine, one by one
abbrev pub Alike : List (Bool × Settled) → List GuardedReply → Type 0
Alike [] [] = ⊤
Alike (row ∷ rows) (test ∷ tests) = (row.0 ≡ test.0) × (reply_without_write row.1 ≡ Some test.1) × Alike rows tests
Alike _ _ = ⊥

pub rows_alike : (rows : List (Bool × Settled)) (tests : List GuardedReply) → Alike rows tests
    → option_map reply_without_write (option_map (λ row. row.1) (find (λ row. row.0) rows)) ≡ option_map Some (first_passing_reply tests)
rows_alike [] [] alike = refl
rows_alike [] (test ∷ tests) alike = absurd alike
rows_alike (row ∷ rows) [] alike = absurd alike
rows_alike (row ∷ rows) (test ∷ tests) alike =
    go row.0 (rows_alike rows tests alike.2) ∙ ap (λ b. option_map Some (if b then Some test.1 else first_passing_reply tests)) alike.0
  where
    go : (b : Bool) → option_map reply_without_write (option_map (λ row. row.1) (find (λ row. row.0) rows)) ≡ option_map Some (first_passing_reply tests)
        → option_map reply_without_write (option_map (λ row. row.1) (if b then Some row else find (λ row. row.0) rows)) ≡ option_map Some (if b then Some test.1 else first_passing_reply tests)
    go true later = ap Some alike.1
    go false later = later

module _ {S : Type 0} (g : Ghosts S) where
  -- ---- questions

  -- one on the tables
  pub looks_passed : {A : Type 0} {old new : Store S} {told : Result A Error} {result : Result A StoreFault} {Says : Archive → A → Type 0}
      → Passes told result → IfErr result (λ fault. refusal_of_fault fault ≡ None) → RaisesRefusalCount IsMemoryRefusal (memory_refusal_count old) (memory_refusal_count new) result
      → AnswersFromDatabase g (store_connection old) (store_connection new) told Says ⊥ → ReadsArchive g old new result Says
  looks_passed {old = old} {new = new} {told = told} {result = result} {Says = Says} is fault counted asks = record {
    remains_open = asks.ends_call.remains_open;
    was_open = λ clean. passes_to _ _ told result is (asks.ends_call.was_open clean);
    crash_adds_nothing = asks.crash_adds_nothing;
    fault_is_no_refusal = fault;
    refusals_counted = counted;
    answer_holds = λ clean kept. passes_to (λ a. Says (archive_in g old) a × LeavesRowsUnchanged None (state g (store_connection old)) (state g (store_connection new))) _ told result is
        (asks.answer_holds clean None kept);
    fault_has_cause = blames_disk g (store_connection old) (store_connection new) told result is asks.fault_has_cause;
  }

  -- one behind another
  pub looks_then : {A B : Type 0} {old mid new : Store S} {a : A} {result : Result B StoreFault} {P : Archive → A → Type 0} {Q : Archive → B → Type 0}
      → ReadsArchive g old mid (Ok a) P → ReadsArchive g mid new result Q → ReadsArchive g old new result (λ x b. P x a × Q x b)
  looks_then {old = old} {mid = mid} {new = new} {a = a} {result = result} {P = P} {Q = Q} first next =
      let o = state g (store_connection old) in
      let m = state g (store_connection mid) in
      let n = state g (store_connection new) in
      record {
        remains_open = lasts_then o m n first.remains_open next.remains_open;
        was_open = λ clean. when_ok result _ (first.was_open (next.remains_open.disk_was_clean clean));
        crash_adds_nothing = λ clean db may. first.crash_adds_nothing (next.remains_open.disk_was_clean clean) db (next.crash_adds_nothing clean db may);
        fault_is_no_refusal = next.fault_is_no_refusal;
        refusals_counted = raises_after IsMemoryRefusal (memory_refusal_count old) (memory_refusal_count mid) (memory_refusal_count new) result first.refusals_counted.0 next.refusals_counted;
        answer_holds = λ clean kept.
            let one = first.answer_holds (next.remains_open.disk_was_clean clean) kept in
            MatchResult-weaker result (next.answer_holds clean one.1.0)
            (λ b it. ((one.0, subst (λ x. Q x b) (archive_stays one.1.1) it.0), stays_then None o m n one.1 it.1)) (λ _. rests_behind None o m n one.1.1);
        fault_has_cause = λ clean kept free.
            let one = first.answer_holds (next.remains_open.disk_was_clean clean) kept in
            blames result (more_since o m n first.remains_open) (next.fault_has_cause clean one.1.0 (first.remains_open.step_limit_is_same ∙ free));
      }

  -- what follows from it
  pub looks_say : {A B : Type 0} {old new : Store S} {a : A} {b : B} {P : Archive → A → Type 0} {Q : Archive → B → Type 0}
      → ReadsArchive g old new (Ok a) P → ((x : Archive) → P x a → Q x b) → ReadsArchive g old new (Ok b) Q
  looks_say {old = old} looks so = record {
    remains_open = looks.remains_open;
    was_open = looks.was_open;
    crash_adds_nothing = looks.crash_adds_nothing;
    fault_is_no_refusal = tt;
    refusals_counted = looks.refusals_counted;
    answer_holds = λ clean kept. let it = looks.answer_holds clean kept in (so (archive_in g old) it.0, it.1);
    fault_has_cause = λ clean kept free. tt;
  }

  -- the exit of a `?`
  pub looks_stop : {A B : Type 0} {old new : Store S} {fault : StoreFault} (result : Result B StoreFault) {P : Archive → A → Type 0} {Q : Archive → B → Type 0}
      → ReadsArchive g old new {A = A} (Err fault) P → IsErrAnd result (λ f. f ≡ fault) → ReadsArchive g old new result Q
  looks_stop (Ok b) looks is = absurd is
  looks_stop {B = B} {old = old} {new = new} (Err f) {Q = Q} looks is = subst (λ f. ReadsArchive g old new {A = B} (Err f) Q) (sym is) (record {
    remains_open = looks.remains_open;
    was_open = λ clean. tt;
    crash_adds_nothing = looks.crash_adds_nothing;
    fault_is_no_refusal = looks.fault_is_no_refusal;
    refusals_counted = looks.refusals_counted;
    answer_holds = looks.answer_holds;
    fault_has_cause = looks.fault_has_cause;
  })

  -- ---- a write

  pub puts_passed : {A : Type 0} {old new : Store S} {told : Result A Error} {result : Result A StoreFault} {Needs_0 : Archive → Type 0} {change_0 : Archive → Archive} {statement : Statement}
      {Needs : Archive → Type 0} {change : Archive → Archive} {Refused : Database → Type 0}
      → WritesByStatement g (store_connection old) (store_connection new) told Needs_0 change_0 statement
      → Passes told result → IfErr result (λ fault. refusal_of_fault fault ≡ None) → RaisesRefusalCount IsMemoryRefusal (memory_refusal_count old) (memory_refusal_count new) result
      → ((a : Archive) → Needs a → Needs_0 a × (change_0 a ≡ change a))
      → ((db : Database) → Needs (archive_of_trees db.trees) → IsStatementRefused statement db → Refused db)
      → WritesToArchive g old new result Needs change Refused
  puts_passed {old = old} {new = new} {told = told} {result = result} {statement = statement} writes is fault counted turn bad =
      let o = state g (store_connection old) in
      record {
        remains_open = writes.ends_call.remains_open;
        was_open = λ clean. passes_to _ _ told result is (writes.ends_call.was_open clean);
        fault_is_no_refusal = fault;
        refusals_counted = counted;
        answer_holds = λ clean kept need.
            let it = turn (archive_in g old) need in
            MatchResult-weaker result (passes_to _ _ told result is (writes.answer_holds clean None kept)) (λ a made. let m = made it.0 in (m.0, m.1 ∙ it.1)) (λ _ rests. rests);
        crash = λ kept need clean db may.
            let it = turn (archive_in g old) need in
            elim (writes.crash None kept it.0 clean db may) [
              | inl before ↦ inl before
              | inr made ↦ inr (subst (λ a. IsArchiveStored a db) it.1 made.1)
            ];
        fault_has_cause = λ clean kept free need.
            blames result (λ why. elim why [ inl more ↦ inl more | inr it ↦ inr (bad o.now need it) ])
            (blames_passed g (store_connection old) (store_connection new) told result (IsStatementRefused statement o.now) is
            (λ clean kept free. writes.fault_has_cause clean None kept free) clean kept free);
      }

  -- it wrote one row
  abbrev one_row : Result (Unit {0}) StoreFault → Result ℕ StoreFault
  one_row passed = map_store_result (λ _. (let n : ℕ = 1 in n)) passed

  -- a message that the list does not hold
  fresh : (a : Archive) (list : List ℕ) (item : Item) (found : CommandFacts) → PassesCommandTests (add list item) found a
      → list_any (is_message_at_key list (item_key item)) a.messages ≡ false
  fresh a list item found need =
      sym (is_some-find (is_message_at_key list (item_key item)) a.messages) ∙ sym (ap (λ f. f.message) need.1)
      ∙ unknown (not found.list) (is_too_large item) found.message found.full need.2

  -- it is written down
  pub puts_taken : {old new : Store S} {result : Result ℕ StoreFault} (told : Result (Unit {0}) DatabaseError) (passed : Result (Unit {0}) StoreFault) (list : List ℕ) (item : Item)
      (found : CommandFacts)
      → result ≡ one_row passed → InsertsMessage g (store_connection old) (store_connection new) told list (item_key item) item
      → FailsToInsertMessage g (store_connection old) (store_connection new) told list (item_key item) item
      → CrashLeavesWholeMessage g (store_connection old) (store_connection new) list (item_key item) item → EndsConnectionCall g (store_connection old) (store_connection new) told
      → PassesFault told passed → IfErr passed (λ fault. refusal_of_fault fault ≡ None) → RaisesRefusalCount IsMemoryRefusal (memory_refusal_count old) (memory_refusal_count new) passed
      → WritesToArchive g old new result (PassesCommandTests (add list item) found) (archive_changed_by (add list item)) (IsWriteRefused (add list item))
  puts_taken {old = old} {new = new} told passed list item found is takes fails crash ends handed kind counted =
      subst (λ (r : Result ℕ StoreFault). WritesToArchive g old new r (PassesCommandTests (add list item) found) (archive_changed_by (add list item)) (IsWriteRefused (add list item)))
      (sym is) (go told passed takes fails ends handed kind counted)
    where
      go : (told : Result (Unit {0}) DatabaseError) (passed : Result (Unit {0}) StoreFault) → InsertsMessage g (store_connection old) (store_connection new) told list (item_key item) item
          → FailsToInsertMessage g (store_connection old) (store_connection new) told list (item_key item) item → EndsConnectionCall g (store_connection old) (store_connection new) told
          → PassesFault told passed
          → IfErr passed (λ fault. refusal_of_fault fault ≡ None) → RaisesRefusalCount IsMemoryRefusal (memory_refusal_count old) (memory_refusal_count new) passed
          → WritesToArchive g old new (one_row passed) (PassesCommandTests (add list item) found) (archive_changed_by (add list item)) (IsWriteRefused (add list item))
      go (Ok _) (Ok _) takes fails ends handed kind counted = record {
        remains_open = ends.remains_open;
        was_open = λ clean. ends.was_open clean;
        fault_is_no_refusal = tt;
        refusals_counted = (counted.0, tt);
        answer_holds = λ clean kept need. takes clean None kept (fresh (archive_in g old) list item found need);
        crash = λ kept need clean db may. elim (crash None kept (fresh (archive_in g old) list item found need) clean db may) [ inl before ↦ inl before | inr made ↦ inr made.1 ];
        fault_has_cause = λ clean kept free need. tt;
      }
      go (Err e) (Err fault) takes fails ends handed kind counted = record {
        remains_open = ends.remains_open;
        was_open = λ clean. tt;
        fault_is_no_refusal = kind;
        refusals_counted = counted;
        answer_holds = λ clean kept need. takes clean None kept;
        crash = λ kept need clean db may. elim (crash None kept (fresh (archive_in g old) list item found need) clean db may) [ inl before ↦ inl before | inr made ↦ inr made.1 ];
        fault_has_cause = λ clean kept free need it. fails clean None kept free (is_database e (sym handed ∙ it));
      }
      go (Ok _) (Err fault) takes fails ends handed kind counted = absurd handed
      go (Err e) (Ok _) takes fails ends handed kind counted = absurd cc

  -- of a command that is this one
  pub puts_as : {A : Type 0} {old new : Store S} {result : Result A StoreFault} {given other : Given} (found : CommandFacts) → given ≡ other
      → WritesCommandRows g old new other found result → WritesCommandRows g old new given found result
  puts_as {old = old} {new = new} {result = result} found is = subst (λ given. WritesCommandRows g old new given found result) (sym is)

  -- ---- the exits of a command

  -- Calls that left the archive, of which this is so.
  pub record Leaves (old new : Store S) (P : Archive → Type 0) : Type 0 where
    pub lasts : StaysOpenUnlessDiskFails g old new
    pub quiet : CrashAddsNothing g (store_connection old) (store_connection new)
    pub wants : memory_refusal_count old ≤ memory_refusal_count new
    pub over : StoreHasCleanDisk g new → HoldsTables g old → P (archive_in g old) × LeavesRowsUnchanged None (state g (store_connection old)) (state g (store_connection new))

  leaves_looked : {A : Type 0} {old new : Store S} {a : A} {P : Archive → A → Type 0} → ReadsArchive g old new (Ok a) P → Leaves old new (λ x. P x a)
  leaves_looked looks = record { lasts = looks.remains_open; quiet = looks.crash_adds_nothing; wants = looks.refusals_counted.0; over = looks.answer_holds }

  leaves_nothing : (old : Store S) → Leaves old old (λ _. ⊤)
  leaves_nothing old = record {
    lasts = lasts_same (state g (store_connection old));
    quiet = λ clean db may. may;
    wants = omega arith;
    over = λ clean kept. (tt, (kept, refl));
  }

  -- it is refused for a reason
  refuses : {B : Type 0} (old new : Store S) (reasons : List Refusal) (Cause : Type 0) (why : StoreFault) (reason : Refusal) → StaysOpenUnlessDiskFails g old new
      → memory_refusal_count old ≤ memory_refusal_count new → refusal_of_fault why ≡ Some reason → IsOneOf reason reasons → EndsWithCause g old new Cause {A = B} (Err why) reasons
  refuses old new reasons Cause why reason before same is one =
      ends_with before (λ clean. tt) (subst (λ o. IfSome o (λ why. IsOneOf why reasons)) (sym is) one)
      (same, (λ want. absurd (let bad : ◌≡◌ {A = Option Refusal} None (Some reason) = ap refusal_of_fault (sym want) ∙ is in cc)))
      (λ clean kept free it. absurd (let bad : ◌≡◌ {A = Option Refusal} None (Some reason) = ap refusal_of_fault (sym it) ∙ is in cc))

  module _ {limit : ℕ} (old new : Store S) (command : Command) where
    -- a question failed
    pub unlooked : {A : Type 0} {fault : StoreFault} (result : Result CommandFacts StoreFault) {P : Archive → A → Type 0}
        → ReadsArchive g old new {A = A} (Err fault) P → IsErrAnd result (λ f. f ≡ fault) → ExecutesWithinListLimit g old new limit command result
    unlooked (Ok found) looks is = absurd is
    unlooked {fault = fault} (Err f) looks is = subst (λ f. ExecutesWithinListLimit g old new limit command (Err f)) (sym is) (record {
      performs_step = λ clean kept.
          subst (λ o. MatchesModelStep (state g (store_connection old)) (state g (store_connection new)) (λ a. step_within_limit limit a command) (option_map refused o))
          (sym looks.fault_is_no_refusal)
          (looks.answer_holds clean kept);
      crash = λ kept clean db may. inl (looks.crash_adds_nothing clean db may);
      ends_write = ends_with looks.remains_open (λ clean. tt) (kind_last {A = CommandFacts} (Err fault) _ looks.fault_is_no_refusal) looks.refusals_counted
          (λ clean kept free it. inl (looks.fault_has_cause clean kept free it));
    })

    -- it is refused behind calls that left the archive, by what they found
    pub turned_down : {P : Archive → Type 0} (found : CommandFacts) (fault : StoreFault) → Leaves old new P
        → Some (option_map refused (refusal_of_fault fault)) ≡ option_map Some (first_passing_reply (guarded_replies_of command found))
        → ((a : Archive) → P a → first_passing_reply (guarded_replies_of command (command_facts_within_limit limit a command)) ≡ first_passing_reply (guarded_replies_of command found))
        → ExecutesWithinListLimit g old new limit command (Err fault)
    turned_down found fault leaves is at =
        let told = reason_told fault (first_passing_reply (guarded_replies_of command found)) is in
        record {
          performs_step = λ clean kept.
              let it = leaves.over clean kept in
              subst (λ o. MatchesModelStep (state g (store_connection old)) (state g (store_connection new)) (λ a. step_within_limit limit a command) (option_map refused o)) (sym told.1)
              (it.1.0, ap (λ a. told_at a (refused told.0)) (archive_stays it.1.1) ∙ sym (told_step limit (archive_in g old) command (refused told.0) (at (archive_in g old) it.0 ∙ told.2)));
          crash = λ kept clean db may. inl (leaves.quiet clean db may);
          ends_write = refuses old new (possible_refusals_of command) _ fault told.0 leaves.lasts leaves.wants told.1 (is_reason command found told.0 told.2);
        }

    -- by what was found of it
    pub refused_by : (found : CommandFacts) (fault : StoreFault) (settled : Option Settled) → ReadsArchive g old new (Ok found) (λ a f. f ≡ command_facts_within_limit limit a command)
        → settled ≡ Some (settled_as.Refused fault) → option_map reply_without_write settled ≡ option_map Some (first_passing_reply (guarded_replies_of command found))
        → ExecutesWithinListLimit g old new limit command (Err fault)
    refused_by found fault settled looks told is =
        turned_down found fault (leaves_looked looks) (sym (ap (option_map reply_without_write) told) ∙ is) (λ a it. ap (λ f. first_passing_reply (guarded_replies_of command f)) (sym it))

    -- it is known
    pub already_there : (found : CommandFacts) (settled : Option Settled) → ReadsArchive g old new (Ok found) (λ a f. f ≡ command_facts_within_limit limit a command)
        → settled ≡ Some (settled_as.Known) → option_map reply_without_write settled ≡ option_map Some (first_passing_reply (guarded_replies_of command found))
        → ExecutesWithinListLimit g old new limit command (Ok found)
    already_there found settled looks told is =
        let known = same_of (first_passing_reply (guarded_replies_of command found)) (Some already_known) (sym is ∙ ap (option_map reply_without_write) told) in
        record {
          performs_step = λ clean kept.
              let it = looks.answer_holds clean kept in (
                it.1.0,
                ap (λ a. told_at a (reply_unless_refused command found)) (archive_stays it.1.1) ∙ ap (told_at (archive_in g old)) (answer_known command found known)
                    ∙ sym (told_step limit (archive_in g old) command already_known (ap (λ f. first_passing_reply (guarded_replies_of command f)) (sym it.0) ∙ known)),
              );
          crash = λ kept clean db may. inl (looks.crash_adds_nothing clean db may);
          ends_write = ends_with looks.remains_open looks.was_open tt looks.refusals_counted (λ clean kept free. tt);
        }

  -- it is refused by its words, whatever is found
  pub refused_at_once : {limit : ℕ} (old : Store S) (command : Command) (fault : StoreFault)
      → ((found : CommandFacts) → option_map Some (first_passing_reply (guarded_replies_of command found)) ≡ Some (option_map refused (refusal_of_fault fault)))
      → ExecutesWithinListLimit g old old limit command (Err fault)
  refused_at_once {limit = limit} old command fault is =
      turned_down old old command no_command_facts fault (leaves_nothing old) (sym (is no_command_facts))
      (λ a it. same_of (first_passing_reply (guarded_replies_of command (command_facts_within_limit limit a command))) (first_passing_reply (guarded_replies_of command no_command_facts))
      (is (command_facts_within_limit limit a command) ∙ sym (is no_command_facts)))

  -- it is written, or not
  module _ (limit : ℕ) (old mid new : Store S) (command : Command) (found : CommandFacts) (looks : ReadsArchive g old mid (Ok found) (λ a f. f ≡ command_facts_within_limit limit a command))
      (none : first_passing_reply (guarded_replies_of command found) ≡ None) where
    abbrev PutsIt : Result ℕ StoreFault → Type 0
    PutsIt result = WritesToArchive g mid new result (PassesCommandTests command found) (archive_changed_by command) (IsWriteRefused command)

    still : found ≡ command_facts_within_limit limit (archive_in g old) command → archive_in g mid ≡ archive_in g old → PassesCommandTests command found (archive_in g mid)
    still is same = (limit, is ∙ ap (λ a. command_facts_within_limit limit a command) (sym same), none)

    crashes : (result : Result ℕ StoreFault) → PutsIt result → CrashSteps g (store_connection old) (store_connection new) (λ a. step_within_limit limit a command)
    crashes result puts = λ kept clean db may.
        let was = puts.remains_open.disk_was_clean clean in
        let it = looks.answer_holds was kept in
        let same = archive_stays it.1.1 in
        elim (puts.crash it.1.0 (still it.0 same) clean db may) [
          | inl before ↦ inl (looks.crash_adds_nothing was db before)
          | inr made ↦ inr (subst (λ a. IsArchiveStored a db) (ap (archive_changed_by command) same ∙ ap (λ (o : StepOutcome). o.0)
              (sym (made_step limit (archive_in g old) command found it.0 none))) made)
        ]

    pub carried_out : (n : ℕ) → PutsIt (Ok n) → ExecutesWithinListLimit g old new limit command (Ok found)
    carried_out n puts = record {
      performs_step = λ clean kept.
          let it = looks.answer_holds (puts.remains_open.disk_was_clean clean) kept in
          let same = archive_stays it.1.1 in
          let made = puts.answer_holds clean it.1.0 (still it.0 same) in (
            made.0,
            ap (λ a. told_at a (reply_unless_refused command found)) (made.1 ∙ ap (archive_changed_by command) same)
                ∙ ap (told_at (archive_changed_by command (archive_in g old))) (answer_made command found none) ∙ sym (made_step limit (archive_in g old) command found it.0 none),
          );
      crash = crashes (Ok n) puts;
      ends_write = ends_with (lasts_then _ _ _ looks.remains_open puts.remains_open)
          (λ clean. looks.remains_open.closed_stays_closed (puts.remains_open.disk_was_clean clean) (puts.was_open clean)) tt
          (raises_after IsMemoryRefusal (memory_refusal_count old) (memory_refusal_count mid) (memory_refusal_count new) (Ok found) looks.refusals_counted.0 puts.refusals_counted)
          (λ clean kept free. tt);
    }

    pub unwritten : (fault : StoreFault) (result : Result CommandFacts StoreFault) → PutsIt (Err fault) → IsErrAnd result (λ f. f ≡ fault)
        → ExecutesWithinListLimit g old new limit command result
    unwritten fault (Ok f) puts is = absurd is
    unwritten fault (Err f) puts is = subst (λ f. ExecutesWithinListLimit g old new limit command (Err f)) (sym is) (record {
      performs_step = λ clean kept.
          let it = looks.answer_holds (puts.remains_open.disk_was_clean clean) kept in
          subst (λ o. MatchesModelStep (state g (store_connection old)) (state g (store_connection new)) (λ a. step_within_limit limit a command) (option_map refused o)) (sym puts.fault_is_no_refusal)
          (rests_behind None (state g (store_connection old)) (state g (store_connection mid)) (state g (store_connection new)) it.1.1
          (puts.answer_holds clean it.1.0 (still it.0 (archive_stays it.1.1))));
      crash = crashes (Err fault) puts;
      ends_write = ends_with (lasts_then _ _ _ looks.remains_open puts.remains_open) (λ clean. tt) (kind_last {A = CommandFacts} (Err fault) _ puts.fault_is_no_refusal)
          (raises_after IsMemoryRefusal _ _ _ (let r : Result CommandFacts StoreFault = Err fault in r) looks.refusals_counted.0 puts.refusals_counted) (λ clean kept free why.
          let it = looks.answer_holds (puts.remains_open.disk_was_clean clean) kept in
          elim (puts.fault_has_cause clean it.1.0 (looks.remains_open.step_limit_is_same ∙ free) (still it.0 (archive_stays it.1.1)) why) [
            | inl more ↦ inl (more_since (state g (store_connection old)) (state g (store_connection mid)) (state g (store_connection new)) looks.remains_open more)
            | inr bad ↦ inr (record {
              would_execute = subst (λ (o : StepOutcome). IsExecutedReply o.1) (sym (made_step limit (archive_in g old) command found it.0 none)) (is_carried command found);
              refuses_rows = subst (IsWriteRefused command) it.1.1 bad;
            })
          ]);
    })

  -- ---- a call of its own for each command

  module _ {B : Type 0} {limit : ℕ} (old new : Store S) (command : Command) (f : CommandFacts → B) (says : B → CommandReply) (told : Result CommandFacts StoreFault)
      (result : Result B StoreFault) where
    -- what it says is the machine's answer
    pub called : result ≡ map_store_result f told → ((found : CommandFacts) → says (f found) ≡ reply_unless_refused command found) → ExecutesWithinListLimit g old new limit command told
        → ExecutesCommand g old new limit command (reply_of_result says) result
    called is same it = subst (ExecutesCommand g old new limit command (reply_of_result says)) (sym is) (go told it)
      where
        go : (told : Result CommandFacts StoreFault) → ExecutesWithinListLimit g old new limit command told → ExecutesCommand g old new limit command (reply_of_result says) (map_store_result f told)
        go (Ok found) it = record {
          performs_step = subst (λ (r : CommandReply). PerformsModelStep g (store_connection old) (store_connection new) (λ a. step_within_limit limit a command) (Some r))
              (sym (same found)) it.performs_step;
          crash = it.crash;
          ends_write = ends_with it.ends_write.remains_open it.ends_write.was_open tt it.ends_write.refusals_counted (λ clean kept free. tt);
        }
        go (Err fault) it = record {
          performs_step = it.performs_step;
          crash = it.crash;
          ends_write = ends_with it.ends_write.remains_open it.ends_write.was_open it.ends_write.refusal_is_possible it.ends_write.refusals_counted it.ends_write.fault_has_cause;
        }

-- ---- what is found

-- of a message
pub message_found : (list : Bool) (o : Option Message) → facts_from_marks_row list (option_map decoded_dated_marks o) ≡ record no_command_facts {
  list = list;
  message = is_some o;
  withdrawn = is_withdrawn o;
  embargo = has_embargo o;
}
message_found list None = refl
message_found list (Some m) = refl

-- and of a message that is added
pub added_is : (held : Bool) → added_reply (new_or_known held) ≡ (if held then already_known else taken_in)
added_is true = refl
added_is false = refl
