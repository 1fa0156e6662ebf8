-- Questions of a store, call by call: what each says where it is answered, what it leaves where it fails, and what its E15 means.
use Rattle.std.proofs.Common.{◌≡◌, ℕ, ◌⊎◌, inl, inr, true, false, List, [], Option, Some, None, Result, Ok, Err, IfOk, IfErr, OnOk, refl, sym, ap, subst, ◌∙◌, ◌∷◌, ◌++◌, arith}
use Rattle.std.specs.Prelude.{⊤, Bool, not, if◌then◌else◌, IsTrue, IsUtf8, IfSome, IsErrAnd, MatchResult, MatchOption, option_map}
use Rattle.std.specs.Option.{IsSomeAnd, option_map_or}
use Rattle.sqlite_disk.specs.Disk.{MoreFaults}
use Rattle.sqlite.specs.declared.error.Error.{Error}
use Rattle.sqlite.specs.Effect.{Database}
use Rattle.sqlite.specs.Tree.{Trees}
use Rattle.sqlite.specs.Store.{Ghosts}
use Rattle.sqlite.specs.Held.{Held, state}
use Rattle.sqlite.specs.State.{State, HasCleanDisk}
use Rattle.archive_model.specs.Records.{Message, Archive, ListOption}
use Rattle.archive_model.specs.Commands.{Refusal, no_list, no_person}
use Rattle.archive_model.specs.Questions.{has_list, has_person, list_refusal, standing_refusal, person_refusal}
use Rattle.archive_tables.specs.Tables.{IsOpenArchive, IsArchiveAtRest, archive_in_trees, archive_of}
use Rattle.archive_tables.specs.Calls.{AnswersFromRows, LeavesRowsUnchanged, AnswersOnlyIfOpen, FailsByFaultOr, FaultKeepsRows, AnswersFromDatabase, KeepsConnectionUnlessDiskFails}
use Rattle.archive_tables.specs.Calls.{IsMemoryOrDiskError}
use Rattle.archive_port.specs.Messages.{IsReadable}
use Rattle.archive_database.specs.declared.faults.DatabaseError.{DatabaseError}
use Rattle.archive_database.specs.declared.faults.DatabaseError.TheVariants as inner
use Rattle.archive_tables.proofs.EndLemmas.{rests_behind, archive_stays}
use Rattle.archive_port.specs.Replies.{refusal_of_fault, IsOneOf, IsRefusedOnlyFor}
use Rattle.archive_database.specs.Faults.{as_store_fault}
use Rattle.archive_store.specs.Replies.{AnswersStoreQuestion, ArchiveIsUnchanged, store_fault_of_error}
use Rattle.archive_port.specs.declared.faults.StoreFault.{StoreFault}
use Rattle.archive_port.specs.declared.faults.StoreFault.TheVariants as faults
use Rattle.std.specs.List.{All}
use Rattle.std.proofs.lemmas.List.Elements.{All-head, All-tail}
use Rattle.archive_model.proofs.KeyLemmas.{IsUtf8-key}
use Rattle.archive_tables.specs.Rows.{out_of_memory_error}

-- ---- the exit of a `?`

-- the same fault again
pub passed_on : {A : Type 0} (r : Result A StoreFault) (f : StoreFault) (X : Type 0) → IsErrAnd r (λ g. g ≡ f) → (f ≡ faults.Store → X) → IfErr r (λ f. f ≡ faults.Store → X)
passed_on (Ok a) f X is why = tt
passed_on (Err g) f X is why = λ it. why (sym is ∙ it)

-- ---- want of memory is not E15

pub want_is_not : {X : Type 0} (e : Error) → e ≡ out_of_memory_error → store_fault_of_error e ≡ faults.Store → X
want_is_not e none it = absurd (let bad : faults.Memory ≡ faults.Store = sym (ap store_fault_of_error none) ∙ it in cc)

pub is_database : (e : DatabaseError) → as_store_fault e ≡ faults.Store → e ≡ inner.Database
is_database inner.Memory it = absurd cc
is_database inner.Database it = refl

-- ---- a question that failed

pub by_cause : (old new : State) (e : Error) → IsMemoryOrDiskError old new e → store_fault_of_error e ≡ faults.Store → MoreFaults old.faults new.faults
by_cause old new e (inl none) it = want_is_not e none it
by_cause old new e (inr more) it = more

pub more_since : (old mid new : State) → KeepsConnectionUnlessDiskFails old mid → MoreFaults mid.faults new.faults → MoreFaults old.faults new.faults
more_since old mid new lasts more = omega (arith, more, lasts.closes_only_by_fault.faults_never_fall)

-- ---- what was told, handed on

-- it is the same value, or its error as a fault
abbrev pub Passes : {A : Type 0} → Result A Error → Result A StoreFault → Type 0
Passes told result = MatchResult result (λ found. told ≡ Ok found) (λ fault. IsErrAnd told (λ error. fault ≡ store_fault_of_error error))

-- the same of what was done on a database
abbrev pub PassesFault : {A : Type 0} → Result A DatabaseError → Result A StoreFault → Type 0
PassesFault told result = MatchResult result (λ found. told ≡ Ok found) (λ fault. IsErrAnd told (λ error. fault ≡ as_store_fault error))

-- only memory or the database was at fault
abbrev pub HasNoReason : {A : Type 0} → Result A StoreFault → Type 0
HasNoReason result = IfErr result (λ fault. refusal_of_fault fault ≡ None)

-- nothing refuses it
abbrev pub never : Archive → Option Refusal
never archive = None

-- what E15 means
abbrev pub Blames : {A : Type 0} → Result A StoreFault → Type 0 → Type 0
Blames result Why = IfErr result (λ fault. fault ≡ faults.Store → Why)

pub blames : {A : Type 0} (r : Result A StoreFault) {P Q : Type 0} → (P → Q) → Blames r P → Blames r Q
blames (Ok a) all why = tt
blames (Err fault) all why = λ it. all (why it)

-- what is so of an answer, and of a fault, is so of them when they are handed on
pub passes_to : {A : Type 0} (X : A → Type 0) (Y : Type 0) (told : Result A Error) (result : Result A StoreFault) → Passes told result → MatchResult told X (λ _. Y)
    → MatchResult result X (λ _. Y)
passes_to X Y told (Ok a) is it = subst (λ t. MatchResult t X (λ _. Y)) is it
passes_to X Y (Ok a) (Err f) is it = absurd is
passes_to X Y (Err e) (Err f) is it = it

pub blamed_last : {A : Type 0} (told : Result A Error) (result : Result A StoreFault) (Why : Error → Type 0) (X : Type 0)
    → Passes told result → IfErr told Why → ((e : Error) → Why e → store_fault_of_error e ≡ faults.Store → X) → Blames result X
blamed_last told (Ok a) Why X is why so = tt
blamed_last (Ok a) (Err f) Why X is why so = absurd is
blamed_last (Err e) (Err f) Why X is why so = λ it. so e why (sym is ∙ it)

pub kind_last : {A : Type 0} (result : Result A StoreFault) (whys : List Refusal) → HasNoReason result → IsRefusedOnlyFor result whys
kind_last (Ok a) whys kind = tt
kind_last (Err f) whys kind = rw kind tt

pub when_ok : {A E : Type 0} (r : Result A E) (P : Type 0) → P → OnOk r P
when_ok (Ok a) P p = p
when_ok (Err e) P p = tt

-- one that is answered saw the same
pub saw_same : {A : Type 0} (old mid : State) {told : Result A Error} {a : A} → told ≡ Ok a → OnOk told (mid.now ≡ old.now) → mid.now ≡ old.now
saw_same old mid is it = subst (λ r. OnOk r (mid.now ≡ old.now)) is it

-- ---- a question on the tables

module _ {S A : Type 0} {g : Ghosts S} {old new : Held S} where
  -- a question that is answered, or not
  pub passed_answer : {told : Result A Error} {a : A} {Says : Archive → A → Type 0} {Unread : Type 0} → AnswersFromDatabase g old new told Says Unread → told ≡ Ok a
      → HasCleanDisk (state g new) → IsArchiveAtRest (state g old)
      → Says (archive_of (state g old)) a × IsArchiveAtRest (state g new) × (archive_of (state g new) ≡ archive_of (state g old))
  passed_answer {Says = Says} {Unread = Unread} asks is clean kept =
      let it = (subst (λ r. AnswersFromDatabase g old new r Says Unread) is asks).answer_holds clean None kept in
      (it.0, it.1.0, archive_stays it.1.1)

  pub passed_unanswered : (told : Result A Error) (Is : Error → Type 0) {Says : Archive → A → Type 0} {Unread : Type 0} → AnswersFromDatabase g old new told Says Unread → IsErrAnd told Is
      → HasCleanDisk (state g new) → IsArchiveAtRest (state g old) → IsTrue (state g new).is_open → ArchiveIsUnchanged g old new
  passed_unanswered (Ok a) Is asks is = absurd is
  passed_unanswered (Err e) Is asks is = λ clean kept up. let it = asks.answer_holds clean None kept up in (it.0, archive_stays it.1)

module _ {S A : Type 0} (g : Ghosts S) (old new : Held S) (told : Result A Error) where
  pub blames_passed : (r : Result A StoreFault) (Unread : Type 0) → Passes told r → FailsByFaultOr g old new told Unread
      → HasCleanDisk (state g new) → IsArchiveAtRest (state g old) → (state g old).step_limit ≡ None → Blames r (MoreFaults (state g old).faults (state g new).faults ⊎ Unread)
  blames_passed r Unread is caused clean kept free = blamed_last told r _ _ is (caused clean kept free) (λ e why it. elim why [
    | inl cause ↦ inl (by_cause (state g old) (state g new) e cause it)
    | inr bad ↦ inr bad
  ])

  -- one that reads no row
  pub blames_disk : (r : Result A StoreFault) → Passes told r → FailsByFaultOr g old new told ⊥
      → HasCleanDisk (state g new) → IsArchiveAtRest (state g old) → (state g old).step_limit ≡ None → Blames r (MoreFaults (state g old).faults (state g new).faults)
  blames_disk r is caused clean kept free = blames r (λ why. elim why [ inl more ↦ more | inr bad ↦ absurd bad ]) (blames_passed r ⊥ is caused clean kept free)

  pub up_passed : (r : Result A StoreFault) → Passes told r → HasNoReason r → AnswersOnlyIfOpen g old new told → HasCleanDisk (state g new)
      → MatchResult r (λ _. IsTrue (state g old).is_open) (λ fault. MatchOption (refusal_of_fault fault) ⊤ (λ _. IsTrue (state g old).is_open))
  up_passed (Ok a) is none was clean = subst (λ t. OnOk t (IsTrue (state g old).is_open)) is (was clean)
  up_passed (Err fault) is none was clean = subst (λ o. MatchOption o ⊤ (λ _. IsTrue (state g old).is_open)) (sym none) tt

-- the rows behind a question: seen as before it, or at rest where they were held
pub rows_asked : {S A : Type 0} {g : Ghosts S} {mid new : Held S} (old : State) (told : Result A Error) {Says : Archive → A → Type 0} {Unread : Type 0} → AnswersFromDatabase g mid new told Says Unread
    → HasCleanDisk (state g new) → (state g mid).now ≡ old.now → (IsArchiveAtRest old → IsArchiveAtRest (state g mid))
    → MatchResult told (λ _. (state g new).now ≡ old.now) (λ _. IsArchiveAtRest old → FaultKeepsRows old (state g new))
rows_asked old (Ok a) asks clean same held = asks.same_database clean ∙ same
rows_asked {g = g} {mid = mid} {new = new} old (Err e) asks clean same held = λ kept. rests_behind None old (state g mid) (state g new) same (asks.answer_holds clean None (held kept))

-- ---- a question on the rows themselves, handed on

module _ {S A : Type 0} {g : Ghosts S} {old new : Held S} where
  pub passed_rows : {told : Result A Error} {a : A} {Says : Trees → A → Type 0} {Unread : Type 0} → AnswersFromRows g old new told Says Unread → told ≡ Ok a
      → HasCleanDisk (state g new) → IsArchiveAtRest (state g old) → Says (state g old).now.trees a × ((state g new).now ≡ (state g old).now) × IsOpenArchive None (state g new)
  passed_rows {Says = Says} {Unread = Unread} asks is clean kept =
      let it = (subst (λ t. AnswersFromRows g old new t Says Unread) is asks).answer_holds clean None kept in
      (it.0, it.1.1, it.1.0)

  pub passed_no_rows : (told : Result A Error) (Is : Error → Type 0) {Says : Trees → A → Type 0} {Unread : Type 0} → AnswersFromRows g old new told Says Unread → IsErrAnd told Is
      → HasCleanDisk (state g new) → IsArchiveAtRest (state g old) → IsTrue (state g new).is_open → ((state g new).now ≡ (state g old).now) × IsOpenArchive None (state g new)
  passed_no_rows (Ok a) Is asks is = absurd is
  passed_no_rows (Err e) Is asks is = λ clean kept up. let it = asks.answer_holds clean None kept up in (it.1, it.0)

-- ---- what was read of rows, handed on

pub answers_read : {A : Type 0} (told : Result A DatabaseError) (r : Result A StoreFault) (Q P : A → Type 0) (R : Refusal → Type 0) {X : Type 0} → PassesFault told r → HasNoReason r → IfOk told Q
    → ((a : A) → Q a → P a) → X → MatchResult r P (λ fault. MatchOption (refusal_of_fault fault) X R)
answers_read told (Ok a) Q P R is none read all rest = all a (subst (λ t. IfOk t Q) is read)
answers_read told (Err fault) Q P R {X = X} is none read all rest = subst (λ o. MatchOption o X R) (sym none) rest

-- the same where a fault says nothing of its reason
pub finds_read : {A : Type 0} (told : Result A DatabaseError) (r : Result A StoreFault) (Q P : A → Type 0) {X : Type 0} → PassesFault told r → IfOk told Q → ((a : A) → Q a → P a) → X
    → MatchResult r P (λ _. X)
finds_read told (Ok a) Q P is read all rest = all a (subst (λ t. IfOk t Q) is read)
finds_read told (Err fault) Q P is read all rest = rest

pub blames_read : {A : Type 0} (told : Result A DatabaseError) (r : Result A StoreFault) (Q : DatabaseError → Type 0) {Why : Type 0} → PassesFault told r → IfErr told Q
    → ((e : DatabaseError) → Q e → e ≡ inner.Database → Why) → Blames r Why
blames_read told (Ok a) Q is unread all = tt
blames_read (Ok a) (Err fault) Q is unread all = absurd is
blames_read (Err e) (Err fault) Q is unread all = λ it. all e unread (is_database e (sym is ∙ it))

-- a want of memory is no fault of the database
pub not_both : {Why : Type 0} (e : DatabaseError) → e ≡ inner.Memory → e ≡ inner.Database → Why
not_both e wants is = absurd (let bad : inner.Memory ≡ inner.Database = sym wants ∙ is in cc)

-- ---- the exit of a `?`

-- a fault that has no reason
pub no_reason_of : (fault : StoreFault) → IfSome (refusal_of_fault fault) (λ why. IsOneOf why []) → refusal_of_fault fault ≡ None
no_reason_of fault it = go (refusal_of_fault fault) it
  where
    go : (o : Option Refusal) → IfSome o (λ why. IsOneOf why []) → o ≡ None
    go None it = refl
    go (Some why) it = absurd it

pub stops : {A : Type 0} (r : Result A StoreFault) (fault : StoreFault) → IsErrAnd r (λ told. told ≡ fault) → refusal_of_fault fault ≡ None → (P : A → Type 0) (R : Refusal → Type 0) {X : Type 0} → X
    → MatchResult r P (λ told. MatchOption (refusal_of_fault told) X R)
stops (Ok a) fault is none P R rest = absurd is
stops (Err told) fault is none P R {X = X} rest = subst (λ o. MatchOption o X R) (sym (ap refusal_of_fault is ∙ none)) rest

pub stops_for : {A : Type 0} (r : Result A StoreFault) (fault : StoreFault) → IsErrAnd r (λ told. told ≡ fault) → refusal_of_fault fault ≡ None → (whys : List Refusal) → IsRefusedOnlyFor r whys
stops_for (Ok a) fault is none whys = tt
stops_for (Err told) fault is none whys = rw (is, none) tt

-- ---- one question behind another

-- what has no reason says what it leaves
pub rests_of : (fault : StoreFault) (Y : Refusal → Type 0) {X : Type 0} → refusal_of_fault fault ≡ None → MatchOption (refusal_of_fault fault) X Y → X
rests_of fault Y {X} none it = subst (λ o. MatchOption o X Y) none it

-- a question that nothing refuses, for any reasons
pub unrefused_for : {A : Type 0} (r : Result A StoreFault) (whys : List Refusal) → IsRefusedOnlyFor r [] → IsRefusedOnlyFor r whys
unrefused_for (Ok a) whys it = tt
unrefused_for (Err fault) whys it = rw (no_reason_of fault it) tt

-- it asked a store that was open
pub up_behind : {A : Type 0} {Up : Type 0} (r : Result A StoreFault) → Up → MatchResult r (λ _. Up) (λ fault. MatchOption (refusal_of_fault fault) ⊤ (λ _. Up))
up_behind (Ok a) up = up
up_behind {Up = Up} (Err fault) up = go (refusal_of_fault fault)
  where
    go : (o : Option Refusal) → MatchOption o ⊤ (λ _. Up)
    go None = tt
    go (Some why) = up

-- it comes behind a look that left the archive and refuses it for no reason
pub asked_behind : {S A : Type 0} (g : Ghosts S) (old mid new : Held S) (Says : Archive → A → Type 0) (refuses : Archive → Option Refusal) (r : Result A StoreFault) → IsRefusedOnlyFor r []
    → AnswersStoreQuestion g mid new r never Says → HasCleanDisk (state g new) → ArchiveIsUnchanged g old mid → refuses (archive_of (state g old)) ≡ None
    → MatchResult r (λ a. ArchiveIsUnchanged g old new × (refuses (archive_of (state g old)) ≡ None) × Says (archive_of (state g old)) a)
    (λ fault. MatchOption (refusal_of_fault fault) (IsTrue (state g new).is_open → ArchiveIsUnchanged g old new)
    (λ why. ArchiveIsUnchanged g old new × (refuses (archive_of (state g old)) ≡ Some why)))
asked_behind g old mid new Says refuses (Ok a) unrefused asks clean stays listed =
    let it = asks clean stays.0 in
    ((it.0.0, it.0.1 ∙ stays.1), listed, subst (λ b. Says b a) stays.1 it.2)
asked_behind g old mid new Says refuses (Err fault) unrefused asks clean stays listed =
    let none = no_reason_of fault unrefused in
    let rest = rests_of fault _ none (asks clean stays.0) in
    rw none (λ up. let left = rest up in (left.0, left.1 ∙ stays.1))

-- ---- lists and persons

-- a question about a list that is there is answered
pub is_there : (list : List ℕ) (a : Archive) → true ≡ has_list a list → list_refusal a list ≡ None
is_there list a l = rw (sym l) refl

pub is_person : (person : List ℕ) (a : Archive) → true ≡ has_person a person → person_refusal a person ≡ None
is_person person a l = rw (sym l) refl

-- what is said of a list, or else that it is merged
pub merge_is : (found : Option Bool) (o : Option ListOption) → found ≡ option_map (λ x. x.merge) o
    → option_map_or (λ merge. merge) found true ≡ option_map_or (λ (x : ListOption). x.merge) o true
merge_is found None is = rw is refl
merge_is found (Some x) is = rw is refl

-- a list that is not there
pub not_there : (list : List ℕ) (a : Archive) → false ≡ has_list a list → list_refusal a list ≡ Some no_list
not_there list a none = rw (sym none) refl

-- one that is
pub is_listed : (list : List ℕ) (a : Archive) → list_refusal a list ≡ None → true ≡ has_list a list
is_listed list a is = go (has_list a list) is
  where
    go : (b : Bool) → (if not b then Some no_list else None) ≡ None → true ≡ b
    go true is = refl
    go false is = absurd cc

why_not : (list : List ℕ) (a : Archive) (why : Refusal) → list_refusal a list ≡ Some why → (why ≡ no_list) × (has_list a list ≡ false)
why_not list a why is = go (has_list a list) is
  where
    go : (b : Bool) → (if not b then Some no_list else None) ≡ Some why → (why ≡ no_list) × (b ≡ false)
    go true is = absurd cc
    go false is = (cc, refl)

-- a list that is not counted
pub not_counted : (old mid new : State) (list : List ℕ) (o : Option Refusal) → mid.now ≡ old.now → FaultKeepsRows mid new
    → MatchOption o (IsTrue new.is_open → IsArchiveAtRest new × (archive_of new ≡ archive_of mid))
    (λ why. (IsArchiveAtRest new × (archive_of new ≡ archive_of mid)) × (list_refusal (archive_of mid) list ≡ Some why))
    → MatchOption o (FaultKeepsRows old new) (λ why. LeavesRowsUnchanged None old new × (why ≡ no_list) × (has_list (archive_of old) list ≡ false))
not_counted old mid new list None same rests it = rests_behind None old mid new same rests
not_counted old mid new list (Some why) same rests it =
    let is = why_not list (archive_of mid) why it.1 in
    (rests_behind None old mid new same rests it.0.0.is_open, is.0, subst (λ (db : Database). has_list (archive_in_trees db.trees) list ≡ false) same is.1)

-- of a standing
pub no_such_person : (person list : List ℕ) (a : Archive) → false ≡ has_person a person → standing_refusal a person list ≡ Some no_person
no_such_person person list a none = rw (sym none) refl

pub no_such_list : (person list : List ℕ) (a : Archive) → true ≡ has_person a person → false ≡ has_list a list → standing_refusal a person list ≡ Some no_list
no_such_list person list a there none = rw (sym there, sym none) refl

-- ---- names that cannot be read

pub unread_in : {X : Type 0} (text : X → List ℕ) (found : Option X) → IsSomeAnd found (λ x. ¬ IsUtf8 (text x)) → IsSomeAnd (option_map text found) (λ name. ¬ IsUtf8 name)
unread_in text (Some x) bad = bad
unread_in text None bad = absurd bad

pub unread_key : (m : Message) → ¬ IsUtf8 m.key → ¬ IsReadable m
unread_key m bad it = bad (IsUtf8-key m.key it.key_is_valid)

-- a message that cannot be read
pub unread_row : {M : Type 0} (found : Option Message) → M ⊎ IsSomeAnd found (λ m. ¬ IsUtf8 m.key) → M ⊎ (¬ IsSomeAnd found IsReadable)
unread_row found (inl more) = inl more
unread_row (Some m) (inr bad) = inr (unread_key m bad)
unread_row None (inr bad) = absurd bad

one_in : {X : Type 0} (P : X → Type 0) (before : List X) (x : X) (rest : List X) → All P (before ++ x ∷ rest) → P x
one_in P [] x rest all = All-head P x rest all
one_in P (y ∷ before) x rest all = one_in P before x rest (All-tail P y (before ++ x ∷ rest) all)

pub not_all : {X : Type 0} (P : X → Type 0) (before : List X) (x : X) (rest all : List X) → before ++ x ∷ rest ≡ all → ¬ P x → ¬ All P all
not_all P before x rest all is bad each = bad (one_in P before x rest (subst (All P) (sym is) each))

-- ---- a walk

pub stops_later : (old mid new : State) (given all : List Message) → KeepsConnectionUnlessDiskFails old mid
    → MoreFaults mid.faults new.faults ⊎ ((next : Message) × (rest : List Message) × (given ++ next ∷ rest ≡ all) × (¬ IsReadable next))
    → MoreFaults old.faults new.faults ⊎ (¬ All IsReadable all)
stops_later old mid new given all lasts (inl more) = inl (more_since old mid new lasts more)
stops_later old mid new given all lasts (inr bad) = inr (not_all IsReadable given bad.0 bad.1 all bad.2 bad.3)
