-- Messages that are added one after the other: what they make of the rows, and which of them the rows refuse.
use Rattle.std.proofs.Common.{◌≡◌, ◌≤◌, ◌<◌, ◌⊎◌, ◌∙◌, ◌+◌, ◌-◌, ℕ, suc, inl, inr, List, [], ◌∷◌, ◌++◌, length, get_or, take, drop, None, Result, Ok, Err, IfErr, refl, sym, ap, subst, arith, take-suc}
use Rattle.std.proofs.Common.{drop-cons, take-append-drop, get_or-drop}
use Rattle.std.specs.Prelude.{IsErrAnd, IsTrue, MatchResult}
use Rattle.sqlite_disk.specs.Disk.{MoreFaults}
use Rattle.sqlite.specs.declared.error.Error.{Error}
use Rattle.sqlite.specs.Effect.{Database}
use Rattle.sqlite.specs.Store.{Ghosts}
use Rattle.sqlite.specs.Held.{Held}
use Rattle.sqlite.specs.State.{State, HasCleanDisk}
use Rattle.mbox_items.specs.Division.{Item}
use Rattle.archive_model.specs.Records.{Archive}
use Rattle.archive_model.specs.Commands.{CommandReply, add}
use Rattle.archive_model.specs.Machine.{StepOutcome, add_within_limit, message_limit}
use Rattle.archive_tables.specs.Tables.{archive_in_trees}
use Rattle.archive_tables.specs.Calls.{AnswersFromDatabase, AnswersOrFailsByFault, IsMemoryOrDiskError, KeepsConnectionUnlessDiskFails}
use Rattle.archive_store.specs.Replies.{store_fault_of_error}
use Rattle.archive_store.specs.Refusals.{IsExecutedReply, IsCommandRefused, MakeRows, RowsRefuseAnItem, WritesMessageIfAdded}
use Rattle.archive_port.specs.declared.faults.StoreFault.{StoreFault}
use Rattle.archive_port.specs.declared.faults.StoreFault.TheVariants as faults
use Rattle.archive_store.proofs.FindLemmas.{by_cause, is_database, blamed_last}
use Rattle.archive_tables.specs.Statements.{Statement, IsStatementRefused}
use Rattle.archive_database.specs.Faults.{FailsByDiskOr, as_store_fault}
use Rattle.archive_database.specs.declared.faults.DatabaseError.{DatabaseError}
use Rattle.std.proofs.lemmas.Result.{MatchResult-weaker, IfErr-weaker}

-- ---- a question

-- outside a transaction, where what it says means this
pub outside : {S A : Type 0} {g : Ghosts S} {old new : Held S} {result : Result A Error} {Says Means : Archive → A → Type 0} → AnswersOrFailsByFault g old new result Says
    → ((a : Archive) (x : A) → Says a x → Means a x) → AnswersFromDatabase g old new result Means ⊥
outside {result = result} it means = record {
  answer_holds = λ clean behind held. MatchResult-weaker result (it.answer_holds clean behind held) (λ x says. (means _ x says.0, says.1)) (λ _ rests. rests);
  fault_has_cause = λ clean kept free. IfErr-weaker result _ _ (λ e why. inl why) (it.fault_has_cause clean None kept free);
  same_database = it.same_database;
  crash_adds_nothing = it.crash_adds_nothing;
  ends_call = it.ends_call;
}

pub blame_disk : {A : Type 0} (old new : State) (told : Result A Error) (fault : StoreFault) → IsErrAnd told (λ e. fault ≡ store_fault_of_error e) → IfErr told (λ e. IsMemoryOrDiskError old new e)
    → fault ≡ faults.Store → MoreFaults old.faults new.faults
blame_disk {A = A} old new told fault is why = blamed_last told (let r : Result A StoreFault = Err fault in r) _ _ is why (by_cause old new)

pub blame_fault : {A : Type 0} (old new : State) (X : Type 0) (told : Result A DatabaseError) (fault : StoreFault) → IsErrAnd told (λ e. fault ≡ as_store_fault e)
    → FailsByDiskOr old new told X → fault ≡ faults.Store → MoreFaults old.faults new.faults ⊎ X
blame_fault old new X (Ok a) fault is why it = absurd is
blame_fault old new X (Err e) fault is why it = why (is_database e (sym is ∙ it))

pub same_statement : (db : Database) {a b : Statement} → a ≡ b → IsStatementRefused a db → IsStatementRefused b db
same_statement db is refused = subst (λ st. IsStatementRefused st db) is refused

-- the exit of a `?`
pub stopped_by : {A : Type 0} (Y : A → Type 0) (r : Result A StoreFault) (f : StoreFault) (X : Type 0) → IsErrAnd r (λ h. h ≡ f) → (f ≡ faults.Store → X)
    → MatchResult r Y (λ h. h ≡ faults.Store → X)
stopped_by Y (Ok a) f X is why = absurd is
stopped_by Y (Err h) f X is why = λ it. why (sym is ∙ it)

-- what the machine answers is known
pub carried_as : (o p : StepOutcome) → o ≡ p → IsExecutedReply p.1 → IsExecutedReply o.1
carried_as o p is so = subst (λ (r : CommandReply). IsExecutedReply r) (sym (ap (λ (x : StepOutcome). x.1) is)) so

-- ---- one item more

rows_more : (list : List ℕ) (items : List Item) (item : Item) (first mid after : Database) → MakeRows list items first mid
    → WritesMessageIfAdded list item (add_within_limit message_limit (archive_in_trees mid.trees) list item).1 mid after → MakeRows list (items ++ item ∷ []) first after
unfolding MakeRows
rows_more list [] item first mid after made more = (
  after,
  subst (λ (db : Database). WritesMessageIfAdded list item (add_within_limit message_limit (archive_in_trees db.trees) list item).1
      db after) made more,
  refl,
)
rows_more list (x ∷ xs) item first mid after made more = (made.0, made.1, rows_more list xs item made.0 mid after made.2 more)

pub no_rows : (list : List ℕ) (db : Database) → MakeRows list [] db db
unfolding MakeRows
no_rows list db = refl

module _ (list : List ℕ) (items : List Item) (i : ℕ) (item : Item) (within : i < length items) (is : item ≡ get_or items i item) (first mid : Database)
    (made : MakeRows list (take i items) first mid) where
  one_more : take (i + 1) items ≡ take i items ++ item ∷ []
  one_more =
      let on : i + 1 ≡ suc i = omega arith in
      ap (λ n. take n items) on ∙ take-suc items i item within ∙ ap (λ x. take i items ++ x ∷ []) (sym is)

  -- the rows are those that the machine's answer says
  pub rows_next : (reply : CommandReply) (a after : Archive) (new : Database) → a ≡ archive_in_trees mid.trees → ((after, reply) ≡ add_within_limit message_limit a list item)
      → WritesMessageIfAdded list item reply mid new
      → MakeRows list (take (i + 1) items) first new
  rows_next reply a after new same answer writes =
      let told = ap (λ (o : StepOutcome). o.1) answer ∙ ap (λ x. (add_within_limit message_limit x list item).1) same in
      subst (λ xs. MakeRows list xs first new) (sym one_more) (rows_more list (take i items) item first mid new made (subst (λ r. WritesMessageIfAdded list item r mid new) told writes))

  pub stops_there : IsCommandRefused (add list item) mid → RowsRefuseAnItem list items first
  stops_there stopped = record {
    items_before = take i items;
    item = item;
    items_after = drop (suc i) items;
    items_are = ap (λ x. take i items ++ x ∷ drop (suc i) items) is ∙ ap (λ xs. take i items ++ xs) (sym (drop-cons items i item within)) ∙ take-append-drop i items;
    database = mid;
    makes_rows = made;
    is_refused = stopped;
  }

-- ---- items from a place on

-- the item at a later place is among them
pub among_later : (items : List Item) (from at : ℕ) (item : Item) → from ≤ at → item ≡ get_or items at item → item ≡ get_or (drop from items) (at - from) item
among_later items from at item order is =
    let place : from + (at - from) ≡ at = omega (arith, order) in
    is ∙ sym (get_or-drop from items (at - from) item ∙ ap (λ n. get_or items n item) place)

-- ---- rows that a fault left

-- They are those that were there, or the disk failed.
pub left_or_failed : (first last : State) (P : Database → Type 0) → KeepsConnectionUnlessDiskFails first last → HasCleanDisk last → IsTrue first.is_open → (IsTrue last.is_open → last.now ≡ first.now)
    → P first.now → MoreFaults first.faults last.faults ⊎ P last.now
left_or_failed first last P lasts clean was same it = elim (lasts.closes_only_by_fault.stays_open clean was) [
  | inl up ↦ inr (subst P (sym (same up)) it)
  | inr more ↦ inl more
]
