-- Walks over the messages of a list.
use Rattle.std.proofs.Common.{◌≡◌, ℕ, ℤ, ◌+◌, ◌<◌, ◌≤◌, true, List, [], ◌∷◌, ◌++◌, length, get_or, drop, map, bytes_eq, refl, append-nil, ap, sym, subst, append_assoc, ◌∙◌, Option, Some, None, Result}
use Rattle.std.proofs.Common.{Ok, Err, IfErr, ◌⊎◌, inl, inr}
use Rattle.std.specs.Prelude.{option_map, slice_get, pos, Vec, ◌&&◌, Bool, false, filter, IfSome}
use Rattle.std.specs.declared.alloc.Global.{Global}
use Rattle.std.proofs.lemmas.Option.{slice_get_cases, slice_get_within, get_or_from_slice_get}
use Rattle.std.specs.List.{All, AllByRecursion}
use Rattle.std.specs.Option.{IsSomeAnd}
use Rattle.std.specs.Ordering.{int_eq}
use Rattle.std.proofs.lemmas.Bool.{cases_Bool}
use Rattle.std.proofs.lemmas.List.{append_cancel_left, drop_more, drop_all, map-append}
use Rattle.std.proofs.lemmas.Slice.Eq.{bytes_eq-Decides}
use Rattle.archive_model.specs.Records.{Message, Archive}
use Rattle.archive_model.specs.Commands.{Refusal}
use Rattle.archive_model.specs.Questions.{list_refusal}
use Rattle.archive_model.specs.Messages.{archived_message}
use Rattle.archive_model.specs.Filing.{IndexedMessage, indexed_messages, is_sent_before, insert_by_indexed_date, sort_by_indexed_date}
use Rattle.archive_model.specs.declared.messages.Message.{Message as Given}
use Rattle.sqlite.specs.Effect.{Database}
use Rattle.sqlite.specs.Tree.{Trees}
use Rattle.sqlite.specs.Store.{Ghosts}
use Rattle.sqlite.specs.Held.{state}
use Rattle.archive_port.specs.Messages.{IsReadable}
use Rattle.archive_tables.specs.Rows.{decoded_dated_marks, message_at, message_from_result_row}
use Rattle.archive_tables.specs.declared.rows.DatedMarksRow.{DatedMarksRow}
use Rattle.archive_tables.specs.declared.rows.MessageRow.{MessageRow}
use Rattle.archive_tables.specs.Tables.{AreArchiveTables, archive_in_trees}
use Rattle.archive_tables.proofs.LastLemmas.{lasts_then}
use Rattle.archive_tables.proofs.WalkLemmas.{walked}
use Rattle.archive_tables.proofs.FiledLemmas.{walked_month, walked_author}
use Rattle.archive_port.specs.Replies.{refusal_of_fault}
use Rattle.archive_store.specs.Replies.{AnswersStoreQuestion}
use Rattle.archive_store.specs.Held.{store_connection}
use Rattle.archive_store.specs.Told.{HoldsTables, StoreHasCleanDisk, HadCleanDisk, EndsQuestion, EndsQuestionOrUnreadable, EndsUnrefused, archive_in as now_holds}
use Rattle.archive_port.specs.Wanting.{IsMemoryRefusal}
use Rattle.archive_store.proofs.AskLemmas.{ends_with}
use Rattle.archive_store.proofs.FindLemmas.{blames, more_since, when_ok, kind_last}
use Rattle.archive_port.proofs.WantLemmas.{raises_after}
use Rattle.archive_store.specs.Walking.{Walk, WalksOn, WalksOver, BeginsOver, GivesAll, E15MeansSomeUnreadable, IsRowOfFirst, PassesNext, remaining_numbers, current_database, walk_over_store}
use Rattle.archive_store.specs.Walking.{current_rows, selected_numbers}
use Rattle.archive_port.specs.Walking.{selected_messages}
use Rattle.archive_port.specs.declared.walking.Selection.{Selection}
use Rattle.archive_port.specs.declared.walking.Selection.TheVariants.{Every, InMonth, ByAuthor}
use Rattle.archive_store.specs.declared.walking.MessageWalk.{MessageWalk}
use Rattle.archive_store.specs.declared.store.Store.{Store}
use Rattle.archive_port.specs.declared.faults.StoreFault.{StoreFault}

-- the next number is that of the next message
pub next_is : {X : Type 0} (f : ℤ → Option X) (places : List ℤ) (at : ℕ) (d : ℤ) (left : List X) → map f (drop at places) ≡ map Some left → at < length places
    → (m : X) × (rest : List X) × (left ≡ m ∷ rest) × (f (get_or places at d) ≡ Some m) × (map f (drop (at + 1) places) ≡ map Some rest)
next_is {X} f places at d left ahead within = go left (sym (ap (map f) (drop_more places at d within)) ∙ ahead)
  where
    go : (left : List X) → f (get_or places at d) ∷ map f (drop (at + 1) places) ≡ map Some left
        → (m : X) × (rest : List X) × (left ≡ m ∷ rest) × (f (get_or places at d) ≡ Some m) × (map f (drop (at + 1) places) ≡ map Some rest)
    go [] is = absurd cc
    go (m ∷ rest) is = (m, rest, refl, cc, cc)

pub nothing_ahead : {X : Type 0} (f : ℤ → Option X) (places : List ℤ) (at : ℕ) (left : List X) → map f (drop at places) ≡ map Some left → length places ≤ at → left ≡ []
nothing_ahead {X} f places at left ahead past = go left (sym (ap (map f) (drop_all at places past)) ∙ ahead)
  where
    go : (left : List X) → [] ≡ map Some left → left ≡ []
    go [] is = refl
    go (m ∷ rest) is = absurd cc

-- those behind the next
behind_first : (f : ℤ → Option Message) (places : List ℤ) (next : Message) (rest : List Message) → map f places ≡ map Some (next ∷ rest) → map f (drop 1 places) ≡ map Some rest
behind_first f [] next rest is = absurd cc
behind_first f (p ∷ places) next rest is = cc

-- the numbers behind one that is passed by
pub drop_none : (places : List ℤ) (at : ℕ) → length places ≤ at → drop at places ≡ drop 1 (drop at places)
drop_none places at past = drop_all at places past ∙ sym (ap (drop 1) (drop_all at places past))

-- past the last number all were given
pub all_given : (f : ℤ → Option Message) (places : List ℤ) (at : ℕ) (given left all : List Message) → map f (drop at places) ≡ map Some left → given ++ left ≡ all
    → length places ≤ at → given ≡ all
all_given f places at given left all ahead joined past =
    sym (append-nil given) ∙ ap (λ rest. given ++ rest) (sym (nothing_ahead f places at left ahead past)) ∙ joined

-- the message whose marks were shown, and none where none were
pub marks_held : (found : Option Message) (row : DatedMarksRow) → Some row ≡ option_map decoded_dated_marks found → (m : Message) × (found ≡ Some m) × (row ≡ decoded_dated_marks m)
marks_held None row is = absurd cc
marks_held (Some m) row is = (m, refl, cc)

pub no_marks_held : (found : Option Message) → None ≡ option_map decoded_dated_marks found → found ≡ None
no_marks_held None is = refl
no_marks_held (Some m) is = absurd cc

-- ---- messages of one list

abbrev AreOfList : List ℕ → List Message → Type 0
AreOfList list = AllByRecursion (λ m. bytes_eq m.list list ≡ true)

-- a message among those of a list is of the list
pub is_of_list : (list : List ℕ) (given rest all : List Message) (m : Message) → AreOfList list all → given ++ m ∷ rest ≡ all → m.list ≡ list
is_of_list list given rest all m are joined = (bytes_eq-Decides m.list list).0 (behind given (subst (AreOfList list) (sym joined) are))
  where
    behind : (given : List Message) → AreOfList list (given ++ m ∷ rest) → bytes_eq m.list list ≡ true
    behind [] all = all.0
    behind (g ∷ given) all = behind given all.1

kept_of_list : (list : List ℕ) (ms : List Message) → AreOfList list (filter (λ m. bytes_eq m.list list) ms)
kept_of_list list [] = tt
kept_of_list list (m ∷ ms) = elim (cases_Bool (bytes_eq m.list list)) [
  | inl kept ↦ rw kept (kept, kept_of_list list ms)
  | inr dropped ↦ rw dropped (kept_of_list list ms)
]

-- the same of what is filed

abbrev AreFiledOf : List ℕ → List IndexedMessage → Type 0
AreFiledOf list = AllByRecursion (λ (f : IndexedMessage). bytes_eq f.0.list list ≡ true)

with_of_list : (list : List ℕ) (f : IndexedMessage) (fs : List IndexedMessage) → bytes_eq f.0.list list ≡ true → AreFiledOf list fs → AreFiledOf list (insert_by_indexed_date f fs)
with_of_list list f [] one all = (one, tt)
with_of_list list f (g ∷ fs) one all = elim (cases_Bool (is_sent_before g f)) [
  | inl before ↦ rw before (all.0, with_of_list list f fs one all.1)
  | inr after ↦ rw after (one, all)
]

sorted_of_list : (list : List ℕ) (fs : List IndexedMessage) → AreFiledOf list fs → AreFiledOf list (sort_by_indexed_date fs)
sorted_of_list list [] all = tt
sorted_of_list list (f ∷ fs) all = with_of_list list f (sort_by_indexed_date fs) all.0 (sorted_of_list list fs all.1)

first_of : (a b : Bool) → (a && b) ≡ true → a ≡ true
first_of true b h = refl
first_of false b h = absurd cc

wanted_of_list : (list : List ℕ) (test : IndexedMessage → Bool) (fs : List IndexedMessage) → AreFiledOf list (filter (λ (f : IndexedMessage). bytes_eq f.0.list list && test f) fs)
wanted_of_list list test [] = tt
wanted_of_list list test (f ∷ fs) = elim (cases_Bool (bytes_eq f.0.list list && test f)) [
  | inl kept ↦ rw kept (first_of (bytes_eq f.0.list list) (test f) kept, wanted_of_list list test fs)
  | inr dropped ↦ rw dropped (wanted_of_list list test fs)
]

messages_of_list : (list : List ℕ) (fs : List IndexedMessage) → AreFiledOf list fs → AreOfList list (map (λ (f : IndexedMessage). f.0) fs)
messages_of_list list [] all = tt
messages_of_list list (f ∷ fs) all = (all.0, messages_of_list list fs all.1)

filed_of_list : (list : List ℕ) (test : IndexedMessage → Bool) (a : Archive)
    → AreOfList list (map (λ (f : IndexedMessage). f.0) (sort_by_indexed_date (filter (λ (f : IndexedMessage). bytes_eq f.0.list list && test f) (indexed_messages a))))
filed_of_list list test a = messages_of_list list _ (sorted_of_list list _ (wanted_of_list list test (indexed_messages a)))

-- whichever they are
pub selected_of_list : (list : List ℕ) (which : Selection) (a : Archive) → AreOfList list (selected_messages a list which)
selected_of_list list Every a = kept_of_list list a.messages
selected_of_list list (InMonth month) a = filed_of_list list (λ (f : IndexedMessage). int_eq f.1.month (pos month)) a
selected_of_list list (ByAuthor key) a = filed_of_list list (λ (f : IndexedMessage). bytes_eq f.1.author key.now) a

pub selected_shown : (list : List ℕ) (which : Selection) (trees : Trees) → AreArchiveTables trees
    → map (message_at trees) (selected_numbers trees list which) ≡ map Some (selected_messages (archive_in_trees trees) list which)
selected_shown list Every trees k = walked trees list k
selected_shown list (InMonth month) trees k = walked_month trees list (pos month) k
selected_shown list (ByAuthor key) trees k = walked_author trees list key.now k

pub past_end : {A : Type 0} (xs : List A) (i : ℕ) → slice_get xs i ≡ None → length xs ≤ i
past_end xs i none = elim ((slice_get_cases xs i).1) [ inl found ↦ absurd (let bad = sym none ∙ found.2 in cc) | inr past ↦ past.0 ]

module _ {S : Type 0} (g : Ghosts S) where
  pub begins_walk : (old mid : Store S) (list : List ℕ) (which : Trees → List ℤ) (all : Archive → List Message)
      → ((trees : Trees) → AreArchiveTables trees → map (message_at trees) (which trees) ≡ map Some (all (archive_in_trees trees))) → ((a : Archive) → AreOfList list (all a))
      → (walk : MessageWalk) → walk.at ≡ 0 → walk.peeked ≡ None → {A : Type 0} {found : A} {reasons : List Refusal} → EndsQuestion g old mid (Ok found) reasons
      → (StoreHasCleanDisk g mid → HoldsTables g old → (list_refusal (now_holds g old) list ≡ None) × HoldsTables g mid × (now_holds g mid ≡ now_holds g old)
      × (walk.places.items ≡ which (current_rows g mid)))
      → BeginsOver g old list all (walk_over_store mid walk)
  begins_walk old mid list which all shown of_list walk at none ends found = record {
    remains_open = ends.remains_open;
    was_open = ends.was_open;
    refusal_count_grows = ends.refusals_counted.0;
    begins_over_archive = λ returned held.
        let it = found returned held in (
          it.0,
          record {
            is_archive_at_rest = it.1;
            archive_is = it.2;
            remaining = all (now_holds g old);
            numbers_give_remaining = ap (λ n. map (message_at (current_rows g mid)) (drop n walk.places.items)) at
                ∙ ap (map (message_at (current_rows g mid))) it.3 ∙ shown (current_rows g mid) it.1.tables ∙ ap (λ a. map Some (all a)) it.2;
            given_and_remaining = refl;
            all_are_of_list = of_list (now_holds g old);
            peeked_is_of_next = subst (λ o. IfSome o (λ row. IsRowOfFirst list row (all (now_holds g old)))) (sym none) tt;
          },
        );
  }

-- a row that is of the first of some messages
first_of_row : (list : List ℕ) (row : MessageRow) (remaining : List Message) → IsRowOfFirst list row remaining
    → (next : Message) × (rest : List Message) × (remaining ≡ next ∷ rest) × (message_from_result_row list row ≡ next)
first_of_row list row [] is = absurd is
first_of_row list row (m ∷ rest) is = (m, rest, refl, is)

module _ {S : Type 0} (g : Ghosts S) (list : List ℕ) (all : List Message) (a : Archive) (given : List Message) where
  -- this is the row of the message that is next
  abbrev pub IsRowOfNext : MessageRow → Type 0
  IsRowOfNext row = (next : Message) × (rest : List Message) × (given ++ next ∷ rest ≡ all) × (message_from_result_row list row ≡ next)

  -- the walk is where it was, and holds no row
  pub without_row : (old : Walk S) (new : Store S) → WalksOver g list all a given old → current_database g new ≡ current_database g old.store → HoldsTables g new
      → {peeked : Option MessageRow} → peeked ≡ None → WalksOn g list all a given (store_connection new) (remaining_numbers old.walk) peeked
  without_row old new w now held none = record {
    is_archive_at_rest = held;
    archive_is = ap (λ (d : Database). archive_in_trees d.trees) now ∙ w.archive_is;
    remaining = w.remaining;
    numbers_give_remaining = ap (λ (d : Database). map (message_at d.trees) (remaining_numbers old.walk)) now ∙ w.numbers_give_remaining;
    given_and_remaining = w.given_and_remaining;
    all_are_of_list = w.all_are_of_list;
    peeked_is_of_next = subst (λ o. IfSome o (λ row. IsRowOfFirst list row w.remaining)) (sym none) tt;
  }

  -- the row that the store shows is that of the next message, and so is one that was peeked at
  pub shown_next : (old : Walk S) (place : ℤ) (row : MessageRow) → WalksOver g list all a given old → slice_get old.walk.places.items old.walk.at ≡ Some place
      → (it : Message) × (message_at (current_rows g old.store) place ≡ Some it) × (message_from_result_row it.list row ≡ it) → IsRowOfNext row
  shown_next old place row w some shown =
      let n = next_is (message_at (current_rows g old.store)) old.walk.places.items old.walk.at place w.remaining w.numbers_give_remaining
      (slice_get_within old.walk.places.items old.walk.at place some) in
      let found = ap (message_at (current_rows g old.store)) (get_or_from_slice_get old.walk.places.items old.walk.at place place some) ∙ shown.1 in
      let same : shown.0 ≡ n.0 = (let both = sym found ∙ n.3 in cc) in
      let joined : given ++ n.0 ∷ n.1 ≡ all = ap (λ l. given ++ l) (sym n.2) ∙ w.given_and_remaining in
      let of_list : shown.0.list ≡ list = ap (λ (x : Message). x.list) same ∙ is_of_list list given n.1 all n.0 w.all_are_of_list joined in
      (n.0, n.1, joined, ap (λ l. message_from_result_row l row) (sym of_list) ∙ shown.2 ∙ same)

  pub peeked_next : (old : Walk S) (row : MessageRow) → WalksOver g list all a given old → old.walk.peeked ≡ Some row → IsRowOfNext row
  peeked_next old row w some =
      let first = first_of_row list row w.remaining (subst (λ o. IfSome o (λ row. IsRowOfFirst list row w.remaining)) some w.peeked_is_of_next) in
      (first.0, first.1, ap (λ l. given ++ l) (sym first.2) ∙ w.given_and_remaining, first.3)

  -- the row of the next message is held
  pub with_row : (old : Walk S) (row : MessageRow) → WalksOver g list all a given old → IsRowOfNext row
      → WalksOn g list all a given (store_connection old.store) (remaining_numbers old.walk) (Some row)
  with_row old row w next =
      let left : w.remaining ≡ next.0 ∷ next.1 = append_cancel_left given w.remaining (next.0 ∷ next.1) (w.given_and_remaining ∙ sym next.2) in
      record {
        is_archive_at_rest = w.is_archive_at_rest;
        archive_is = w.archive_is;
        remaining = w.remaining;
        numbers_give_remaining = w.numbers_give_remaining;
        given_and_remaining = w.given_and_remaining;
        all_are_of_list = w.all_are_of_list;
        peeked_is_of_next = subst (IsRowOfFirst list row) (sym left) next.3;
      }

  -- the next message is passed by
  pub passed_next : (store : Store S) (old new : MessageWalk) (next : Message) (rest : List Message) → WalksOver g list all a given (walk_over_store store old) → given ++ next ∷ rest ≡ all
      → PassesNext old new → WalksOver g list all a (given ++ next ∷ []) (walk_over_store store new)
  passed_next store old new next rest w is passed =
      let left : w.remaining ≡ next ∷ rest = append_cancel_left given w.remaining (next ∷ rest) (w.given_and_remaining ∙ sym is) in
      record {
        is_archive_at_rest = w.is_archive_at_rest;
        archive_is = w.archive_is;
        remaining = rest;
        numbers_give_remaining = ap (map (message_at (current_rows g store))) passed.0 ∙ behind_first (message_at (current_rows g store)) (remaining_numbers old) next rest
            (w.numbers_give_remaining ∙ ap (map Some) left);
        given_and_remaining = append_assoc given (next ∷ []) rest ∙ is;
        all_are_of_list = w.all_are_of_list;
        peeked_is_of_next = subst (λ o. IfSome o (λ row. IsRowOfFirst list row rest)) (sym passed.1) tt;
      }

-- one message more was read
pub given_more : {A B : Type 0} (f : A → B) (given : List B) (found found' : List A) (x : A) → found' ≡ found ++ x ∷ [] → (given ++ map f found) ++ f x ∷ [] ≡ given ++ map f found'
given_more f given found found' x is =
    append_assoc given (map f found) (f x ∷ []) ∙ ap (λ l. given ++ l) (sym (map-append f found (x ∷ [])) ∙ ap (map f) (sym is))

-- a walk that is read to its end
pub rows_answer : {S : Type 0} (g : Ghosts S) (old : Store S) (walk new : Walk S) (list : List ℕ) (all : Archive → List Message) (r : Result (Vec Given Global) StoreFault)
    → BeginsOver g old list all walk → HadCleanDisk g walk.store new.store → GivesAll g walk new r → IfErr r (λ fault. refusal_of_fault fault ≡ None)
    → AnswersStoreQuestion g (store_connection old) (store_connection new.store) r (λ a. list_refusal a list) (λ a found. map (archived_message list) found.items ≡ all a)
rows_answer g old walk new list all (Ok found) begun was gives none = λ returned held.
    let b = begun.begins_over_archive (was returned) held in
    let w = gives returned list (all (now_holds g old)) (now_holds g old) [] b.1 in
    ((w.0.is_archive_at_rest, w.0.archive_is), b.0, w.1)
rows_answer g old walk new list all (Err fault) begun was gives none = λ returned held.
    let b = begun.begins_over_archive (was returned) held in
    let rest = gives returned list (all (now_holds g old)) (now_holds g old) [] b.1 in
    rw none (λ up. rest up)

-- ---- what E15 means

-- the number that a walk comes to is that of a message
pub unread_next : {S : Type 0} (g : Ghosts S) (list : List ℕ) (all : List Message) (a : Archive) (given : List Message) (walk : Walk S) (place : ℤ) → WalksOver g list all a given walk
    → slice_get walk.walk.places.items walk.walk.at ≡ Some place → (X : Type 0) → X ⊎ (¬ IsSomeAnd (message_at (current_rows g walk.store) place) IsReadable)
    → X ⊎ ((next : Message) × (rest : List Message) × (given ++ next ∷ rest ≡ all) × (¬ IsReadable next))
unread_next g list all a given walk place w some X (inl failed) = inl failed
unread_next g list all a given walk place w some X (inr bad) =
    let n = next_is (message_at (current_rows g walk.store)) walk.walk.places.items walk.walk.at place w.remaining w.numbers_give_remaining
    (slice_get_within walk.walk.places.items walk.walk.at place some) in
    let here : message_at (current_rows g walk.store) place ≡ Some n.0 =
    ap (message_at (current_rows g walk.store)) (sym (get_or_from_slice_get walk.walk.places.items walk.walk.at place place some)) ∙ n.3 in
    inr (n.0, n.1, ap (λ l. given ++ l) (sym n.2) ∙ w.given_and_remaining, λ good. bad (subst (λ o. IsSomeAnd o IsReadable) (sym here) good))

pub rows_ends : {S : Type 0} (g : Ghosts S) (old : Store S) (walk new : Walk S) (list : List ℕ) (all : Archive → List Message) (r : Result (Vec Given Global) StoreFault)
    → BeginsOver g old list all walk → EndsUnrefused g walk.store new.store r → E15MeansSomeUnreadable g walk new r → (reasons : List Refusal)
    → EndsQuestionOrUnreadable g old new.store r reasons (λ a. ¬ All IsReadable (all a))
rows_ends g old walk new list all r begun ends stops reasons =
    ends_with (lasts_then _ _ _ begun.remains_open ends.remains_open) (λ returned. when_ok r _ (begun.was_open (ends.remains_open.disk_was_clean returned)))
    (kind_last r reasons ends.fault_is_no_refusal) (raises_after IsMemoryRefusal _ _ _ r begun.refusal_count_grows ends.refusals_counted) (λ returned held free.
    let b = begun.begins_over_archive (ends.remains_open.disk_was_clean returned) held in
    blames r (λ why. elim why [
      | inl more ↦ inl (more_since (state g (store_connection old)) (state g (store_connection walk.store)) (state g (store_connection new.store)) begun.remains_open more)
      | inr bad ↦ inr bad
    ]) (stops returned list (all (now_holds g old)) (now_holds g old) [] b.1 (begun.remains_open.step_limit_is_same ∙ free)))
