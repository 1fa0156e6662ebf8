-- Messages that are looked at one after the other.
use Rattle.std.proofs.Common.{◌≡◌, ℕ, ℤ, ◌+◌, ◌<◌, ◌≤◌, List, [], ◌∷◌, ◌++◌, length, get_or, drop, map, append_assoc, append-nil, refl, ap, sym, subst, ◌∙◌, Some, Result, Ok, Err}
use Rattle.std.specs.Prelude.{⊤, IfErr, zip}
use Rattle.std.specs.Result.{IsErrAnd}
use Rattle.std.specs.List.{All}
use Rattle.std.proofs.lemmas.List.Elements.{All-nil, All-push, All-cons, All-head, All-tail}
use Rattle.archive_model.specs.Records.{Message, IndexColumns}
use Rattle.archive_model.specs.Sound.{IsSoundMessage}
use Rattle.archive_model.specs.Filing.{IndexedMessage, indexed_messages, message_index_columns}
use Rattle.archive_model.specs.Damage.{IsSoundlyIndexed, IsFirstDamaged, sort_by_list_name}
use Rattle.archive_model.proofs.ListedLemmas.{whole_in_order}
use Rattle.sqlite.specs.Effect.{Database}
use Rattle.sqlite.specs.Store.{Ghosts}
use Rattle.archive_tables.specs.Tables.{archive_in_trees, message_from_row, index_columns_from_row}
use Rattle.archive_tables.specs.Listed.{all_rowids, filed_at}
use Rattle.archive_tables.proofs.ListedLemmas.{walked_all}
use Rattle.archive_store.specs.Told.{HoldsTables, IsOpen, StoreHasCleanDisk, StaysOpenUnlessDiskFails, archive_in as now_holds}
use Rattle.archive_store.specs.Walking.{current_rows}
use Rattle.archive_store.specs.Checking.{ChecksArchive, RowsStay}
use Rattle.archive_port.specs.Checking.{PassesCheck}
use Rattle.archive_store.proofs.WalkingLemmas.{next_is, nothing_ahead}
use Rattle.archive_port.specs.declared.checking.CheckError.{CheckError}
use Rattle.archive_port.specs.declared.checking.CheckError.TheVariants.{Failed}
use Rattle.archive_port.specs.declared.faults.StoreFault.{StoreFault}
use Rattle.archive_port.specs.declared.faults.StoreFault.TheVariants as faults
use Rattle.archive_store.specs.declared.store.Store.{Store}

-- ---- rows of which each is sound, as the message that it remembers and what is filed of it

module _ {R : Type 0} (message : R → Message) (filing : R → IndexColumns) where
  sound_of : (rows : List R) → All IsSoundlyIndexed (zip (map message rows) (map filing rows)) → All IsSoundMessage (map message rows)
  sound_of [] all = All-nil IsSoundMessage
  sound_of (r ∷ rows) all =
      let first = All-head IsSoundlyIndexed (message r, filing r) (zip (map message rows) (map filing rows)) all in
      let rest = All-tail IsSoundlyIndexed (message r, filing r) (zip (map message rows) (map filing rows)) all in
      All-cons IsSoundMessage (message r) (map message rows) first.message_is_sound (sound_of rows rest)

  filed_of : (rows : List R) → All IsSoundlyIndexed (zip (map message rows) (map filing rows)) → map filing rows ≡ map message_index_columns (map message rows)
  filed_of [] all = refl
  filed_of (r ∷ rows) all =
      let first = All-head IsSoundlyIndexed (message r, filing r) (zip (map message rows) (map filing rows)) all in
      let rest = filed_of rows (All-tail IsSoundlyIndexed (message r, filing r) (zip (map message rows) (map filing rows)) all) in
      let same : filing r ≡ message_index_columns (message r) = first.columns_are_of_text in
      cc

module _ {S : Type 0} (g : Ghosts S) where
  pub same_archive : (old new : Store S) → RowsStay g old new → now_holds g new ≡ now_holds g old
  same_archive old new stays = ap (λ (d : Database). archive_in_trees d.trees) stays.0

  -- Of the messages of the numbers those before this place are sound, and those from there on are left; the rows are as they were.
  pub record HasLooked (old now : Store S) (places : List ℤ) (at : ℕ) : Type 0 where
    pub stays : RowsStay g old now
    pub before : List IndexedMessage
    pub left : List IndexedMessage
    pub ahead : map (filed_at (current_rows g old)) (drop at places) ≡ map Some left
    pub joined : before ++ left ≡ sort_by_list_name (indexed_messages (now_holds g old))
    pub sound : All IsSoundlyIndexed before

  pub looks_first : (old now : Store S) (places : List ℤ) → HoldsTables g old → places ≡ all_rowids (current_rows g old) → RowsStay g old now → HasLooked old now places 0
  looks_first old now places held are stays = record {
    stays = stays;
    before = [];
    left = sort_by_list_name (indexed_messages (now_holds g old));
    ahead = ap (map (filed_at (current_rows g old))) are ∙ walked_all (current_rows g old) held.tables;
    joined = refl;
    sound = All-nil IsSoundlyIndexed;
  }

  -- the message of the next number
  pub record LooksNext (old now : Store S) (places : List ℤ) (at : ℕ) (place : ℤ) : Type 0 where
    pub it : IndexedMessage
    pub found : filed_at (current_rows g now) place ≡ Some it
    pub goes_on : (new : Store S) → IsSoundlyIndexed it → RowsStay g now new → HasLooked old new places (at + 1)
    pub stops : (list key : List ℕ) → ¬ IsSoundlyIndexed it → list ≡ it.0.list → key ≡ it.0.key → IsFirstDamaged (now_holds g old) list key

  pub both_stay : (old now new : Store S) → RowsStay g old now → RowsStay g now new → RowsStay g old new
  both_stay old now new first second = (second.0 ∙ first.0, second.1)

  pub looks_next : (old now : Store S) (places : List ℤ) (at : ℕ) (place d : ℤ) → HasLooked old now places at → at < length places → place ≡ get_or places at d
      → LooksNext old now places at place
  looks_next old now places at place d so_far within is =
      let next = next_is (filed_at (current_rows g old)) places at d so_far.left so_far.ahead within in
      let it = next.0 in
      let rest = next.1 in
      let joined : so_far.before ++ it ∷ rest ≡ sort_by_list_name (indexed_messages (now_holds g old)) = ap (λ fs. so_far.before ++ fs) (sym next.2) ∙ so_far.joined in
      record {
        it = it;
        found = ap (λ (d : Database). filed_at d.trees place) so_far.stays.0 ∙ ap (filed_at (current_rows g old)) is ∙ next.3;
        goes_on = λ new sound stays. record {
          stays = both_stay old now new so_far.stays stays;
          before = so_far.before ++ it ∷ [];
          left = rest;
          ahead = next.4;
          joined = append_assoc so_far.before (it ∷ []) rest ∙ joined;
          sound = All-push IsSoundlyIndexed so_far.before it so_far.sound sound;
        };
        stops = λ list key damaged list_matches key_matches. record {
          messages_before = so_far.before;
          damaged_message = it;
          messages_after = rest;
          messages_are = sym joined;
          sound_before = so_far.sound;
          is_damaged = damaged;
          list_matches = sym list_matches;
          key_matches = sym key_matches;
        };
      }

  pub looked_all : (old now : Store S) (places : List ℤ) (at : ℕ) → HasLooked old now places at → length places ≤ at → PassesCheck (now_holds g old)
  looked_all old now places at so_far past =
      let none = nothing_ahead (filed_at (current_rows g old)) places at so_far.left so_far.ahead past in
      let all : so_far.before ≡ sort_by_list_name (indexed_messages (now_holds g old)) = sym (append-nil so_far.before) ∙ ap (λ fs. so_far.before ++ fs) (sym none) ∙ so_far.joined in
      let whole = whole_in_order (now_holds g old) (subst (All IsSoundlyIndexed) all so_far.sound) in
      record {
        has_no_damage = whole;
        messages_are_sound = sound_of message_from_row index_columns_from_row (current_rows g old 8) whole;
        is_indexed_correctly = filed_of message_from_row index_columns_from_row (current_rows g old 8) whole;
      }

  -- ---- in the words for the layers above

  pub fails_to_check : (old new : Store S) (result : Result ⊤ CheckError) (fault : StoreFault) → IsErrAnd result (λ stop. stop ≡ Failed fault)
      → StaysOpenUnlessDiskFails g old new → (StoreHasCleanDisk g new → HoldsTables g old → IsOpen g new → RowsStay g old new) → ChecksArchive g old new result
  fails_to_check old new (Ok u) fault is lasts stays = absurd is
  fails_to_check old new (Err stop) fault is lasts stays = rw is ((lasts, (λ returned held up. let it = stays returned held up in (it.1, same_archive old new it))))

-- the exit of a `?`
pub check_failed : (result : Result ⊤ CheckError) (fault : StoreFault) (X : Type 0) → IsErrAnd result (λ stop. stop ≡ Failed fault) → (fault ≡ faults.Store → X)
    → IfErr result (λ stop. stop ≡ Failed faults.Store → X)
check_failed (Ok u) fault X is why = tt
check_failed (Err stop) fault X is why = λ it. why (same_fault fault (sym is ∙ it))
  where
    same_fault : (f : StoreFault) → Failed f ≡ Failed faults.Store → f ≡ faults.Store
    same_fault f e = cc
