-- A stable sort by sent dates gives the order that `sort_places_by_date` says.
use Rattle.std.proofs.Common.{◌≡◌, ◌≤◌, ◌<◌, ℕ, suc, Bool, true, false, List, [], ◌∷◌, length, get_or, refl, sym, ap, ◌∙◌, arith, int_lt, if◌then◌else◌}
use Rattle.std.specs.List.{AllByRecursion}
use Rattle.std.specs.List.Sorted.{IsSortedBy, IsStableBy}
use Rattle.std.specs.Cmp.{IsStrictWeakOrder}
use Rattle.std.specs.Ordering.{is_lt, int_cmp}
use Rattle.std.proofs.lemmas.List.Sorted.{ranks_by, sorted_far}
use Rattle.std.proofs.lemmas.Cmp.{int_cmp_total}
use Rattle.archive_memory.specs.Selecting.{insert_place_by_date, sort_places_by_date}
use Rattle.archive_memory.specs.declared.selecting.DatedPlace.{DatedPlace}
use Rattle.archive_memory.proofs.SortLemmas.{put, ordered, Rising, rising, stable, alone, is_less}

abbrev pub is_before : DatedPlace → DatedPlace → Bool
is_before one other = is_lt (int_cmp one.sent other.sent)

pub order : IsStrictWeakOrder is_before
order = ranks_by int_cmp_total (λ (l : DatedPlace). l.sent)

put_place : (l : DatedPlace) (ms : List DatedPlace) → insert_place_by_date l ms ≡ put is_before l ms
put_place l [] = refl
put_place l (m ∷ ms) = rw (is_less m.sent l.sent) (cases (int_lt m.sent l.sent) (put_place l ms))
  where
    cases : (b : Bool) → insert_place_by_date l ms ≡ put is_before l ms → (if b then m ∷ insert_place_by_date l ms else l ∷ m ∷ ms) ≡ (if b then m ∷ put is_before l ms else l ∷ m ∷ ms)
    cases true later = ap (λ ls. m ∷ ls) later
    cases false later = refl

by_sent_ordered : (ls : List DatedPlace) → sort_places_by_date ls ≡ ordered is_before ls
by_sent_ordered [] = refl
by_sent_ordered (l ∷ ls) = ap (insert_place_by_date l) (by_sent_ordered ls) ∙ put_place l (ordered is_before ls)

above_of : (x : DatedPlace) (xs : List DatedPlace) → ((k : ℕ) → k < length xs → is_before (get_or xs k x) x ≡ false) → AllByRecursion (λ y. is_before y x ≡ false) xs
above_of x [] h = tt
above_of x (y ∷ ys) h = (h 0 (omega arith), above_of x ys (λ k p. h (suc k) (omega arith)))

rising_of : (xs : List DatedPlace) → ((i j : ℕ) (d : DatedPlace) → i ≤ j → j < length xs → is_before (get_or xs j d) (get_or xs i d) ≡ false) → Rising is_before xs
rising_of [] h = tt
rising_of (x ∷ xs) h = (above_of x xs (λ k p. h 0 (suc k) x (omega arith) (omega arith)), rising_of xs (λ i j d p q. h (suc i) (suc j) d (omega arith) (omega arith)))

-- what a stable sort answers is the one list that is in order and has those of one date in theirs
pub sorted : (before after : List DatedPlace) → IsSortedBy is_before after → IsStableBy is_before before after → after ≡ sort_places_by_date before
sorted before after up same =
    alone is_before order after (ordered is_before before) (rising_of after (sorted_far is_before order after up)) (rising is_before order before)
    (λ z. same z ∙ sym (stable is_before order z before))
    ∙ sym (by_sent_ordered before)
