-- What is filed right is found by the texts.
use Rattle.std.proofs.Common.{◌≡◌, inl, inr, ℕ, ℤ, pos, Bool, true, false, cond, List, [], ◌∷◌, map, filter, refl, sym, ap, ◌∙◌, arith, if◌then◌else◌, int_lt}
use Rattle.std.specs.Prelude.{◌&&◌, ◌==◌, bytes_eq}
use Rattle.std.specs.List.{AllByRecursion}
use Rattle.std.specs.List.Sorted.{ties}
use Rattle.std.specs.Cmp.{IsStrictWeakOrder}
use Rattle.std.specs.Ordering.{int_eq}
use Rattle.std.proofs.lemmas.Bool.{cases_Bool}
use Rattle.std.proofs.lemmas.Bool.Decides.{nat_tests}
use Rattle.std.proofs.lemmas.Int.{ints}
use Rattle.std.proofs.lemmas.List.Sorted.{ranks_by}
use Rattle.std.proofs.lemmas.Cmp.{int_cmp_total}
use Rattle.mail_core.specs.Author.{author_of}
use Rattle.mail_core.specs.Headers.{sent_date_of}
use Rattle.civil_time.specs.Calendar.{month_of_instant}
use Rattle.archive_model.specs.Records.{Message, Archive}
use Rattle.archive_model.specs.Filing.{IndexedMessage, insert_by_indexed_date, sort_by_indexed_date, is_indexed_in_month, is_indexed_by_author}
use Rattle.archive_model.specs.Sound.{IsIndexedCorrectly}
use Rattle.archive_model.proofs.FilingLemmas.{with_filing, month_by_texts, author_by_texts}
use Rattle.archive_results.specs.Access.{Ask, is_shown, reader_facts, view_of}
use Rattle.archive_results.specs.Shown.{Line, line_of, shown_message}
use Rattle.archive_results.specs.Results.{lines_of, insert_line_by_date, sort_lines_by_date, is_of_month, is_of_author, month_lines, author_lines}
use Rattle.archive_results.specs.Filed.{indexed_month_lines, indexed_author_lines}
use Rattle.archive_results.proofs.SortLemmas.{put, ordered, Rising, rising, stable, alone, is_less}

-- ---- filters

filter_filter : {X : Type 0} (p q : X → Bool) (xs : List X) → filter p (filter q xs) ≡ filter q (filter p xs)
filter_filter p q [] = refl
filter_filter p q (x ∷ xs) = cases (p x) (q x) refl refl (filter_filter p q xs)
  where
    cases : (a b : Bool) → p x ≡ a → q x ≡ b → filter p (filter q xs) ≡ filter q (filter p xs)
        → filter p (cond b (x ∷ filter q xs) (filter q xs)) ≡ filter q (cond a (x ∷ filter p xs) (filter p xs))
    cases true true e f later = rw e (rw f (ap (λ l. x ∷ l) later))
    cases true false e f later = rw f later
    cases false true e f later = rw e later
    cases false false e f later = later

filter_map : {A B : Type 0} (f : A → B) (p : B → Bool) (xs : List A) → filter p (map f xs) ≡ map f (filter (λ x. p (f x)) xs)
filter_map f p [] = refl
filter_map f p (x ∷ xs) = elim (cases_Bool (p (f x))) [
  | inl kept ↦ rw kept (ap (λ l. f x ∷ l) (filter_map f p xs))
  | inr gone ↦ rw gone (filter_map f p xs)
]

map_of_map : {A B C : Type 0} (f : B → C) (g : A → B) (xs : List A) → map f (map g xs) ≡ map (λ x. f (g x)) xs
map_of_map f g [] = refl
map_of_map f g (x ∷ xs) = ap (λ l. f (g x) ∷ l) (map_of_map f g xs)

map_same : {A : Type 0} (xs : List A) → map (λ x. x) xs ≡ xs
map_same [] = refl
map_same (x ∷ xs) = ap (λ l. x ∷ l) (map_same xs)

-- ---- a stable sort of what a filter keeps

all_kept : {X : Type 0} (P : X → Type 0) (p : X → Bool) (xs : List X) → AllByRecursion P xs → AllByRecursion P (filter p xs)
all_kept P p [] all = tt
all_kept P p (x ∷ xs) all = elim (cases_Bool (p x)) [
  | inl kept ↦ rw kept (all.0, all_kept P p xs all.1)
  | inr gone ↦ rw gone (all_kept P p xs all.1)
]

rising_kept : {X : Type 0} (lt : X → X → Bool) (p : X → Bool) (xs : List X) → Rising lt xs → Rising lt (filter p xs)
rising_kept lt p [] up = tt
rising_kept lt p (x ∷ xs) up = elim (cases_Bool (p x)) [
  | inl kept ↦ rw kept (all_kept (λ y. lt y x ≡ false) p xs up.0, rising_kept lt p xs up.1)
  | inr gone ↦ rw gone (rising_kept lt p xs up.1)
]

pub ordered_kept : {X : Type 0} (lt : X → X → Bool) → IsStrictWeakOrder lt → (p : X → Bool) (xs : List X) → filter p (ordered lt xs) ≡ ordered lt (filter p xs)
ordered_kept lt o p xs = alone lt o (filter p (ordered lt xs)) (ordered lt (filter p xs)) (rising_kept lt p (ordered lt xs) (rising lt o xs)) (rising lt o (filter p xs))
    (λ z. filter_filter (ties lt z) p (ordered lt xs) ∙ ap (filter p) (stable lt o z xs) ∙ filter_filter p (ties lt z) xs ∙ sym (stable lt o z (filter p xs)))

-- ---- messages by their sent dates

abbrev date_of : Message → ℤ
date_of m = sent_date_of m.text m.arrival

abbrev before : Message → Message → Bool
before m n = int_lt (date_of m) (date_of n)

order : IsStrictWeakOrder before
order =
    let o = ranks_by int_cmp_total date_of in
    record {
      one_way = λ x y h. sym (is_less (date_of y) (date_of x)) ∙ o.one_way x y (is_less (date_of x) (date_of y) ∙ h);
      chain = λ x y z p q. sym (is_less (date_of x) (date_of z)) ∙ o.chain x y z (is_less (date_of x) (date_of y) ∙ p) (is_less (date_of y) (date_of z) ∙ q);
    }

abbrev line : Message → Line
line m = line_of (shown_message m)

put_filed : (m : Message) (ms : List Message) → insert_by_indexed_date (with_filing m) (map with_filing ms) ≡ map with_filing (put before m ms)
put_filed m [] = refl
put_filed m (n ∷ ms) = cases (before n m) (put_filed m ms)
  where
    cases : (b : Bool) → insert_by_indexed_date (with_filing m) (map with_filing ms) ≡ map with_filing (put before m ms)
        → (if b then with_filing n ∷ insert_by_indexed_date (with_filing m) (map with_filing ms) else with_filing m ∷ with_filing n ∷ map with_filing ms)
        ≡ map with_filing (if b then n ∷ put before m ms else m ∷ n ∷ ms)
    cases true later = ap (λ l. with_filing n ∷ l) later
    cases false later = refl

filed_ordered : (ms : List Message) → sort_by_indexed_date (map with_filing ms) ≡ map with_filing (ordered before ms)
filed_ordered [] = refl
filed_ordered (m ∷ ms) = ap (insert_by_indexed_date (with_filing m)) (filed_ordered ms) ∙ put_filed m (ordered before ms)

put_line : (m : Message) (ms : List Message) → insert_line_by_date (line m) (map line ms) ≡ map line (put before m ms)
put_line m [] = refl
put_line m (n ∷ ms) = cases (before n m) (put_line m ms)
  where
    cases : (b : Bool) → insert_line_by_date (line m) (map line ms) ≡ map line (put before m ms)
        → (if b then line n ∷ insert_line_by_date (line m) (map line ms) else line m ∷ line n ∷ map line ms) ≡ map line (if b then n ∷ put before m ms else m ∷ n ∷ ms)
    cases true later = ap (λ l. line n ∷ l) later
    cases false later = refl

lines_ordered : (ms : List Message) → sort_lines_by_date (map line ms) ≡ map line (ordered before ms)
lines_ordered [] = refl
lines_ordered (m ∷ ms) = ap (insert_line_by_date (line m)) (lines_ordered ms) ∙ put_line m (ordered before ms)

-- ---- of those that are filed as their texts say

module _ (of_list shown test : Message → Bool) where
  -- three tests, in whatever order
  kept_alike : (wanted : Message → Bool) → ((m : Message) → wanted m ≡ (of_list m && test m)) → (ms : List Message)
      → filter shown (filter wanted ms) ≡ filter test (filter shown (filter of_list ms))
  kept_alike wanted is [] = refl
  kept_alike wanted is (m ∷ ms) = rw (is m) (cases (of_list m) (test m) (shown m) refl refl refl (kept_alike wanted is ms))
    where
      cases : (a b c : Bool) → of_list m ≡ a → test m ≡ b → shown m ≡ c → filter shown (filter wanted ms) ≡ filter test (filter shown (filter of_list ms))
          → filter shown (cond (a && b) (m ∷ filter wanted ms) (filter wanted ms)) ≡ filter test (filter shown (cond a (m ∷ filter of_list ms) (filter of_list ms)))
      cases false b c p q r later = later
      cases true true true p q r later = rw r (rw q (ap (λ l. m ∷ l) later))
      cases true true false p q r later = rw r later
      cases true false true p q r later = rw r (rw q later)
      cases true false false p q r later = rw r later

  by_texts : (wanted : IndexedMessage → Bool) (of_line : Line → Bool) → ((m : Message) → wanted (with_filing m) ≡ (of_list m && test m)) → ((m : Message) → of_line (line m) ≡ test m)
      → (ms : List Message)
      → lines_of (map shown_message (filter shown (map (λ (f : IndexedMessage). f.0) (sort_by_indexed_date (filter wanted (map with_filing ms))))))
      ≡ sort_lines_by_date (filter of_line (lines_of (map shown_message (filter shown (filter of_list ms)))))
  by_texts wanted of_line is line_is ms =
      let found = filter (λ m. wanted (with_filing m)) ms in
      let them = filter shown (filter of_list ms) in
      let first : map (λ (f : IndexedMessage). f.0) (sort_by_indexed_date (filter wanted (map with_filing ms))) ≡ ordered before found =
      ap (λ fs. map (λ (f : IndexedMessage). f.0) (sort_by_indexed_date fs)) (filter_map with_filing wanted ms) ∙ ap (map (λ (f : IndexedMessage). f.0)) (filed_ordered found)
      ∙ map_of_map (λ (f : IndexedMessage). f.0) with_filing (ordered before found) ∙ map_same (ordered before found) in
      let left : lines_of (map shown_message (filter shown (map (λ (f : IndexedMessage). f.0) (sort_by_indexed_date (filter wanted (map with_filing ms)))))) ≡ map line
      (ordered before (filter shown found)) =
      ap (λ l. lines_of (map shown_message (filter shown l))) first ∙ ap (λ l. lines_of (map shown_message l)) (ordered_kept before order shown found)
      ∙ map_of_map line_of shown_message (ordered before (filter shown found)) in
      let right : sort_lines_by_date (filter of_line (lines_of (map shown_message them))) ≡ map line (ordered before (filter (λ m. of_line (line m)) them)) =
      ap (λ l. sort_lines_by_date (filter of_line l)) (map_of_map line_of shown_message them) ∙ ap sort_lines_by_date (filter_map line of_line them) ∙ lines_ordered
      (filter (λ m. of_line (line m)) them) in
      left ∙ ap (λ l. map line (ordered before l)) (kept_alike (λ m. wanted (with_filing m)) is ms ∙ sym (same_filter (λ m. of_line (line m)) test line_is them)) ∙ sym right
    where
      same_filter : (p q : Message → Bool) → ((m : Message) → p m ≡ q m) → (ms : List Message) → filter p ms ≡ filter q ms
      same_filter p q same [] = refl
      same_filter p q same (m ∷ ms) = rw (same m) (ap (λ l. cond (q m) (m ∷ l) l) (same_filter p q same ms))

same_number : (a b : ℕ) → int_eq (pos a) (pos b) ≡ (a == b)
same_number a b = grind (arith, ints, nat_tests)

pub month_is_filed : (a : Archive) (ask : Ask) (month : ℕ) → IsIndexedCorrectly a → indexed_month_lines a ask (pos month) ≡ month_lines month (map shown_message (view_of a ask))
month_is_filed a ask month right =
    ap (λ l. lines_of (map shown_message (filter (is_shown ask (reader_facts a ask)) l))) (month_by_texts a ask.list (pos month) right)
    ∙ by_texts (λ m. bytes_eq m.list ask.list) (is_shown ask (reader_facts a ask)) (λ m. month_of_instant (date_of m) == month) (is_indexed_in_month ask.list (pos month)) (is_of_month month)
    (λ m. ap (λ b. bytes_eq m.list ask.list && b) (same_number (month_of_instant (date_of m)) month)) (λ m. refl) a.messages

pub author_is_filed : (a : Archive) (ask : Ask) (key : List ℕ) → IsIndexedCorrectly a → indexed_author_lines a ask key ≡ author_lines key (map shown_message (view_of a ask))
author_is_filed a ask key right =
    ap (λ l. lines_of (map shown_message (filter (is_shown ask (reader_facts a ask)) l))) (author_by_texts a ask.list key right)
    ∙ by_texts (λ m. bytes_eq m.list ask.list) (is_shown ask (reader_facts a ask)) (λ m. bytes_eq (author_of m.text) key) (is_indexed_by_author ask.list key) (is_of_author key)
    (λ m. refl) (λ m. refl) a.messages
