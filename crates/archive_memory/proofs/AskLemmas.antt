-- Answers of an archive in memory.
use Rattle.std.proofs.Common.{◌≡◌, ◌<◌, ◌+◌, ℕ, ℤ, pos, Bool, true, false, cond, List, [], ◌∷◌, ◌++◌, length, get_or, take, map, filter, int_lt, refl, ap, ap₂, sym, ◌∙◌, arith}
use Rattle.std.proofs.lemmas.Int.{ints}
use Rattle.std.specs.Prelude.{bytes_eq, string_bytes}
use Rattle.std.specs.Int.{int_max}
use Rattle.std.specs.List.Sorted.{IsPermutation, IsSorted, IsSortedBy}
use Rattle.std.specs.Cmp.Lexicographic.{slice_cmp}
use Rattle.std.specs.Ordering.{is_lt, nat_cmp}
use Rattle.std.proofs.lemmas.List.{append-nil, get_or-map, length-map, map-append, map_more}
use Rattle.std.proofs.lemmas.List.Elements.{filter-append}
use Rattle.std.proofs.lemmas.Slice.Eq.{bytes_eq-Decides}
use Rattle.archive_model.specs.Messages.{archived_message}
use Rattle.archive_model.specs.Questions.{max_rank, sort_by_bytes}
use Rattle.archive_model.specs.Records.{Message}
use Rattle.archive_model.specs.declared.messages.Message.{Message as Given}
use Rattle.archive_model.proofs.OrderLemmas.{names_are}
use Rattle.archive_memory.specs.Entries.{empty_archive, message_in}
use Rattle.archive_memory.specs.declared.entries.MessageEntry.{MessageEntry}

-- ---- names in order

sorted_map : {X Y : Type 0} (f : X → Y) (lt : Y → Y → Bool) (xs : List X) → IsSortedBy (λ x y. lt (f x) (f y)) xs → IsSortedBy lt (map f xs)
sorted_map f lt [] up k d low within = absurd (omega (arith, within))
sorted_map f lt (x ∷ xs) up k d low within =
    let next : k + 1 < length (x ∷ xs) = omega (arith, within, length-map (x ∷ xs) f) in
    let this : k < length (x ∷ xs) = omega (arith, next) in
    ap₂ lt (get_or-map f (x ∷ xs) (k + 1) x d next) (get_or-map f (x ∷ xs) k x d this) ∙ up k x low next

-- names that are those of the lists, and in the order of their bytes
pub names_sorted : (lists names : List (List ℕ)) → IsPermutation lists names → IsSorted (slice_cmp nat_cmp) names → names ≡ sort_by_bytes lists
names_sorted lists names same up = names_are (record empty_archive { lists = lists }) names (record { is_permutation = same; is_sorted = up })

pub sorted_by : {X : Type 0} (f : X → List ℕ) (xs : List X) → IsSorted (λ x y. slice_cmp nat_cmp (f x) (f y)) xs → IsSorted (slice_cmp nat_cmp) (map f xs)
sorted_by f xs up = sorted_map f (λ x y. is_lt (slice_cmp nat_cmp x y)) xs up

-- ---- the highest rank

low_max : (a b : ℤ) → int_lt b (pos 0) ≡ false → int_lt (int_max a b) (pos 0) ≡ false
low_max a b low = by_test (int_lt b a) refl
  where
    by_test : (t : Bool) → int_lt b a ≡ t → int_lt (cond t a b) (pos 0) ≡ false
    by_test true above = grind (arith, ints, above, low)
    by_test false above = low

not_below : (ranks : List ℤ) → int_lt (max_rank ranks) (pos 0) ≡ false
not_below [] = refl
not_below (rank ∷ ranks) = low_max rank (max_rank ranks) (not_below ranks)

-- nothing is below what nobody is granted
pub public_first : (ranks : List ℤ) → int_max (pos 0) (max_rank ranks) ≡ max_rank ranks
public_first ranks = rw (not_below ranks) refl

-- ---- messages of a list

abbrev IsOf : List ℕ → Message → Bool
IsOf list m = bytes_eq m.list list

module _ (list : List ℕ) (entries : List MessageEntry) (i : ℕ) (entry : MessageEntry) (within : i < length entries) (is : entry ≡ get_or entries i entry) where
  one_more : filter (IsOf list) (map message_in (take (i + 1) entries)) ≡ filter (IsOf list) (map message_in (take i entries)) ++ filter (IsOf list) (message_in entry ∷ [])
  one_more = ap (filter (IsOf list)) (map_more message_in entries i entry within ∙ ap (λ e. map message_in (take i entries) ++ message_in e ∷ []) (sym is))
      ∙ filter-append (IsOf list) (map message_in (take i entries)) (message_in entry ∷ [])

  module _ (before : List Given) (so_far : map (archived_message list) before ≡ filter (IsOf list) (map message_in (take i entries))) where
    pub message_kept : (copy : Given) → copy ≡ entry.message → bytes_eq (string_bytes entry.list) list ≡ true
        → map (archived_message list) (before ++ copy ∷ []) ≡ filter (IsOf list) (map message_in (take (i + 1) entries))
    message_kept copy same there =
        let one : archived_message list copy ≡ message_in entry = ap₂ archived_message (sym ((bytes_eq-Decides (string_bytes entry.list) list).0 there)) same in
        let kept : filter (IsOf list) (message_in entry ∷ []) ≡ message_in entry ∷ [] = rw there refl in
        map-append (archived_message list) before (copy ∷ []) ∙ ap₂ ◌++◌ so_far (ap (λ m. m ∷ []) one ∙ sym kept) ∙ sym one_more

    pub message_dropped : bytes_eq (string_bytes entry.list) list ≡ false → map (archived_message list) before ≡ filter (IsOf list) (map message_in (take (i + 1) entries))
    message_dropped there =
        let none : filter (IsOf list) (message_in entry ∷ []) ≡ [] = rw there refl in
        so_far ∙ sym (append-nil (filter (IsOf list) (map message_in (take i entries)))) ∙ ap (λ l. filter (IsOf list) (map message_in (take i entries)) ++ l) (sym none) ∙ sym one_more
