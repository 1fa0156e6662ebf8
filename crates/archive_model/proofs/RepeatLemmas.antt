-- Items that are added again behind those that came before.
use Rattle.std.proofs.Common.{◌≡◌, ℕ, Bool, true, false, ◌||◌, List, [], ◌∷◌, ◌++◌, length, ◌+◌, take, drop, map, refl, ap, sym, ◌∙◌, subst}
use Rattle.std.specs.Prelude.{⊤, filter, bytes_eq}
use Rattle.std.specs.List.{list_any}
use Rattle.std.proofs.lemmas.List.{append-nil, append_assoc, map-append, take-append-drop}
use Rattle.std.proofs.lemmas.List.Elements.{filter-append}
use Rattle.std.proofs.lemmas.List.Folds.{list_any-append}
use Rattle.std.proofs.lemmas.Slice.Eq.{bytes_eq-Decides}
use Rattle.mbox_items.specs.Division.{Item}
use Rattle.archive_model.specs.Records.{Message, Archive}
use Rattle.archive_model.specs.Commands.{Command, add}
use Rattle.archive_model.specs.Keys.{item_key}
use Rattle.archive_model.specs.Questions.{has_list, messages_in}
use Rattle.archive_model.specs.Machine.{new_message}
use Rattle.archive_model.specs.Runs.{run, taken}
use Rattle.archive_model.specs.Firsts.{is_small_enough, is_among, first_of_each_new_key, accepted_items, keys_in}
use Rattle.archive_model.proofs.RunLemmas.{archive_of_both}
use Rattle.archive_model.proofs.FirstLemmas.{holds}

-- the keys known behind some items
abbrev behind : List (List ℕ) → List Item → List (List ℕ)
behind keys items = keys ++ map item_key (first_of_each_new_key keys items)

parts : (keys : List (List ℕ)) (ps rest : List Item) → first_of_each_new_key keys (ps ++ rest) ≡ first_of_each_new_key keys ps ++ first_of_each_new_key (behind keys ps) rest
parts keys [] rest = ap (λ (ks : List (List ℕ)). first_of_each_new_key ks rest) (sym (append-nil keys))
parts keys (p ∷ ps) rest = by_key (is_among keys (item_key p)) refl (parts keys ps rest) (parts (keys ++ item_key p ∷ []) ps rest)
  where
    more : List (List ℕ)
    more = keys ++ item_key p ∷ []

    by_key : (known : Bool) → is_among keys (item_key p) ≡ known → first_of_each_new_key keys (ps ++ rest) ≡ first_of_each_new_key keys ps ++ first_of_each_new_key (behind keys ps) rest
        → first_of_each_new_key more (ps ++ rest) ≡ first_of_each_new_key more ps ++ first_of_each_new_key (behind more ps) rest
        → first_of_each_new_key keys (p ∷ ps ++ rest) ≡ first_of_each_new_key keys (p ∷ ps) ++ first_of_each_new_key (behind keys (p ∷ ps)) rest
    by_key true e same other = rw e same
    by_key false e same other =
        rw e (ap (λ (xs : List Item). p ∷ xs) (other ∙ ap (λ (ks : List (List ℕ)). first_of_each_new_key more ps ++ first_of_each_new_key ks rest)
        (append_assoc keys (item_key p ∷ []) (map item_key (first_of_each_new_key more ps)))))

abbrev AreAmong : List (List ℕ) → List Item → Type 0
AreAmong keys [] = ⊤
AreAmong keys (p ∷ ps) = (is_among keys (item_key p) ≡ true) × AreAmong keys ps

passed : (keys : List (List ℕ)) (ps qs : List Item) → AreAmong keys ps → first_of_each_new_key keys (ps ++ qs) ≡ first_of_each_new_key keys qs
passed keys [] qs all = refl
passed keys (p ∷ ps) qs all = rw (all.0) (passed keys ps qs (all.1))

among_more : (keys more : List (List ℕ)) (key : List ℕ) → is_among keys key ≡ true → is_among (keys ++ more) key ≡ true
among_more keys more key e = list_any-append (λ k. bytes_eq k key) keys more ∙ rw e refl

among_new : (keys more : List (List ℕ)) (key : List ℕ) → is_among (keys ++ key ∷ more) key ≡ true
among_new keys more key = list_any-append (λ k. bytes_eq k key) keys (key ∷ more) ∙ by_test (is_among keys key)
  where
    by_test : (b : Bool) → (b || is_among (key ∷ more) key) ≡ true
    by_test true = refl
    by_test false = rw ((bytes_eq-Decides key key).1 refl) refl

are_among : (keys : List (List ℕ)) (ps : List Item) → AreAmong (behind keys ps) ps
are_among keys [] = tt
are_among keys (p ∷ ps) = by_key (is_among keys (item_key p)) refl (are_among keys ps) (are_among (keys ++ item_key p ∷ []) ps)
  where
    more : List (List ℕ)
    more = keys ++ item_key p ∷ []

    by_key : (known : Bool) → is_among keys (item_key p) ≡ known → AreAmong (behind keys ps) ps → AreAmong (behind more ps) ps → AreAmong (behind keys (p ∷ ps)) (p ∷ ps)
    by_key true e same other =
        let known : behind keys (p ∷ ps) ≡ behind keys ps = rw e refl in
        subst (λ (ks : List (List ℕ)). AreAmong ks (p ∷ ps)) (sym known) (among_more keys (map item_key (first_of_each_new_key keys ps)) (item_key p) e, same)
    by_key false e same other =
        let known : behind keys (p ∷ ps) ≡ keys ++ item_key p ∷ map item_key (first_of_each_new_key more ps) = rw e refl in
        subst (λ (ks : List (List ℕ)). AreAmong ks (p ∷ ps)) (sym known) (
          among_new keys (map item_key (first_of_each_new_key more ps)) (item_key p),
          subst (λ (ks : List (List ℕ)). AreAmong ks ps)
              (append_assoc keys (item_key p ∷ []) (map item_key (first_of_each_new_key more ps))) other,
        )

again : (keys : List (List ℕ)) (ps qs : List Item) → first_of_each_new_key keys (ps ++ (ps ++ qs)) ≡ first_of_each_new_key keys (ps ++ qs)
again keys ps qs =
    parts keys ps (ps ++ qs) ∙ ap (λ (xs : List Item). first_of_each_new_key keys ps ++ xs) (passed (behind keys ps) ps qs (are_among keys ps)) ∙ sym (parts keys ps qs)

small_again : (keys : List (List ℕ)) (n : ℕ) (items : List Item) → first_of_each_new_key keys (filter is_small_enough (take n items ++ items)) ≡ first_of_each_new_key keys
    (filter is_small_enough items)
small_again keys n items =
    let split : filter is_small_enough items ≡ filter is_small_enough (take n items) ++ filter is_small_enough (drop n items) =
    ap (filter is_small_enough) (sym (take-append-drop n items)) ∙ filter-append is_small_enough (take n items) (drop n items) in
    ap (first_of_each_new_key keys) (filter-append is_small_enough (take n items) items ∙ ap (λ (xs : List Item). filter is_small_enough (take n items) ++ xs) split)
    ∙ again keys (filter is_small_enough (take n items)) (filter is_small_enough (drop n items)) ∙ ap (first_of_each_new_key keys) (sym split)

-- the first of some items, and then all of them
pub repeats : (list : List ℕ) (items : List Item) (n : ℕ) (a : Archive) (room : ℕ) → has_list a list ≡ true → length (messages_in a list) + room ≡ 50000
    → messages_in (taken (taken a list (take n items)).archive list items).archive list ≡ messages_in (taken a list items).archive list
repeats list items n a room there fits =
    let joined : (taken (taken a list (take n items)).archive list items).archive ≡ (taken a list (take n items ++ items)).archive =
    sym (ap (λ (cs : List Command). (run a cs).archive) (map-append (add list) (take n items) items) ∙ archive_of_both a (map (add list) (take n items)) (map (add list) items)) in
    ap (λ (b : Archive). messages_in b list) joined ∙ holds list (take n items ++ items) a room there fits
    ∙ ap (λ (xs : List Item). messages_in a list ++ map (new_message list) (take room xs)) (small_again (keys_in a list) n items)
    ∙ sym (holds list items a room there fits)
