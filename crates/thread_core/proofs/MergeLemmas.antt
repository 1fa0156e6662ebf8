-- Steps of the loops over groups.
use Rattle.std.proofs.Common.{◌≡◌, ◌≢◌, ℕ, zero, suc, ◌+◌, ◌<◌, ◌≤◌, Bool, true, false, not, cond, ◌||◌, ◌==◌, nat_lt, ◌⊎◌, inl, inr, List, [], ◌∷◌, ◌++◌, length}
use Rattle.std.proofs.Common.{take, drop, get_or, map, filter, Some, None, refl, sym, ◌∙◌, ap, arith, flat_map, take_all, bytes_eq, position}
use Rattle.std.specs.List.{before_first, after_first, position_or_len, list_any}
use Rattle.std.proofs.lemmas.Grind.{flat_map-append}
use Rattle.std.proofs.lemmas.List.{drop_more, take_more, append-nil}
use Rattle.std.proofs.lemmas.List.Elements.{filter-append}
use Rattle.std.proofs.lemmas.List.Folds.{list_any-append}
use Rattle.std.proofs.lemmas.Bool.Decides.{nat_tests}
use Rattle.thread_links.specs.Links.{Link}
use Rattle.thread_core.specs.Merge.{MergedThreads, base_subject_at, thread_subject, with_subject, distinct_subjects, trees_with_subject, subject_groups}
use Rattle.thread_core.specs.Merge.{links_under_first, merged_children_of_group, is_dummy_tree, messages_of_tree, merged_group, merged_trees}
use Rattle.thread_core.specs.Parts.{merged_group_of_message}
use Rattle.thread_links.specs.declared.entry.Entry.{Entry}
use Rattle.thread_core.specs.declared.tree.Tree.{Tree}

-- where a search ends
position-cases : {X : Type 0} (p : X → Bool) (xs : List X) → ((position p xs ≡ None) × (length xs ≤ position_or_len p xs))
    ⊎ ((position p xs ≡ Some (position_or_len p xs)) × (position_or_len p xs < length xs))
position-cases p xs = by_test (nat_lt (position_or_len p xs) (length xs)) refl
  where
    by_test : (t : Bool) → nat_lt (position_or_len p xs) (length xs) ≡ t
        → ((cond t (Some (position_or_len p xs)) None ≡ None) × (length xs ≤ position_or_len p xs))
        ⊎ ((cond t (Some (position_or_len p xs)) None ≡ Some (position_or_len p xs)) × (position_or_len p xs < length xs))
    by_test true e = inr (refl, grind (arith, nat_tests, e))
    by_test false e = inl (refl, grind (arith, nat_tests, e))

place_is : {X : Type 0} (p : X → Bool) (xs : List X) (k : ℕ) → position p xs ≡ Some k → (position_or_len p xs ≡ k) × (k < length xs)
place_is p xs k e = by_case (position-cases p xs)
  where
    by_case : ((position p xs ≡ None) × (length xs ≤ position_or_len p xs)) ⊎ ((position p xs ≡ Some (position_or_len p xs)) × (position_or_len p xs < length xs))
        → (position_or_len p xs ≡ k) × (k < length xs)
    by_case (inl none) = absurd (let n = none.0 in let bad : Some k ≡ None = sym e ∙ n in cc)
    by_case (inr some) = let s : Some (position_or_len p xs) ≡ Some k = sym some.0 ∙ e in let is : position_or_len p xs ≡ k = cc in let lt = some.1 in (is, omega (arith, lt, is))

no_place : {X : Type 0} (p : X → Bool) (xs : List X) → position p xs ≡ None → length xs ≤ position_or_len p xs
no_place p xs e = by_case (position-cases p xs)
  where
    by_case : ((position p xs ≡ None) × (length xs ≤ position_or_len p xs)) ⊎ ((position p xs ≡ Some (position_or_len p xs)) × (position_or_len p xs < length xs)) → length xs ≤ position_or_len p xs
    by_case (inl none) = none.1
    by_case (inr some) = absurd (let s = some.0 in let bad : None ≡ Some (position_or_len p xs) = sym e ∙ s in cc)

pub place_below : {X : Type 0} (p : X → Bool) (xs : List X) (k : ℕ) → position p xs ≡ Some k → k < length xs
place_below p xs k e = (place_is p xs k e).1

pub before_some : {X : Type 0} (p : X → Bool) (xs : List X) (k : ℕ) → position p xs ≡ Some k → before_first p xs ≡ take k xs
before_some p xs k e = let is = (place_is p xs k e).0 in ap (λ (n : ℕ). take n xs) is

pub before_none : {X : Type 0} (p : X → Bool) (xs : List X) → position p xs ≡ None → before_first p xs ≡ xs
before_none p xs e = take_all (position_or_len p xs) xs (no_place p xs e)

pub after_some : {X : Type 0} (p : X → Bool) (xs : List X) (k : ℕ) → position p xs ≡ Some k → after_first p xs ≡ drop (k + 1) xs
after_some p xs k e = let is = (place_is p xs k e).0 in ap (λ (n : ℕ). drop (n + 1) xs) is

drop_past : {X : Type 0} (n : ℕ) (xs : List X) → length xs ≤ n → drop n xs ≡ []
drop_past zero [] h = refl
drop_past (suc n) [] h = refl
drop_past zero (x ∷ xs) h = absurd (let bad : suc (length xs) ≤ 0 = h in omega (arith, bad))
drop_past (suc n) (x ∷ xs) h = drop_past n xs (let g : suc (length xs) ≤ suc n = h in omega (arith, g))

pub after_none : {X : Type 0} (p : X → Bool) (xs : List X) → position p xs ≡ None → after_first p xs ≡ []
after_none p xs e = let over = no_place p xs e in drop_past (position_or_len p xs + 1) xs (omega (arith, over))

-- the links of messages under the first, from a place in the list on
abbrev pub links_from : List ℕ → ℕ → ℕ → List Link
links_from children i first = map (λ (p : ℕ). (p, first)) (filter (λ (p : ℕ). not (p == first)) (drop i children))

pub links_more_yes : (children : List ℕ) (i first : ℕ) → i < length children → (get_or children i 0 == first) ≡ false
    → links_from children i first ≡ (get_or children i 0, first) ∷ links_from children (i + 1) first
links_more_yes children i first h t = rw (drop_more children i 0 h, t) refl

pub links_more_no : (children : List ℕ) (i first : ℕ) → i < length children → (get_or children i 0 == first) ≡ true
    → links_from children i first ≡ links_from children (i + 1) first
links_more_no children i first h t = rw (drop_more children i 0 h, t) refl

with_subject-some : (base : List ℕ) (subjects : List (List ℕ)) → length base ≢ 0 → with_subject base subjects ≡ base ∷ filter (λ other. not (bytes_eq base other)) subjects
with_subject-some [] subjects some = absurd (some refl)
with_subject-some (b ∷ bs) subjects some = refl

map-filter : {X Y : Type 0} (f : X → Y) (t : Y → Bool) (xs : List X) → map f (filter (λ x. t (f x)) xs) ≡ filter t (map f xs)
map-filter f t [] = refl
map-filter f t (x ∷ xs) = by_test (t (f x)) (map-filter f t xs)
  where
    by_test : (b : Bool) → map f (filter (λ y. t (f y)) xs) ≡ filter t (map f xs) → map f (cond b (x ∷ filter (λ y. t (f y)) xs) (filter (λ y. t (f y)) xs)) ≡ cond b
        (f x ∷ filter t (map f xs)) (filter t (map f xs))
    by_test true later = ap (λ (ys : List _). f x ∷ ys) later
    by_test false later = later

-- a message is put before those of other subjects
pub leader_put : (entries : List Entry) (place : ℕ) (old kept new : List ℕ) → length (base_subject_at entries place) ≢ 0
    → kept ≡ filter (λ (o : ℕ). not (bytes_eq (base_subject_at entries place) (base_subject_at entries o))) old → new ≡ place ∷ kept
    → map (base_subject_at entries) new ≡ with_subject (base_subject_at entries place) (map (base_subject_at entries) old)
leader_put entries place old kept new some is_kept is_new =
    ap (map (base_subject_at entries)) (is_new ∙ ap (λ (ks : List ℕ). place ∷ ks) is_kept)
    ∙ ap (λ (bs : List (List ℕ)). base_subject_at entries place ∷ bs) (map-filter (base_subject_at entries) (λ other. not (bytes_eq (base_subject_at entries place) other)) old)
    ∙ sym (with_subject-some (base_subject_at entries place) (map (base_subject_at entries) old) some)

pub subjects_more : (entries : List Entry) (trees : List Tree) (i : ℕ) (d : Tree) → i < length trees
    → distinct_subjects (map (thread_subject entries) (drop i trees)) ≡ with_subject (thread_subject entries (get_or trees i d)) (distinct_subjects (map (thread_subject entries) (drop (i + 1) trees)))
subjects_more entries trees i d h = rw (drop_more trees i d h) refl

-- the group among the trees before a place
group_step : (entries : List Entry) (trees : List Tree) (base : List ℕ) (i : ℕ) (d : Tree) → i < length trees
    → trees_with_subject entries (take (i + 1) trees) base ≡ trees_with_subject entries (take i trees) base ++ cond (bytes_eq base (thread_subject entries (get_or trees i d)))
    (get_or trees i d ∷ []) []
group_step entries trees base i d h =
    rw (take_more trees i d h) (filter-append (λ (tree : Tree). bytes_eq base (thread_subject entries tree)) (take i trees) (get_or trees i d ∷ []))

pub group_no : (entries : List Entry) (trees : List Tree) (base : List ℕ) (i : ℕ) (d : Tree) → i < length trees → bytes_eq base (thread_subject entries (get_or trees i d)) ≡ false
    → trees_with_subject entries (take (i + 1) trees) base ≡ trees_with_subject entries (take i trees) base
group_no entries trees base i d h t = group_step entries trees base i d h ∙ rw t (append-nil _)

pub group_yes : (entries : List Entry) (trees : List Tree) (base : List ℕ) (i : ℕ) (d : Tree) → i < length trees → bytes_eq base (thread_subject entries (get_or trees i d)) ≡ true
    → trees_with_subject entries (take (i + 1) trees) base ≡ trees_with_subject entries (take i trees) base ++ get_or trees i d ∷ []
group_yes entries trees base i d h t = group_step entries trees base i d h ∙ rw t refl

or-false : (t : Bool) → (t || false) ≡ t
or-false true = refl
or-false false = refl

pub dummy_last : (trees : List Tree) (tree : Tree) → list_any is_dummy_tree (trees ++ tree ∷ []) ≡ (list_any is_dummy_tree trees || is_dummy_tree tree)
dummy_last trees tree = list_any-append is_dummy_tree trees (tree ∷ []) ∙ ap (λ (t : Bool). list_any is_dummy_tree trees || t) (or-false (is_dummy_tree tree))

pub messages_last : (trees : List Tree) (tree : Tree) → flat_map messages_of_tree (trees ++ tree ∷ []) ≡ flat_map messages_of_tree trees ++ messages_of_tree tree
messages_last trees tree = flat_map-append messages_of_tree trees (tree ∷ []) ∙ ap (λ (ms : List ℕ). flat_map messages_of_tree trees ++ ms) (append-nil (messages_of_tree tree))

gathered-trees : (entries : List Entry) (trees : List Tree) (leaders : List ℕ)
    → flat_map (λ (m : MergedThreads). m.trees) (map (merged_group entries) (map (trees_with_subject entries trees) (map (base_subject_at entries) leaders))) ≡ flat_map
    (λ leader. (merged_group_of_message entries trees leader).trees) leaders
gathered-trees entries trees [] = refl
gathered-trees entries trees (leader ∷ leaders) = ap (λ (ts : List Tree). (merged_group_of_message entries trees leader).trees ++ ts) (gathered-trees entries trees leaders)

gathered-links : (entries : List Entry) (trees : List Tree) (leaders : List ℕ)
    → flat_map (λ (m : MergedThreads). m.links) (map (merged_group entries) (map (trees_with_subject entries trees) (map (base_subject_at entries) leaders))) ≡ flat_map
    (λ leader. (merged_group_of_message entries trees leader).links) leaders
gathered-links entries trees [] = refl
gathered-links entries trees (leader ∷ leaders) = ap (λ (ls : List Link). (merged_group_of_message entries trees leader).links ++ ls) (gathered-links entries trees leaders)

-- the groups by their leaders are all
pub all_gathered_trees : (entries : List Entry) (trees : List Tree) (leaders : List ℕ) → map (base_subject_at entries) leaders ≡ distinct_subjects (map (thread_subject entries) trees)
    → flat_map (λ leader. (merged_group_of_message entries trees leader).trees) leaders ≡ flat_map (λ (m : MergedThreads). m.trees) (map (merged_group entries) (subject_groups entries trees))
all_gathered_trees entries trees leaders is =
    sym (gathered-trees entries trees leaders) ∙ ap (λ (bs : List (List ℕ)). flat_map (λ (m : MergedThreads). m.trees) (map (merged_group entries) (map (trees_with_subject entries trees) bs))) is

pub all_gathered_links : (entries : List Entry) (trees : List Tree) (leaders : List ℕ) → map (base_subject_at entries) leaders ≡ distinct_subjects (map (thread_subject entries) trees)
    → flat_map (λ leader. (merged_group_of_message entries trees leader).links) leaders ≡ (merged_trees entries trees).links
all_gathered_links entries trees leaders is =
    sym (gathered-links entries trees leaders) ∙ ap (λ (bs : List (List ℕ)). flat_map (λ (m : MergedThreads). m.links) (map (merged_group entries) (map (trees_with_subject entries trees) bs))) is

pub leader_trees : (entries : List Entry) (trees : List Tree) (leaders : List ℕ) (i : ℕ) → i < length leaders
    → flat_map (λ leader. (merged_group_of_message entries trees leader).trees) (take (i + 1) leaders) ≡ flat_map (λ leader. (merged_group_of_message entries trees leader).trees)
    (take i leaders) ++ (merged_group_of_message entries trees (get_or leaders i 0)).trees
leader_trees entries trees leaders i h =
    rw (take_more leaders i 0 h) (flat_map-append (λ leader. (merged_group_of_message entries trees leader).trees) (take i leaders) (get_or leaders i 0 ∷ [])
    ∙ ap (λ (ts : List Tree). flat_map (λ leader. (merged_group_of_message entries trees leader).trees) (take i leaders) ++ ts) (append-nil _))

pub leader_links : (entries : List Entry) (trees : List Tree) (leaders : List ℕ) (i : ℕ) → i < length leaders
    → flat_map (λ leader. (merged_group_of_message entries trees leader).links) (take (i + 1) leaders) ≡ flat_map (λ leader. (merged_group_of_message entries trees leader).links)
    (take i leaders) ++ (merged_group_of_message entries trees (get_or leaders i 0)).links
leader_links entries trees leaders i h =
    rw (take_more leaders i 0 h) (flat_map-append (λ leader. (merged_group_of_message entries trees leader).links) (take i leaders) (get_or leaders i 0 ∷ [])
    ∙ ap (λ (ls : List Link). flat_map (λ leader. (merged_group_of_message entries trees leader).links) (take i leaders) ++ ls) (append-nil _))

-- the links of a group by how many of its messages are plain
pub no_links_dummy : (messages plain : List ℕ) (dummy : Bool) → dummy ≡ true → links_under_first plain (merged_children_of_group dummy messages plain) ≡ []
no_links_dummy messages [] dummy e = refl
no_links_dummy messages (p ∷ plain) dummy e = rw e refl

pub no_links_none : (messages plain : List ℕ) (dummy : Bool) → length plain ≡ 0 → links_under_first plain (merged_children_of_group dummy messages plain) ≡ []
no_links_none messages [] dummy e = refl
no_links_none messages (p ∷ plain) dummy e = absurd (let bad : suc (length plain) ≡ 0 = e in omega (arith, bad))

pub links_of_one : (messages plain : List ℕ) (dummy : Bool) → dummy ≡ false → length plain ≡ 1
    → links_under_first plain (merged_children_of_group dummy messages plain) ≡ map (λ (p : ℕ). (p, get_or plain 0 0)) (filter (λ (p : ℕ). not (p == get_or plain 0 0)) messages)
links_of_one messages [] dummy t e = absurd (let bad : 0 ≡ 1 = e in omega (arith, bad))
links_of_one messages (p ∷ []) dummy t e = rw t refl
links_of_one messages (p ∷ q ∷ plain) dummy t e = absurd (let bad : suc (suc (length plain)) ≡ 1 = e in omega (arith, bad))

pub links_of_two : (messages plain : List ℕ) (dummy : Bool) → dummy ≡ false → 1 < length plain
    → links_under_first plain (merged_children_of_group dummy messages plain)
    ≡ map (λ (p : ℕ). (p, get_or plain 0 0)) (filter (λ (p : ℕ). not (p == get_or plain 0 0)) (before_first (λ (p : ℕ). p == get_or plain 1 0) messages))
links_of_two messages [] dummy t e = absurd (let bad : 1 < 0 = e in omega (arith, bad))
links_of_two messages (p ∷ []) dummy t e = absurd (let bad : 1 < 1 = e in omega (arith, bad))
links_of_two messages (p ∷ q ∷ plain) dummy t e = rw t refl
