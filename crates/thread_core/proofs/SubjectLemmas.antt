-- The first message of each subject, and the trees that go to it.
use Rattle.std.proofs.Common.{◌≡◌, ◌≢◌, ◌==◌, ℕ, zero, suc, ◌+◌, ◌<◌, ◌≤◌, Bool, true, false, not, cond, ◌&&◌, ◌||◌, ◌⊎◌, inl, inr, List, [], ◌∷◌, ◌++◌, length, take}
use Rattle.std.proofs.Common.{get_or, map, filter, flat_map, slice_get, is_none, Option, Some, None, refl, sym, ◌∙◌, ap, subst, arith, add-one, bytes_eq}
use Rattle.std.specs.List.{list_any}
use Rattle.std.specs.Option.{option_map_or, option_and_then}
use Rattle.std.specs.Cmp.Lexicographic.{bytes_decides}
use Rattle.std.proofs.lemmas.List.{append-nil, take_more, get_or-map, length-map, map-append}
use Rattle.std.proofs.lemmas.List.Elements.{filter-append}
use Rattle.std.proofs.lemmas.List.Folds.{list_any-append}
use Rattle.std.proofs.lemmas.Option.{slice_get-get_or}
use Rattle.std.proofs.lemmas.Grind.{flat_map-append}
use Rattle.std.proofs.Common.{take_all}
use Rattle.thread_links.specs.Containers.{numbers_below}
use Rattle.thread_core.specs.Forest.{children, tree_key_place}
use Rattle.thread_core.specs.Merge.{MergedThreads, base_subject_at, thread_subject, with_subject, distinct_subjects, trees_with_subject, subject_groups, is_dummy_tree, messages_of_tree, merged_group}
use Rattle.thread_core.specs.Parts.{containers_of_parents, TabulatesFunction}
use Rattle.thread_links.specs.Links.{Link}
use Rattle.thread_core.specs.Subjects.{TableHasLeaders, AreSubjectLeaders, leader_of_message, trees_at_numbers}
use Rattle.thread_links.specs.declared.entry.Entry.{Entry}
use Rattle.thread_core.specs.declared.tree.Tree.{Tree}
use Rattle.thread_core.specs.declared.tree.Tree.TheVariants.{Message}
use Rattle.std.proofs.lemmas.Bool.Decides.{eqb_tells}

bytes-same : (a b : List ℕ) → bytes_eq a b ≡ true → a ≡ b
bytes-same a b h = (bytes_decides a b).0 h

bytes-self : (a b : List ℕ) → a ≡ b → bytes_eq a b ≡ true
bytes-self a b e = (bytes_decides a b).1 e

bytes-sym : (a b : List ℕ) → bytes_eq a b ≡ bytes_eq b a
bytes-sym a b = by_tests (bytes_eq a b) (bytes_eq b a) refl refl
  where
    by_tests : (s t : Bool) → bytes_eq a b ≡ s → bytes_eq b a ≡ t → bytes_eq a b ≡ bytes_eq b a
    by_tests true t e f = e ∙ sym (bytes-self b a (sym (bytes-same a b e)))
    by_tests false false e f = e ∙ sym f
    by_tests false true e f = bytes-self a b (sym (bytes-same b a f)) ∙ sym f

-- a subject that a test keeps is among those that it keeps as among all
any-kept : (b : List ℕ) (q : List ℕ → Bool) (bs : List (List ℕ)) → q b ≡ true → list_any (bytes_eq b) (filter q bs) ≡ list_any (bytes_eq b) bs
any-kept b q [] keeps = refl
any-kept b q (m ∷ bs) keeps = by_tests (q m) (bytes_eq b m) refl refl (any-kept b q bs keeps)
  where
    by_tests : (t s : Bool) → q m ≡ t → bytes_eq b m ≡ s → list_any (bytes_eq b) (filter q bs) ≡ list_any (bytes_eq b) bs
        → list_any (bytes_eq b) (cond t (m ∷ filter q bs) (filter q bs)) ≡ (s || list_any (bytes_eq b) bs)
    by_tests true s e f later = rw f (ap (λ (u : Bool). s || u) later)
    by_tests false false e f later = later
    by_tests false true e f later = absurd (let x = bytes-same b m f in let bad : true ≡ false = sym keeps ∙ ap q x ∙ e in cc)

-- an empty subject more
pub distinct_empty : (subjects : List (List ℕ)) → distinct_subjects (subjects ++ [] ∷ []) ≡ distinct_subjects subjects
distinct_empty [] = refl
distinct_empty (base ∷ subjects) = ap (with_subject base) (distinct_empty subjects)

-- a subject more
distinct-last : (subjects : List (List ℕ)) (b : List ℕ) → length b ≢ 0
    → distinct_subjects (subjects ++ b ∷ []) ≡ distinct_subjects subjects ++ cond (list_any (bytes_eq b) (distinct_subjects subjects)) [] (b ∷ [])
distinct-last [] [] some = absurd (some refl)
distinct-last [] (c ∷ cs) some = refl
distinct-last ([] ∷ subjects) b some = distinct-last subjects b some
distinct-last ((c ∷ cs) ∷ subjects) b some = by_test (bytes_eq b (c ∷ cs)) refl (distinct-last subjects b some)
  where
    keeps : List ℕ → Bool
    keeps o = not (bytes_eq (c ∷ cs) o)

    old : List (List ℕ)
    old = distinct_subjects subjects

    out : (t : Bool) → keeps b ≡ false → filter keeps (cond t [] (b ∷ [])) ≡ []
    out true e = refl
    out false e = rw e refl

    in_ : (t : Bool) → keeps b ≡ true → filter keeps (cond t [] (b ∷ [])) ≡ cond t [] (b ∷ [])
    in_ true e = refl
    in_ false e = rw e refl

    by_test : (s : Bool) → bytes_eq b (c ∷ cs) ≡ s → distinct_subjects (subjects ++ b ∷ []) ≡ old ++ cond (list_any (bytes_eq b) old) [] (b ∷ [])
        → (c ∷ cs) ∷ filter keeps (distinct_subjects (subjects ++ b ∷ [])) ≡ (c ∷ cs) ∷ filter keeps old ++ cond (s || list_any (bytes_eq b) (filter keeps old)) [] (b ∷ [])
    by_test true e later =
        let gone : keeps b ≡ false = ap not (bytes-sym (c ∷ cs) b ∙ e) in
        ap (λ (bs : List (List ℕ)). (c ∷ cs) ∷ bs)
        (ap (filter keeps) later ∙ filter-append keeps old (cond (list_any (bytes_eq b) old) [] (b ∷ [])) ∙ ap (λ (bs : List (List ℕ)). filter keeps old ++ bs) (out (list_any (bytes_eq b) old) gone))
    by_test false e later =
        let kept : keeps b ≡ true = ap not (bytes-sym (c ∷ cs) b ∙ e) in
        ap (λ (bs : List (List ℕ)). (c ∷ cs) ∷ bs)
        (ap (filter keeps) later ∙ filter-append keeps old (cond (list_any (bytes_eq b) old) [] (b ∷ [])) ∙ ap (λ (bs : List (List ℕ)). filter keeps old ++ bs) (in_ (list_any (bytes_eq b) old) kept)
        ∙ ap (λ (t : Bool). filter keeps old ++ cond t [] (b ∷ [])) (sym (any-kept b keeps old kept)))

not-not : (t u : Bool) → t ≡ not u → u ≡ not t
not-not t true e = rw e refl
not-not t false e = rw e refl

or-false : (t : Bool) → (t || false) ≡ t
or-false true = refl
or-false false = refl

-- no subject yet
pub leaders_none : (entries : List Entry) (get : List ℕ → Option ℕ) → ((base : List ℕ) → get base ≡ None) → AreSubjectLeaders entries [] [] get
leaders_none entries get none = record {
  bases_are_distinct = refl;
  none_for_empty_base = none [];
  found_iff_present = λ base. ap is_none (none base);
  leader_has_base = λ base place e. absurd (let bad : None ≡ Some place = sym (none base) ∙ e in cc);
  are_leaders = tt;
}

pub leaders_empty : (entries : List Entry) (subjects : List (List ℕ)) (base : List ℕ) (leaders : List ℕ) (get : List ℕ → Option ℕ) → length base ≡ 0
    → AreSubjectLeaders entries subjects leaders get → AreSubjectLeaders entries (subjects ++ base ∷ []) leaders get
leaders_empty entries subjects [] leaders get is all = record {
  bases_are_distinct = all.bases_are_distinct ∙ sym (distinct_empty subjects);
  none_for_empty_base = all.none_for_empty_base;
  found_iff_present = all.found_iff_present;
  leader_has_base = all.leader_has_base;
  are_leaders = all.are_leaders;
}
leaders_empty entries subjects (b ∷ bs) leaders get is all = absurd (let bad : suc (length bs) ≡ 0 = is in omega (arith, bad))

-- the table with one more message
abbrev pub with_lead : (List ℕ → Option ℕ) → List ℕ → ℕ → List ℕ → Option ℕ
with_lead get base place other = cond (bytes_eq base other) (Some place) (get other)

led-more : (entries : List Entry) (get : List ℕ → Option ℕ) (place : ℕ) (leaders : List ℕ) → get (base_subject_at entries place) ≡ None → TableHasLeaders entries get leaders
    → TableHasLeaders entries (with_lead get (base_subject_at entries place) place) (leaders ++ place ∷ [])
led-more entries get place [] none led = (rw (bytes-self (base_subject_at entries place) (base_subject_at entries place) refl) refl, tt)
led-more entries get place (p ∷ ps) none led = (by_test (bytes_eq (base_subject_at entries place) (base_subject_at entries p)) refl, led-more entries get place ps none led.1)
  where
    by_test : (t : Bool) → bytes_eq (base_subject_at entries place) (base_subject_at entries p) ≡ t → cond t (Some place) (get (base_subject_at entries p)) ≡ Some p
    by_test false e = led.0
    by_test true e = absurd (let x = bytes-same (base_subject_at entries place) (base_subject_at entries p) e in let bad : None ≡ Some p = sym none ∙ ap get x ∙ led.0 in cc)

leaders-new : (entries : List Entry) (subjects : List (List ℕ)) (place : ℕ) (leaders : List ℕ) (get : List ℕ → Option ℕ) → length (base_subject_at entries place) ≢ 0
    → get (base_subject_at entries place) ≡ None
    → AreSubjectLeaders entries subjects leaders get → AreSubjectLeaders entries (subjects ++ base_subject_at entries place ∷ []) (leaders ++ place ∷ [])
    (with_lead get (base_subject_at entries place) place)
leaders-new entries subjects place leaders get some none all = record {
  bases_are_distinct = map-append (base_subject_at entries) leaders (place ∷ []) ∙ ap (λ (bs : List (List ℕ)). bs ++ base_subject_at entries place ∷ []) all.bases_are_distinct
      ∙ sym (distinct-last subjects (base_subject_at entries place) some ∙ ap (λ (t : Bool). distinct_subjects subjects ++ cond t [] (base_subject_at entries place ∷ [])) absent);
  none_for_empty_base = by_empty (bytes_eq (base_subject_at entries place) []) refl;
  found_iff_present = λ o. by_found o (bytes_eq (base_subject_at entries place) o) refl
      ∙ sym (ap not (ap (list_any (bytes_eq o)) (map-append (base_subject_at entries) leaders (place ∷ [])) ∙ list_any-append (bytes_eq o) (map (base_subject_at entries) leaders)
      (base_subject_at entries place ∷ [])));
  leader_has_base = λ o p. by_same o p (bytes_eq (base_subject_at entries place) o) refl;
  are_leaders = led-more entries get place leaders none all.are_leaders;
}
  where
    absent : list_any (bytes_eq (base_subject_at entries place)) (distinct_subjects subjects) ≡ false
    absent = ap (list_any (bytes_eq (base_subject_at entries place))) (sym all.bases_are_distinct) ∙ not-not true
        (list_any (bytes_eq (base_subject_at entries place)) (map (base_subject_at entries) leaders))
        (sym (ap is_none none) ∙ all.found_iff_present (base_subject_at entries place))

    by_empty : (t : Bool) → bytes_eq (base_subject_at entries place) [] ≡ t → cond t (Some place) (get []) ≡ None
    by_empty false e = all.none_for_empty_base
    by_empty true e = absurd (some (ap length (bytes-same (base_subject_at entries place) [] e)))

    or-true : (t : Bool) → (t || (true || false)) ≡ true
    or-true true = refl
    or-true false = refl

    by_found : (o : List ℕ) (t : Bool) → bytes_eq (base_subject_at entries place) o ≡ t
        → is_none (cond t (Some place) (get o)) ≡ not (list_any (bytes_eq o) (map (base_subject_at entries) leaders) || (bytes_eq o (base_subject_at entries place) || false))
    by_found o true e = rw (bytes-sym o (base_subject_at entries place), e, or-true (list_any (bytes_eq o) (map (base_subject_at entries) leaders))) refl
    by_found o false e = rw (bytes-sym o (base_subject_at entries place), e, or-false (list_any (bytes_eq o) (map (base_subject_at entries) leaders))) (all.found_iff_present o)

    by_same : (o : List ℕ) (p : ℕ) (t : Bool) → bytes_eq (base_subject_at entries place) o ≡ t → cond t (Some place) (get o) ≡ Some p → base_subject_at entries p ≡ o
    by_same o p false e f = all.leader_has_base o p f
    by_same o p true e f = let x : place ≡ p = cc in ap (base_subject_at entries) (sym x) ∙ bytes-same (base_subject_at entries place) o e

-- one subject more
pub leaders_more : (entries : List Entry) (subjects : List (List ℕ)) (base : List ℕ) (place : ℕ) (leaders leaders' : List ℕ) (get get' : List ℕ → Option ℕ) (added : Bool)
    → base_subject_at entries place ≡ base → length base ≢ 0 → added ≡ is_none (get base)
    → ((o : List ℕ) → get' o ≡ cond (is_none (get base) && bytes_eq base o) (Some place) (get o)) → leaders' ≡ cond added (leaders ++ place ∷ []) leaders
    → AreSubjectLeaders entries subjects leaders get → AreSubjectLeaders entries (subjects ++ base_subject_at entries place ∷ []) leaders' get'
leaders_more entries subjects base place leaders leaders' get get' added own some was now grown all =
    subst (λ (b : List ℕ). AreSubjectLeaders entries (subjects ++ b ∷ []) leaders' get') (sym own) (by_option (get base) refl)
  where
    here : length (base_subject_at entries place) ≢ 0
    here e = some (sym (ap length own) ∙ e)

    by_option : (o : Option ℕ) → get base ≡ o → AreSubjectLeaders entries (subjects ++ base ∷ []) leaders' get'
    by_option None e =
        let tables : with_lead get (base_subject_at entries place) place ≡ get' = (λ i o. cond (bytes_eq (own i) o) (Some place) (get o))
        ∙ (λ i o. sym (now o ∙ ap (λ (t : Bool). cond (t && bytes_eq base o) (Some place) (get o)) (ap is_none e)) i) in
        let lists : leaders ++ place ∷ [] ≡ leaders' = sym (grown ∙ ap (λ (t : Bool). cond t (leaders ++ place ∷ []) leaders) (was ∙ ap is_none e)) in
        subst (λ (x : List ℕ × (List ℕ → Option ℕ) × List ℕ). AreSubjectLeaders entries (subjects ++ x.0 ∷ []) x.2 x.1) (λ i. (own i, tables i, lists i))
        (leaders-new entries subjects place leaders get here (ap get own ∙ e) all)
    by_option (Some p) e =
        let tables : get ≡ get' = λ i o. sym (now o ∙ ap (λ (t : Bool). cond (t && bytes_eq base o) (Some place) (get o)) (ap is_none e)) i in
        let lists : leaders ≡ leaders' = sym (grown ∙ ap (λ (t : Bool). cond t (leaders ++ place ∷ []) leaders) (was ∙ ap is_none e)) in
        let held : list_any (bytes_eq base) (distinct_subjects subjects) ≡ true = ap (list_any (bytes_eq base)) (sym all.bases_are_distinct)
        ∙ not-not false (list_any (bytes_eq base) (map (base_subject_at entries) leaders)) (sym (ap is_none e) ∙ all.found_iff_present base) in
        let same : AreSubjectLeaders entries (subjects ++ base ∷ []) leaders get = record {
          bases_are_distinct = all.bases_are_distinct ∙ sym (distinct-last subjects base some ∙ ap (λ (t : Bool). distinct_subjects subjects ++ cond t [] (base ∷ [])) held ∙ append-nil
              (distinct_subjects subjects));
          none_for_empty_base = all.none_for_empty_base;
          found_iff_present = all.found_iff_present;
          leader_has_base = all.leader_has_base;
          are_leaders = all.are_leaders;
        } in
        subst (λ (x : (List ℕ → Option ℕ) × List ℕ). AreSubjectLeaders entries (subjects ++ base ∷ []) x.1 x.0) (λ i. (tables i, lists i)) same

pub tree_noted : (entries : List Entry) (trees : List Tree) (i : ℕ) (d : Tree) (place : ℕ) (leaders : List ℕ) (get : List ℕ → Option ℕ) → i < length trees
    → place ≡ tree_key_place entries (get_or trees i d)
    → AreSubjectLeaders entries (map (thread_subject entries) (take i trees) ++ base_subject_at entries place ∷ []) leaders get
    → AreSubjectLeaders entries (map (thread_subject entries) (take (i + 1) trees)) leaders get
tree_noted entries trees i d place leaders get h is =
    subst (λ (bs : List (List ℕ)). AreSubjectLeaders entries bs leaders get)
    (ap (λ (p : ℕ). map (thread_subject entries) (take i trees) ++ base_subject_at entries p ∷ []) is ∙ sym (map-append (thread_subject entries) (take i trees) (get_or trees i d ∷ []))
    ∙ ap (map (thread_subject entries)) (sym (take_more trees i d h)))

-- a tree goes to a leader where it has its subject
lead-is : (entries : List Entry) (get : List ℕ → Option ℕ) (p place : ℕ) → get [] ≡ None → ((base : List ℕ) (q : ℕ) → get base ≡ Some q → base_subject_at entries q ≡ base)
    → get (base_subject_at entries p) ≡ Some p
    → option_map_or (λ up. up == p) (leader_of_message entries get place) false ≡ bytes_eq (base_subject_at entries p) (base_subject_at entries place)
lead-is entries get p place empty same led =
    ap (λ (o : Option ℕ). option_map_or (λ up. up == p) o false) (by_entry (slice_get entries place)) ∙ by_test (bytes_eq (base_subject_at entries p) (base_subject_at entries place)) refl
    (get (base_subject_at entries place)) refl
  where
    by_entry : (o : Option Entry) → option_and_then (λ (entry : Entry). get entry.base) o ≡ get (option_map_or (λ (entry : Entry). entry.base) o [])
    by_entry None = sym empty
    by_entry (Some entry) = refl

    self : (q : ℕ) → (q == q) ≡ true
    self q = by_same (eqb_tells q q)
      where
        by_same : (((q == q) ≡ true) × (q ≡ q)) ⊎ (((q == q) ≡ false) × (q ≢ q)) → (q == q) ≡ true
        by_same (inl hit) = hit.0
        by_same (inr miss) = absurd (miss.1 refl)

    by_test : (t : Bool) → bytes_eq (base_subject_at entries p) (base_subject_at entries place) ≡ t → (o : Option ℕ) → get (base_subject_at entries place) ≡ o
        → option_map_or (λ up. up == p) o false ≡ t
    by_test true e None f = absurd (let x = bytes-same (base_subject_at entries p) (base_subject_at entries place) e in let bad : None ≡ Some p = sym f ∙ ap get (sym x) ∙ led in cc)
    by_test true e (Some q) f =
        let x = bytes-same (base_subject_at entries p) (base_subject_at entries place) e in
        let is : Some q ≡ Some p = sym f ∙ ap get (sym x) ∙ led in
        let at : q ≡ p = cc in
        ap (λ (n : ℕ). n == p) at ∙ self p
    by_test false e None f = refl
    by_test false e (Some q) f = by_same (eqb_tells q p)
      where
        by_same : (((q == p) ≡ true) × (q ≡ p)) ⊎ (((q == p) ≡ false) × (q ≢ p)) → (q == p) ≡ false
        by_same (inr miss) = miss.0
        by_same (inl hit) = absurd (
            let own : base_subject_at entries p ≡ base_subject_at entries place = ap (base_subject_at entries) (sym hit.1) ∙ same (base_subject_at entries place) q f in
            let bad : true ≡ false = sym (bytes-self (base_subject_at entries p) (base_subject_at entries place) own) ∙ e in cc)

-- the trees of the numbers that a leader has are those with the leader
picked-below : (trees : List Tree) (lead : Tree → Option ℕ) (p n : ℕ) → n ≤ length trees
    → trees_at_numbers trees (filter (λ child. option_map_or (λ up. up == p) ((containers_of_parents (map lead trees) 0).parent child) false) (numbers_below n)) ≡ filter
    (λ tree. option_map_or (λ up. up == p) (lead tree) false) (take n trees)
picked-below trees lead p zero h = refl
picked-below trees lead p (suc n) h =
    ap (trees_at_numbers trees) (filter-append mine (numbers_below n) (n ∷ []))
    ∙ flat_map-append (λ at. option_map_or (λ tree. tree ∷ []) (slice_get trees at) []) (filter mine (numbers_below n)) (filter mine (n ∷ []))
    ∙ (λ i. picked-below trees lead p n (omega (arith, h)) i ++ last i)
    ∙ sym (ap (filter (λ tree. option_map_or (λ up. up == p) (lead tree) false)) (ap (λ (k : ℕ). take k trees) (sym (add-one n)) ∙ take_more trees n (Message 0) less)
    ∙ filter-append (λ tree. option_map_or (λ up. up == p) (lead tree) false) (take n trees) (get_or trees n (Message 0) ∷ []))
  where
    mine : ℕ → Bool
    mine child = option_map_or (λ up. up == p) ((containers_of_parents (map lead trees) 0).parent child) false

    less : n < length trees
    less = omega (arith, h)

    tree : Tree
    tree = get_or trees n (Message 0)

    parent : (containers_of_parents (map lead trees) 0).parent n ≡ lead tree
    parent = ap (option_and_then (λ (o : Option ℕ). o)) (slice_get-get_or (map lead trees) n None (let long = length-map trees lead in omega (arith, h, long))
        ∙ ap (λ (o : Option ℕ). Some o) (get_or-map lead trees n (Message 0) None less))

    one : (t : Bool) → trees_at_numbers trees (cond t (n ∷ []) []) ≡ cond t (tree ∷ []) []
    one false = refl
    one true = rw (slice_get-get_or trees n (Message 0) less) refl

    last : trees_at_numbers trees (filter mine (n ∷ [])) ≡ filter (λ tree. option_map_or (λ up. up == p) (lead tree) false) (tree ∷ [])
    last = one (mine n) ∙ ap (λ (o : Option ℕ). cond (option_map_or (λ up. up == p) o false) (tree ∷ []) []) parent

filter-same : {X : Type 0} (s t : X → Bool) → ((x : X) → s x ≡ t x) → (xs : List X) → filter s xs ≡ filter t xs
filter-same s t e xs = ap (λ (q : _ → Bool). filter q xs) (λ i x. e x i)

-- the trees that a leader has are the group of its subject
group-listed : (entries : List Entry) (trees : List Tree) (get : List ℕ → Option ℕ) (leads : List (Option ℕ)) (lists : List (List ℕ)) (p : ℕ)
    → get [] ≡ None → ((base : List ℕ) (q : ℕ) → get base ≡ Some q → base_subject_at entries q ≡ base) → get (base_subject_at entries p) ≡ Some p
    → leads ≡ map (λ (tree : Tree). leader_of_message entries get (tree_key_place entries tree)) trees → TabulatesFunction (children (containers_of_parents leads 0)) lists
    → trees_at_numbers trees (get_or lists p []) ≡ trees_with_subject entries trees (base_subject_at entries p)
group-listed entries trees get leads lists p empty same led is below =
    ap (trees_at_numbers trees) (below.entry_is_value p ∙ ap (λ (os : List (Option ℕ)). children (containers_of_parents os 0) p) is)
    ∙ ap (λ (k : ℕ). trees_at_numbers trees (filter (λ child. option_map_or (λ up. up == p) ((containers_of_parents (map lead trees) 0).parent child) false) (numbers_below k))) (length-map trees lead)
    ∙ picked-below trees lead p (length trees) (omega arith)
    ∙ ap (filter (λ tree. option_map_or (λ up. up == p) (lead tree) false)) (take_all (length trees) trees (omega arith))
    ∙ filter-same (λ tree. option_map_or (λ up. up == p) (lead tree) false) (λ tree. bytes_eq (base_subject_at entries p) (thread_subject entries tree))
    (λ tree. lead-is entries get p (tree_key_place entries tree) empty same led) trees
  where
    lead : Tree → Option ℕ
    lead tree = leader_of_message entries get (tree_key_place entries tree)

-- so it is for each leader
pub groups_listed : {X : Type 0} (f : List Tree → List X) (entries : List Entry) (trees : List Tree) (get : List ℕ → Option ℕ) (leads : List (Option ℕ)) (lists : List (List ℕ)) (leaders : List ℕ)
    → get [] ≡ None → ((base : List ℕ) (q : ℕ) → get base ≡ Some q → base_subject_at entries q ≡ base) → TableHasLeaders entries get leaders
    → leads ≡ map (λ (tree : Tree). leader_of_message entries get (tree_key_place entries tree)) trees → TabulatesFunction (children (containers_of_parents leads 0)) lists
    → flat_map (λ leader. f (trees_at_numbers trees (get_or lists leader []))) leaders ≡ flat_map (λ leader. f (trees_with_subject entries trees (base_subject_at entries leader))) leaders
groups_listed f entries trees get leads lists [] empty same led is below = refl
groups_listed f entries trees get leads lists (p ∷ ps) empty same led is below =
    λ i. f (group-listed entries trees get leads lists p empty same led.0 is below i) ++ groups_listed f entries trees get leads lists ps empty same led.1 is below i

-- the tree of one number
pub picked_dummy : (trees : List Tree) (n : ℕ) (tree : Tree) → slice_get trees n ≡ Some tree → list_any is_dummy_tree (trees_at_numbers trees (n ∷ [])) ≡ is_dummy_tree tree
picked_dummy trees n tree e = ap (λ (o : Option Tree). list_any is_dummy_tree (option_map_or (λ t. t ∷ []) o [] ++ [])) e ∙ or-false (is_dummy_tree tree)

pub no_dummy : (trees : List Tree) (n : ℕ) (t : Bool) → slice_get trees n ≡ None → (t || list_any is_dummy_tree (trees_at_numbers trees (n ∷ []))) ≡ t
no_dummy trees n t e = ap (λ (o : Option Tree). t || list_any is_dummy_tree (option_map_or (λ t. t ∷ []) o [] ++ [])) e ∙ or-false t

pub picked_messages : (trees : List Tree) (n : ℕ) (tree : Tree) → slice_get trees n ≡ Some tree → flat_map messages_of_tree (trees_at_numbers trees (n ∷ [])) ≡ messages_of_tree tree
picked_messages trees n tree e = ap (λ (o : Option Tree). flat_map messages_of_tree (option_map_or (λ t. t ∷ []) o [] ++ [])) e ∙ append-nil (messages_of_tree tree)

pub no_messages : (trees : List Tree) (n : ℕ) → slice_get trees n ≡ None → flat_map messages_of_tree (trees_at_numbers trees (n ∷ [])) ≡ []
no_messages trees n e = ap (λ (o : Option Tree). flat_map messages_of_tree (option_map_or (λ t. t ∷ []) o [] ++ [])) e

picked-more : (trees : List Tree) (places : List ℕ) (i : ℕ) → i < length places → trees_at_numbers trees (take (i + 1) places) ≡ trees_at_numbers trees (take i places) ++ trees_at_numbers
    trees (get_or places i 0 ∷ [])
picked-more trees places i h =
    ap (trees_at_numbers trees) (take_more places i 0 h) ∙ flat_map-append (λ at. option_map_or (λ tree. tree ∷ []) (slice_get trees at) []) (take i places) (get_or places i 0 ∷ [])

-- the trees of one number more
pub dummies_more : (trees : List Tree) (places : List ℕ) (i : ℕ) → i < length places
    → list_any is_dummy_tree (trees_at_numbers trees (take (i + 1) places)) ≡ (list_any is_dummy_tree (trees_at_numbers trees (take i places)) || list_any is_dummy_tree
    (trees_at_numbers trees (get_or places i 0 ∷ [])))
dummies_more trees places i h = ap (list_any is_dummy_tree) (picked-more trees places i h) ∙ list_any-append is_dummy_tree (trees_at_numbers trees (take i places))
    (trees_at_numbers trees (get_or places i 0 ∷ []))

pub messages_more : (trees : List Tree) (places : List ℕ) (i : ℕ) → i < length places
    → flat_map messages_of_tree (trees_at_numbers trees (take (i + 1) places)) ≡ flat_map messages_of_tree (trees_at_numbers trees (take i places)) ++ flat_map messages_of_tree
    (trees_at_numbers trees (get_or places i 0 ∷ []))
messages_more trees places i h = ap (flat_map messages_of_tree) (picked-more trees places i h) ∙ flat_map-append messages_of_tree (trees_at_numbers trees (take i places))
    (trees_at_numbers trees (get_or places i 0 ∷ []))

-- the groups of one leader more
pub listed_trees : (entries : List Entry) (trees : List Tree) (lists : List (List ℕ)) (leaders : List ℕ) (i : ℕ) → i < length leaders
    → flat_map (λ leader. (merged_group entries (trees_at_numbers trees (get_or lists leader []))).trees) (take (i + 1) leaders)
    ≡ flat_map (λ leader. (merged_group entries (trees_at_numbers trees (get_or lists leader []))).trees) (take i leaders) ++
    (merged_group entries (trees_at_numbers trees (get_or lists (get_or leaders i 0) []))).trees
listed_trees entries trees lists leaders i h =
    rw (take_more leaders i 0 h) (flat_map-append (λ leader. (merged_group entries (trees_at_numbers trees (get_or lists leader []))).trees) (take i leaders) (get_or leaders i 0 ∷ [])
    ∙ ap (λ (ts : List Tree). flat_map (λ leader. (merged_group entries (trees_at_numbers trees (get_or lists leader []))).trees) (take i leaders) ++ ts) (append-nil _))

pub listed_links : (entries : List Entry) (trees : List Tree) (lists : List (List ℕ)) (leaders : List ℕ) (i : ℕ) → i < length leaders
    → flat_map (λ leader. (merged_group entries (trees_at_numbers trees (get_or lists leader []))).links) (take (i + 1) leaders)
    ≡ flat_map (λ leader. (merged_group entries (trees_at_numbers trees (get_or lists leader []))).links) (take i leaders) ++
    (merged_group entries (trees_at_numbers trees (get_or lists (get_or leaders i 0) []))).links
listed_links entries trees lists leaders i h =
    rw (take_more leaders i 0 h) (flat_map-append (λ leader. (merged_group entries (trees_at_numbers trees (get_or lists leader []))).links) (take i leaders) (get_or leaders i 0 ∷ [])
    ∙ ap (λ (ls : List Link). flat_map (λ leader. (merged_group entries (trees_at_numbers trees (get_or lists leader []))).links) (take i leaders) ++ ls) (append-nil _))

gathered-listed : {X : Type 0} (f : MergedThreads → List X) (entries : List Entry) (trees : List Tree) (leaders : List ℕ)
    → flat_map (λ leader. f (merged_group entries (trees_with_subject entries trees (base_subject_at entries leader)))) leaders ≡ flat_map f
    (map (merged_group entries) (map (trees_with_subject entries trees) (map (base_subject_at entries) leaders)))
gathered-listed f entries trees [] = refl
gathered-listed f entries trees (leader ∷ leaders) = ap (λ (xs : List _). f (merged_group entries (trees_with_subject entries trees (base_subject_at entries leader))) ++ xs)
    (gathered-listed f entries trees leaders)

-- the groups by the table are all
pub all_listed : {X : Type 0} (f : MergedThreads → List X) (entries : List Entry) (trees first second third : List Tree) (leaders places : List ℕ) (get : List ℕ → Option ℕ)
    (leads given : List (Option ℕ)) (lists read : List (List ℕ)) (got : List X)
    → first ≡ trees → AreSubjectLeaders entries (map (thread_subject entries) first) leaders get
    → second ≡ trees → leads ≡ map (λ (tree : Tree). leader_of_message entries get (tree_key_place entries tree)) second
    → given ≡ leads → TabulatesFunction (children (containers_of_parents given 0)) lists
    → third ≡ trees → places ≡ leaders → read ≡ lists
    → got ≡ flat_map (λ leader. f (merged_group entries (trees_at_numbers third (get_or read leader [])))) places
    → got ≡ flat_map f (map (merged_group entries) (subject_groups entries trees))
all_listed f entries trees first second third leaders places get leads given lists read got e all h is g below k m n was =
    was
    ∙ (λ i. flat_map (λ leader. f (merged_group entries (trees_at_numbers (k i) (get_or (n i) leader [])))) (m i))
    ∙ groups_listed (λ ts. f (merged_group entries ts)) entries trees get leads lists leaders all.none_for_empty_base all.leader_has_base all.are_leaders
    (is ∙ ap (map (λ (tree : Tree). leader_of_message entries get (tree_key_place entries tree))) h)
    (subst (λ (os : List (Option ℕ)). TabulatesFunction (children (containers_of_parents os 0)) lists) g below)
    ∙ gathered-listed f entries trees leaders
    ∙ ap (λ (bs : List (List ℕ)). flat_map f (map (merged_group entries) (map (trees_with_subject entries trees) bs)))
    (all.bases_are_distinct ∙ ap (λ (ts : List Tree). distinct_subjects (map (thread_subject entries) ts)) e)
