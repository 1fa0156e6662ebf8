-- Ids are numbered in one pass.
use Rattle.std.proofs.Common.{◌≡◌, ℕ, suc, ◌+◌, ◌<◌, Bool, true, false, not, cond, ◌&&◌, ◌||◌, ◌⊎◌, inl, inr, List, [], ◌∷◌, ◌++◌, length, take}
use Rattle.std.proofs.Common.{get_or, filter, map, is_none, Option, Some, None, refl, sym, ◌∙◌, ap, subst, arith, add-one, append_assoc, length-append}
use Rattle.std.specs.List.{list_any}
use Rattle.std.specs.Option.{option_map_or, unwrap_or}
use Rattle.std.proofs.lemmas.List.{append-nil, map-append, take_more}
use Rattle.std.proofs.lemmas.List.Elements.{filter-append}
use Rattle.std.proofs.lemmas.List.Folds.{list_any-append}
use Rattle.std.proofs.lemmas.Grind.{flat_map-append}
use Rattle.mail_core.specs.MsgIds.{MessageId}
use Rattle.thread_links.specs.Containers.{Container, real, dummy, is_dummy, same_id, has_id, owner}
use Rattle.thread_links.specs.Containers.{owner_from, distinct_ids, index_of, referenced_ids, dummy_ids, container_number, container_count, container_number_of_id}
use Rattle.thread_links.specs.Ids.{AreNumbered, place_of_container, dummy_ids_of_references, number_among_references, NumbersContainers}
use Rattle.thread_links.specs.Parts.{HaveContainerNumbers}
use Rattle.thread_links.specs.declared.entry.Entry.{Entry}
use Rattle.thread_links.proofs.NumberLemmas.{same_id-exact, same_id-self, any-filter, any-distinct, owner_is}

pub same_id-sym : (a b : MessageId) → same_id a b ≡ same_id b a
same_id-sym a b = by_tests (same_id a b) (same_id b a) refl refl
  where
    by_tests : (s t : Bool) → same_id a b ≡ s → same_id b a ≡ t → same_id a b ≡ same_id b a
    by_tests true true e f = e ∙ sym f
    by_tests false false e f = e ∙ sym f
    by_tests true false e f = let x = same_id-exact a b e in λ i. same_id (x i) (sym x i)
    by_tests false true e f = let x = same_id-exact b a f in λ i. same_id (sym x i) (x i)

-- at an id is written the number that it has, or a new one
pub id_put : (get get' : MessageId → Option ℕ) (r : MessageId) (held n : ℕ) → held ≡ unwrap_or (get r) n → ((o : MessageId) → get' o ≡ cond (same_id r o) (Some held) (get o))
    → (o : MessageId) → get' o ≡ cond (is_none (get r) && same_id r o) (Some n) (get o)
id_put get get' r held n is now o = now o ∙ by_tests (get r) refl (same_id r o) refl
  where
    by_tests : (h : Option ℕ) → get r ≡ h → (t : Bool) → same_id r o ≡ t → cond t (Some held) (get o) ≡ cond (is_none h && t) (Some n) (get o)
    by_tests None e true f = ap (λ (k : ℕ). Some k) (is ∙ ap (λ (h : Option ℕ). unwrap_or h n) e)
    by_tests (Some k) e true f = ap (λ (j : ℕ). Some j) (is ∙ ap (λ (h : Option ℕ). unwrap_or h n) e) ∙ sym e ∙ ap get (same_id-exact r o f)
    by_tests None e false f = refl
    by_tests (Some k) e false f = refl

-- numbers that were given stay
numbered_still : (get get' : MessageId → Option ℕ) (r : MessageId) (n : ℕ) → ((o : MessageId) → get' o ≡ cond (is_none (get r) && same_id r o) (Some n) (get o))
    → (id : MessageId) (k : ℕ) → get id ≡ Some k → get' id ≡ Some k
numbered_still get get' r n now id k some = now id ∙ by_tests (get r) refl (same_id r id) refl
  where
    by_tests : (h : Option ℕ) → get r ≡ h → (t : Bool) → same_id r id ≡ t → cond (is_none h && t) (Some n) (get id) ≡ Some k
    by_tests None e true f = absurd (let bad : None ≡ Some k = sym e ∙ ap get (same_id-exact r id f) ∙ some in cc)
    by_tests (Some j) e true f = some
    by_tests None e false f = some
    by_tests (Some j) e false f = some

all_still : (get get' : MessageId → Option ℕ) → ((id : MessageId) (k : ℕ) → get id ≡ Some k → get' id ≡ Some k) → (ids : List MessageId) (ns : List ℕ)
    → AreNumbered get ids ns → AreNumbered get' ids ns
all_still get get' still [] [] h = refl
all_still get get' still [] (n ∷ ns) h = absurd (let bad : [] ≡ Some n ∷ map (λ k. Some k) ns = h in cc)
all_still get get' still (id ∷ ids) [] h = absurd (let bad : get id ∷ map get ids ≡ [] = h in cc)
all_still get get' still (id ∷ ids) (n ∷ ns) h =
    let both : get id ∷ map get ids ≡ Some n ∷ map (λ k. Some k) ns = h in
    let one : get id ≡ Some n = cc in
    let more : map get ids ≡ map (λ k. Some k) ns = cc in
    λ i. still id n one i ∷ all_still get get' still ids ns more i

-- one number more
pub numbered_more : (get get' : MessageId → Option ℕ) (r : MessageId) (own n : ℕ) (ids : List MessageId) (ns : List ℕ) → own ≡ unwrap_or (get r) n
    → ((o : MessageId) → get' o ≡ cond (is_none (get r) && same_id r o) (Some n) (get o))
    → AreNumbered get ids ns → AreNumbered get' (ids ++ r ∷ []) (ns ++ own ∷ [])
numbered_more get get' r own n ids ns is now all =
    map-append get' ids (r ∷ [])
    ∙ (λ i. all_still get get' (numbered_still get get' r n now) ids ns all i ++ has i ∷ [])
    ∙ sym (map-append (λ k. Some k) ns (own ∷ []))
  where
    by_had : (h : Option ℕ) → get r ≡ h → cond (is_none h && true) (Some n) (get r) ≡ Some (unwrap_or h n)
    by_had None e = refl
    by_had (Some k) e = e

    has : get' r ≡ Some own
    has = now r ∙ ap (λ (t : Bool). cond (is_none (get r) && t) (Some n) (get r)) (same_id-self r) ∙ by_had (get r) refl ∙ ap (λ (k : ℕ). Some k) (sym is)

-- the owner among one message more
owner-last : (k : ℕ) (es : List Entry) (e : Entry) (id : MessageId) → place_of_container (owner_from k (es ++ e ∷ []) id) ≡ option_map_or (λ p. Some p) (place_of_container (owner_from k es id))
    (cond (has_id e id) (Some (k + length es)) None)
owner-last k [] e id = by_test (has_id e id)
  where
    by_test : (t : Bool) → place_of_container (cond t (real k) (dummy id)) ≡ cond t (Some (k + 0)) None
    by_test true = ap (λ (n : ℕ). Some n) (let z : k ≡ k + 0 = omega arith in z)
    by_test false = refl
owner-last k (x ∷ es) e id = by_test (has_id x id) (owner-last (k + 1) es e id)
  where
    by_test : (t : Bool) → place_of_container (owner_from (k + 1) (es ++ e ∷ []) id) ≡ option_map_or (λ p. Some p) (place_of_container (owner_from (k + 1) es id))
        (cond (has_id e id) (Some (k + 1 + length es)) None)
        → place_of_container (cond t (real k) (owner_from (k + 1) (es ++ e ∷ []) id)) ≡ option_map_or (λ p. Some p) (place_of_container (cond t (real k) (owner_from (k + 1) es id)))
        (cond (has_id e id) (Some (k + suc (length es))) None)
    by_test true later = refl
    by_test false later = later ∙ ap (λ (n : ℕ). option_map_or (λ p. Some p) (place_of_container (owner_from (k + 1) es id)) (cond (has_id e id) (Some n) None))
        (let z : k + 1 + length es ≡ k + suc (length es) = omega arith in z)

some_map : (o : Option ℕ) → option_map_or (λ p. Some p) o None ≡ o
some_map None = refl
some_map (Some p) = refl

-- a message without an id has none
pub message_without : (before : List Entry) (entry : Entry) (id : MessageId) → entry.id ≡ None → place_of_container (owner (before ++ entry ∷ []) id) ≡ place_of_container (owner before id)
message_without before entry id e = owner-last 0 before entry id ∙ rw e (some_map (place_of_container (owner before id)))

pub message_with : (before : List Entry) (entry : Entry) (own id : MessageId) (place : ℕ) (get get' : MessageId → Option ℕ) → length before ≡ place → entry.id ≡ Some own
    → ((o : MessageId) → get o ≡ place_of_container (owner before o))
    → ((o : MessageId) → get' o ≡ cond (is_none (get own) && same_id own o) (Some place) (get o))
    → get' id ≡ place_of_container (owner (before ++ entry ∷ []) id)
message_with before entry own id place get get' at e was now =
    now id
    ∙ (λ i. cond (is_none (was own i) && same_id-sym own id i) (Some place) (was id i))
    ∙ by_tests (same_id id own) refl (place_of_container (owner before own)) refl (place_of_container (owner before id)) refl
    ∙ sym (owner-last 0 before entry id ∙ rw e refl)
  where
    by_tests : (t : Bool) → same_id id own ≡ t → (p : Option ℕ) → place_of_container (owner before own) ≡ p → (q : Option ℕ) → place_of_container (owner before id) ≡ q
        → cond (is_none p && same_id id own) (Some place) q ≡ option_map_or (λ r. Some r) q (cond (same_id id own) (Some (0 + length before)) None)
    by_tests false t p a None b = rw (t, same_and p) refl
      where
        same_and : (o : Option ℕ) → (is_none o && false) ≡ false
        same_and None = refl
        same_and (Some x) = refl
    by_tests false t p a (Some q) b = rw (t, same_and p) refl
      where
        same_and : (o : Option ℕ) → (is_none o && false) ≡ false
        same_and None = refl
        same_and (Some x) = refl
    by_tests true t None a None b = rw t (ap (λ (n : ℕ). Some n) (sym at ∙ (let z : length before ≡ 0 + length before = omega arith in z)))
    by_tests true t None a (Some q) b = absurd (let x = same_id-exact id own t in let same : Some q ≡ None = sym b ∙ ap (λ (v : MessageId). place_of_container (owner before v)) x ∙ a in cc)
    by_tests true t (Some p) a None b = absurd (let x = same_id-exact id own t in let same : None ≡ Some p = sym b ∙ ap (λ (v : MessageId). place_of_container (owner before v)) x ∙ a in cc)
    by_tests true t (Some p) a (Some q) b = refl

-- an id more among those that are distinct
distinct-new : (ids : List MessageId) (r : MessageId) → list_any (same_id r) ids ≡ false → distinct_ids (ids ++ r ∷ []) ≡ distinct_ids ids ++ r ∷ []
distinct-new [] r h = refl
distinct-new (m ∷ ids) r h = by_test (same_id r m) refl h (λ k. distinct-new ids r k)
  where
    by_test : (t : Bool) → same_id r m ≡ t → (t || list_any (same_id r) ids) ≡ false → (list_any (same_id r) ids ≡ false → distinct_ids (ids ++ r ∷ []) ≡ distinct_ids ids ++ r ∷ [])
        → m ∷ filter (λ o. not (same_id m o)) (distinct_ids (ids ++ r ∷ [])) ≡ m ∷ filter (λ o. not (same_id m o)) (distinct_ids ids) ++ r ∷ []
    by_test true e k later = absurd (let bad : true ≡ false = k in cc)
    by_test false e k later =
        ap (λ (xs : List MessageId). m ∷ filter (λ o. not (same_id m o)) xs) (later k)
        ∙ ap (λ (xs : List MessageId). m ∷ xs) (filter-append (λ o. not (same_id m o)) (distinct_ids ids) (r ∷ []) ∙ rw (same_id-sym m r, e) refl)

distinct-old : (ids : List MessageId) (r : MessageId) → list_any (same_id r) ids ≡ true → distinct_ids (ids ++ r ∷ []) ≡ distinct_ids ids
distinct-old [] r h = absurd (let bad : false ≡ true = h in cc)
distinct-old (m ∷ ids) r h = by_tests (same_id r m) (list_any (same_id r) ids) refl refl h (λ k. distinct-old ids r k)
  where
    by_tests : (s t : Bool) → same_id r m ≡ s → list_any (same_id r) ids ≡ t → (s || t) ≡ true → (list_any (same_id r) ids ≡ true → distinct_ids (ids ++ r ∷ []) ≡ distinct_ids ids)
        → m ∷ filter (λ o. not (same_id m o)) (distinct_ids (ids ++ r ∷ [])) ≡ m ∷ filter (λ o. not (same_id m o)) (distinct_ids ids)
    by_tests s true e f k later = ap (λ (xs : List MessageId). m ∷ filter (λ o. not (same_id m o)) xs) (later f)
    by_tests true false e f k later =
        ap (λ (xs : List MessageId). m ∷ filter (λ o. not (same_id m o)) xs) (distinct-new ids r f)
        ∙ ap (λ (xs : List MessageId). m ∷ xs) (filter-append (λ o. not (same_id m o)) (distinct_ids ids) (r ∷ []) ∙ rw (same_id-sym m r, e) (append-nil _))
    by_tests false false e f k later = absurd (let bad : false ≡ true = k in cc)

either-none : (s t : Bool) → (s || t) ≡ true → s ≡ false → t ≡ true
either-none true t h e = absurd (let bad : true ≡ false = e in cc)
either-none false t h e = h

-- what is among those that pass a test is among all
any-less : (r : MessageId) (q : MessageId → Bool) (ids : List MessageId) → list_any (same_id r) (filter q ids) ≡ true → list_any (same_id r) ids ≡ true
any-less r q [] h = h
any-less r q (m ∷ ids) h = by_tests (same_id r m) (q m) refl refl h (λ k. any-less r q ids k)
  where
    by_tests : (s t : Bool) → same_id r m ≡ s → q m ≡ t → list_any (same_id r) (cond t (m ∷ filter q ids) (filter q ids)) ≡ true
        → (list_any (same_id r) (filter q ids) ≡ true → list_any (same_id r) ids ≡ true)
        → (s || list_any (same_id r) ids) ≡ true
    by_tests true t e f k later = refl
    by_tests false true e f k later = later (either-none (same_id r m) (list_any (same_id r) (filter q ids)) k e)
    by_tests false false e f k later = later k

any-distinct-less : (r : MessageId) (ids : List MessageId) → list_any (same_id r) (distinct_ids ids) ≡ true → list_any (same_id r) ids ≡ true
any-distinct-less r [] h = h
any-distinct-less r (m ∷ ids) h = by_test (same_id r m) h (λ k. any-distinct-less r ids (any-less r (λ o. not (same_id m o)) (distinct_ids ids) k))
  where
    by_test : (s : Bool) → (s || list_any (same_id r) (filter (λ o. not (same_id m o)) (distinct_ids ids))) ≡ true
        → (list_any (same_id r) (filter (λ o. not (same_id m o)) (distinct_ids ids)) ≡ true → list_any (same_id r) ids ≡ true)
        → (s || list_any (same_id r) ids) ≡ true
    by_test true k later = refl
    by_test false k later = later k

-- an id that has a number is no new dummy
dummies-owned : (entries : List Entry) (refs : List MessageId) (r : MessageId) → is_dummy (owner entries r) ≡ false
    → dummy_ids_of_references entries (refs ++ r ∷ []) ≡ dummy_ids_of_references entries refs
dummies-owned entries refs r h = by_test (list_any (same_id r) refs) refl
  where
    by_test : (t : Bool) → list_any (same_id r) refs ≡ t → dummy_ids_of_references entries (refs ++ r ∷ []) ≡ dummy_ids_of_references entries refs
    by_test true e = ap (filter (λ id. is_dummy (owner entries id))) (distinct-old refs r e)
    by_test false e =
        ap (filter (λ id. is_dummy (owner entries id))) (distinct-new refs r e) ∙ filter-append (λ id. is_dummy (owner entries id)) (distinct_ids refs) (r ∷ []) ∙ rw h (append-nil _)

dummies-known : (entries : List Entry) (refs : List MessageId) (r : MessageId) → list_any (same_id r) (dummy_ids_of_references entries refs) ≡ true
    → dummy_ids_of_references entries (refs ++ r ∷ []) ≡ dummy_ids_of_references entries refs
dummies-known entries refs r h =
    ap (filter (λ id. is_dummy (owner entries id))) (distinct-old refs r (any-distinct-less r refs (any-less r (λ id. is_dummy (owner entries id)) (distinct_ids refs) h)))

dummies-new : (entries : List Entry) (refs : List MessageId) (r : MessageId) → is_dummy (owner entries r) ≡ true → list_any (same_id r) (dummy_ids_of_references entries refs) ≡ false
    → dummy_ids_of_references entries (refs ++ r ∷ []) ≡ dummy_ids_of_references entries refs ++ r ∷ []
dummies-new entries refs r unowned h = by_test (list_any (same_id r) refs) refl
  where
    by_test : (t : Bool) → list_any (same_id r) refs ≡ t → dummy_ids_of_references entries (refs ++ r ∷ []) ≡ dummy_ids_of_references entries refs ++ r ∷ []
    by_test true e = absurd (let bad : true ≡ false = sym (any-filter r (λ id. is_dummy (owner entries id)) (distinct_ids refs) unowned (any-distinct r refs e)) ∙ h in cc)
    by_test false e =
        ap (filter (λ id. is_dummy (owner entries id))) (distinct-new refs r e) ∙ filter-append (λ id. is_dummy (owner entries id)) (distinct_ids refs) (r ∷ []) ∙ rw unowned refl

index-old : (ids : List MessageId) (r o : MessageId) → list_any (same_id o) ids ≡ true → index_of (ids ++ r ∷ []) o ≡ index_of ids o
index-old [] r o h = absurd (let bad : false ≡ true = h in cc)
index-old (m ∷ ids) r o h = by_test (same_id o m) h (λ k. index-old ids r o k)
  where
    by_test : (t : Bool) → (t || list_any (same_id o) ids) ≡ true → (list_any (same_id o) ids ≡ true → index_of (ids ++ r ∷ []) o ≡ index_of ids o)
        → cond t 0 (index_of (ids ++ r ∷ []) o + 1) ≡ cond t 0 (index_of ids o + 1)
    by_test true k later = refl
    by_test false k later = ap (λ (n : ℕ). n + 1) (later k)

index-new : (ids : List MessageId) (r o : MessageId) → list_any (same_id o) ids ≡ false → same_id o r ≡ true → index_of (ids ++ r ∷ []) o ≡ length ids
index-new [] r o h e = rw e refl
index-new (m ∷ ids) r o h e = by_test (same_id o m) h (λ k. index-new ids r o k e)
  where
    by_test : (t : Bool) → (t || list_any (same_id o) ids) ≡ false → (list_any (same_id o) ids ≡ false → index_of (ids ++ r ∷ []) o ≡ length ids)
        → cond t 0 (index_of (ids ++ r ∷ []) o + 1) ≡ suc (length ids)
    by_test true k later = absurd (let bad : true ≡ false = k in cc)
    by_test false k later = ap (λ (n : ℕ). n + 1) (later k) ∙ add-one (length ids)

unowned : (entries : List Entry) (r : MessageId) → place_of_container (owner entries r) ≡ None → is_dummy (owner entries r) ≡ true
unowned entries r e = by_owner (owner entries r) e
  where
    by_owner : (c : Container) → place_of_container c ≡ None → is_dummy c ≡ true
    by_owner (real p) h = absurd (let bad : Some p ≡ None = h in cc)
    by_owner (dummy id) h = refl

owned : (entries : List Entry) (r : MessageId) (p : ℕ) → place_of_container (owner entries r) ≡ Some p → is_dummy (owner entries r) ≡ false
owned entries r p e = by_owner (owner entries r) e
  where
    by_owner : (c : Container) → place_of_container c ≡ Some p → is_dummy c ≡ false
    by_owner (real q) h = refl
    by_owner (dummy id) h = absurd (let none : Option ℕ = None in let bad : none ≡ Some p = h in cc)

-- the numbers that a new id gives
number-new : (entries : List Entry) (refs : List MessageId) (r o : MessageId) → place_of_container (owner entries r) ≡ None → list_any (same_id r) (dummy_ids_of_references entries refs) ≡ false
    → cond (same_id r o) (Some (length entries + length (dummy_ids_of_references entries refs))) (number_among_references entries refs o) ≡ number_among_references entries (refs ++ r ∷ []) o
number-new entries refs r o none h =
    rw (dummies-new entries refs r (unowned entries r none) h) (by_test (same_id o r) refl)
  where
    old : List MessageId
    old = dummy_ids_of_references entries refs

    split : list_any (same_id o) (dummy_ids_of_references entries refs ++ r ∷ []) ≡ (list_any (same_id o) (dummy_ids_of_references entries refs) || (same_id o r || false))
    split = list_any-append (same_id o) (dummy_ids_of_references entries refs) (r ∷ [])

    by_test : (t : Bool) → same_id o r ≡ t
        → cond (same_id r o) (Some (length entries + length (dummy_ids_of_references entries refs))) (number_among_references entries refs o)
        ≡ option_map_or (λ p. Some p) (place_of_container (owner entries o)) (cond (list_any (same_id o) (dummy_ids_of_references entries refs ++ r ∷ []))
        (Some (length entries + index_of (dummy_ids_of_references entries refs ++ r ∷ []) o)) None)
    by_test true e =
        let x : o ≡ r = same_id-exact o r e in
        let lone : place_of_container (owner entries o) ≡ None = ap (λ (v : MessageId). place_of_container (owner entries v)) x ∙ none in
        let away : list_any (same_id o) (dummy_ids_of_references entries refs) ≡ false = ap (λ (v : MessageId). list_any (same_id v) (dummy_ids_of_references entries refs)) x ∙ h in
        rw (same_id-sym r o, e, lone, split, away, e, index-new (dummy_ids_of_references entries refs) r o away e) refl
    by_test false e = rw (same_id-sym r o, e, split, e) (by_any (list_any (same_id o) (dummy_ids_of_references entries refs)) refl)
      where
        by_any : (u : Bool) → list_any (same_id o) (dummy_ids_of_references entries refs) ≡ u
            → option_map_or (λ p. Some p) (place_of_container (owner entries o)) (cond u (Some (length entries + index_of (dummy_ids_of_references entries refs) o)) None)
            ≡ option_map_or (λ p. Some p) (place_of_container (owner entries o)) (cond (u || false) (Some (length entries + index_of (dummy_ids_of_references entries refs ++ r ∷ []) o)) None)
        by_any true k = ap (λ (n : ℕ). option_map_or (λ p. Some p) (place_of_container (owner entries o)) (Some (length entries + n))) (sym (index-old (dummy_ids_of_references entries refs) r o k))
        by_any false k = refl

-- whether an id has a number, by cases
number-cases : (entries : List Entry) (refs : List MessageId) (r : MessageId)
    → ((number_among_references entries refs r ≡ None) × (place_of_container (owner entries r) ≡ None) × (list_any (same_id r) (dummy_ids_of_references entries refs) ≡ false))
    ⊎ ((is_none (number_among_references entries refs r) ≡ false) × (dummy_ids_of_references entries (refs ++ r ∷ []) ≡ dummy_ids_of_references entries refs))
number-cases entries refs r = by_cases (place_of_container (owner entries r)) refl (list_any (same_id r) (dummy_ids_of_references entries refs)) refl
  where
    by_cases : (o : Option ℕ) → place_of_container (owner entries r) ≡ o → (t : Bool) → list_any (same_id r) (dummy_ids_of_references entries refs) ≡ t
        → ((option_map_or (λ p. Some p) o (cond t (Some (length entries + index_of (dummy_ids_of_references entries refs) r)) None) ≡ None) × (o ≡ None) × (t ≡ false))
        ⊎ ((is_none (option_map_or (λ p. Some p) o (cond t (Some (length entries + index_of (dummy_ids_of_references entries refs) r)) None)) ≡ false)
        × (dummy_ids_of_references entries (refs ++ r ∷ []) ≡ dummy_ids_of_references entries refs))
    by_cases (Some p) e t f = inr (refl, dummies-owned entries refs r (owned entries r p e))
    by_cases None e true f = inr (refl, dummies-known entries refs r f)
    by_cases None e false f = inl (refl, refl, refl)

-- one reference more
pub noted_more : (entries : List Entry) (refs : List MessageId) (r : MessageId) (added : Bool) (count next : ℕ) (get get' : MessageId → Option ℕ) → NumbersContainers entries refs count get
    → added ≡ is_none (get r) → ((o : MessageId) → get' o ≡ cond (is_none (get r) && same_id r o) (Some count) (get o)) → next ≡ cond added (count + 1) count
    → NumbersContainers entries (refs ++ r ∷ []) next get'
noted_more entries refs r added count next get get' noted was now counts =
    by_cases (number-cases entries refs r)
  where
    found : is_none (get r) ≡ is_none (number_among_references entries refs r)
    found = ap is_none (noted.number_is r)

    by_cases : ((number_among_references entries refs r ≡ None) × (place_of_container (owner entries r) ≡ None) × (list_any (same_id r) (dummy_ids_of_references entries refs) ≡ false))
        ⊎ ((is_none (number_among_references entries refs r) ≡ false) × (dummy_ids_of_references entries (refs ++ r ∷ []) ≡ dummy_ids_of_references entries refs))
        → NumbersContainers entries (refs ++ r ∷ []) next get'
    by_cases (inl new) =
        let none : is_none (get r) ≡ true = found ∙ ap is_none new.0 in
        let more = dummies-new entries refs r (unowned entries r new.1) new.2 in
        let one : length (dummy_ids_of_references entries (refs ++ r ∷ [])) ≡ length (dummy_ids_of_references entries refs) + 1 = ap length more ∙ length-append
        (dummy_ids_of_references entries refs) (r ∷ []) in
        let up : next ≡ count + 1 = counts ∙ ap (λ (t : Bool). cond t (count + 1) count) (was ∙ none) in
        let at = noted.count_is_total in
        record {
          count_is_total = omega (arith, one, up, at);
          number_is = λ o. now o ∙ ap (λ (t : Bool). cond (t && same_id r o) (Some count) (get o)) none
              ∙ (λ i. cond (same_id r o) (Some (noted.count_is_total i)) (noted.number_is o i)) ∙ number-new entries refs r o new.1 new.2;
        }
    by_cases (inr old) =
        let some : is_none (get r) ≡ false = found ∙ old.0 in
        let same : next ≡ count = counts ∙ ap (λ (t : Bool). cond t (count + 1) count) (was ∙ some) in
        record {
          count_is_total = same ∙ noted.count_is_total ∙ ap (λ (xs : List MessageId). length entries + length xs) (sym old.1);
          number_is = λ o. now o ∙ ap (λ (t : Bool). cond (t && same_id r o) (Some count) (get o)) some ∙ noted.number_is o
              ∙ ap (λ (xs : List MessageId). option_map_or (λ p. Some p) (place_of_container (owner entries o)) (cond (list_any (same_id o) xs) (Some (length entries + index_of xs o)) None))
              (sym old.1);
        }

pub noted_none : (entries : List Entry) (get : MessageId → Option ℕ) → ((id : MessageId) → get id ≡ place_of_container (owner entries id)) → NumbersContainers entries [] (length entries) get
noted_none entries get was = record {
  count_is_total = (let z : length entries ≡ length entries + 0 = omega arith in z);
  number_is = λ id. was id ∙ sym
      (some_map (place_of_container (owner entries id)));
}

index-least : (ids : List MessageId) (id : MessageId) → index_of ids id < length ids → list_any (same_id id) ids ≡ true
index-least [] id h = absurd (let bad : 0 < 0 = h in omega (arith, bad))
index-least (m ∷ ids) id h = by_test (same_id id m) h (λ k. index-least ids id k)
  where
    by_test : (t : Bool) → cond t 0 (index_of ids id + 1) < suc (length ids) → (index_of ids id < length ids → list_any (same_id id) ids ≡ true) → (t || list_any (same_id id) ids) ≡ true
    by_test true k later = refl
    by_test false k later = later (omega (arith, k))

-- an id with a number below the count has it
pub number_is : (entries : List Entry) (id : MessageId) → container_number_of_id entries id < container_count entries
    → number_among_references entries (referenced_ids entries) id ≡ Some (container_number_of_id entries id)
number_is entries id h = by_owner (owner_is 0 entries id)
  where
    shape : Container → Bool → Option ℕ
    shape c t = option_map_or (λ p. Some p) (place_of_container c) (cond t (Some (length entries + index_of (dummy_ids entries) id)) None)

    by_owner : ((p : ℕ) × (owner entries id ≡ real p) × (p < 0 + length entries)) ⊎ (owner entries id ≡ dummy id)
        → number_among_references entries (referenced_ids entries) id ≡ Some (container_number_of_id entries id)
    by_owner (inl found) = ap (λ (c : Container). shape c (list_any (same_id id) (dummy_ids entries))) found.1 ∙ sym (ap (λ (c : Container). Some (container_number entries c)) found.1)
    by_owner (inr none) =
        let k : length entries + index_of (dummy_ids entries) id < container_count entries = subst (λ (c : Container). container_number entries c < container_count entries) none h in
        let held = index-least (dummy_ids entries) id (omega (arith, k)) in
        (λ i. shape (none i) (held i)) ∙ sym (ap (λ (c : Container). Some (container_number entries c)) none)

pub number_found : (entries : List Entry) (id : MessageId) (count n : ℕ) (get : MessageId → Option ℕ) → NumbersContainers entries (referenced_ids entries) count get
    → container_number_of_id entries id < container_count entries
    → get id ≡ Some n → n ≡ container_number_of_id entries id
number_found entries id count n get noted h e = let same : Some n ≡ Some (container_number_of_id entries id) = sym e ∙ noted.number_is id ∙ number_is entries id h in cc

-- what is noted for mentioned ids is the numbers of their containers
pub numbers_found : (entries : List Entry) (count : ℕ) (get : MessageId → Option ℕ) (ids : List MessageId) (ns : List ℕ) → NumbersContainers entries (referenced_ids entries) count get
    → HaveContainerNumbers entries ids → AreNumbered get ids ns → ns ≡ map (container_number_of_id entries) ids
numbers_found entries count get [] [] noted all h = refl
numbers_found entries count get [] (n ∷ ns) noted all h = absurd (let bad : [] ≡ Some n ∷ map (λ k. Some k) ns = h in cc)
numbers_found entries count get (id ∷ ids) [] noted all h = absurd (let bad : get id ∷ map get ids ≡ [] = h in cc)
numbers_found entries count get (id ∷ ids) (n ∷ ns) noted all h =
    let both : get id ∷ map get ids ≡ Some n ∷ map (λ k. Some k) ns = h in
    let one : get id ≡ Some n = cc in
    let more : map get ids ≡ map (λ k. Some k) ns = cc in
    λ i. number_found entries id count n get noted all.0 one i ∷ numbers_found entries count get ids ns noted all.1 more i

pub ids_noted : (entries : List Entry) (refs ids : List MessageId) (i : ℕ) (d : MessageId) (count : ℕ) (get : MessageId → Option ℕ) → i < length ids → NumbersContainers entries
    ((refs ++ take i ids) ++ get_or ids i d ∷ []) count get
    → NumbersContainers entries (refs ++ take (i + 1) ids) count get
ids_noted entries refs ids i d count get h =
    subst (λ (rs : List MessageId). NumbersContainers entries rs count get) (append_assoc refs (take i ids) (get_or ids i d ∷ []) ∙ ap (λ (xs : List MessageId). refs ++ xs)
    (sym (take_more ids i d h)))

pub entry_noted : (entries : List Entry) (i : ℕ) (d : Entry) (refs : List MessageId) (count : ℕ) (get : MessageId → Option ℕ) → i < length entries → refs ≡ (get_or entries i d).refs
    → NumbersContainers entries (referenced_ids (take i entries) ++ refs) count get → NumbersContainers entries (referenced_ids (take (i + 1) entries)) count get
entry_noted entries i d refs count get h is =
    subst (λ (rs : List MessageId). NumbersContainers entries rs count get)
    (ap (λ (rs : List MessageId). referenced_ids (take i entries) ++ rs) (is ∙ sym (append-nil (get_or entries i d).refs))
    ∙ sym (flat_map-append (λ (entry : Entry). entry.refs) (take i entries) (get_or entries i d ∷ [])) ∙ ap referenced_ids (sym (take_more entries i d h)))

-- one of some ids more
pub noted_at : (entries : List Entry) (refs ids : List MessageId) (at : ℕ) (id : MessageId) (count : ℕ) (get : MessageId → Option ℕ) → at < length ids
    → ((other : MessageId) → id ≡ get_or ids at other)
    → NumbersContainers entries ((refs ++ take at ids) ++ id ∷ []) count get → NumbersContainers entries (refs ++ take (at + 1) ids) count get
noted_at entries refs ids at id count get lt is noted =
    subst (λ (all : List MessageId). NumbersContainers entries all count get)
    (append_assoc refs (take at ids) (id ∷ []) ∙ ap (λ (some : List MessageId). refs ++ some) ((λ i. take at ids ++ is id i ∷ []) ∙ sym (take_more ids at id lt))) noted

-- the same of the numbers of some ids
pub numbered_at_id : (get : MessageId → Option ℕ) (refs ids : List MessageId) (at : ℕ) (id : MessageId) (ns : List ℕ) → at < length ids → ((other : MessageId) → id ≡ get_or ids at other)
    → AreNumbered get ((refs ++ take at ids) ++ id ∷ []) ns → AreNumbered get (refs ++ take (at + 1) ids) ns
numbered_at_id get refs ids at id ns lt is all =
    subst (λ (some : List MessageId). AreNumbered get some ns)
    (append_assoc refs (take at ids) (id ∷ []) ∙ ap (λ (some : List MessageId). refs ++ some) ((λ i. take at ids ++ is id i ∷ []) ∙ sym (take_more ids at id lt))) all

pub numbered_entry : (entries : List Entry) (i : ℕ) (d : Entry) (refs : List MessageId) (get : MessageId → Option ℕ) (ns : List ℕ) → i < length entries → refs ≡ (get_or entries i d).refs
    → AreNumbered get (referenced_ids (take i entries) ++ refs) ns → AreNumbered get (referenced_ids (take (i + 1) entries)) ns
numbered_entry entries i d refs get ns h is =
    subst (λ (rs : List MessageId). AreNumbered get rs ns)
    (ap (λ (rs : List MessageId). referenced_ids (take i entries) ++ rs) (is ∙ sym (append-nil (get_or entries i d).refs))
    ∙ sym (flat_map-append (λ (entry : Entry). entry.refs) (take i entries) (get_or entries i d ∷ [])) ∙ ap referenced_ids (sym (take_more entries i d h)))
