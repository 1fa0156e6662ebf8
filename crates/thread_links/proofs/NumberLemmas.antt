-- The numbers of containers.
use Rattle.std.proofs.Common.{◌≡◌, ℕ, suc, ◌+◌, ◌-◌, ◌<◌, ◌≤◌, Bool, true, false, not, cond, ◌&&◌, ◌||◌, ◌⊎◌, inl, inr, List, []}
use Rattle.std.proofs.Common.{◌∷◌, ◌++◌, length, take, drop, get_or, filter, refl, sym, ◌∙◌, ap, subst, arith}
use Rattle.std.specs.List.{list_any}
use Rattle.std.specs.Str.{bytes_eq}
use Rattle.std.specs.Cmp.Lexicographic.{bytes_decides}
use Rattle.std.proofs.Math.Seq.{drop-length}
use Rattle.std.proofs.lemmas.List.{drop_more}
use Rattle.mail_core.specs.MsgIds.{MessageId}
use Rattle.thread_links.specs.Containers.{same_id}
use Rattle.thread_links.specs.Containers.{real, dummy, has_id, owner, owner_from, is_dummy}
use Rattle.thread_links.specs.Containers.{distinct_ids, index_of, referenced_ids, dummy_ids, container_number, container_count, container_number_of_id}
use Rattle.std.proofs.Common.{append_assoc, fold}
use Rattle.std.proofs.lemmas.Grind.{flat_map-append}
use Rattle.std.proofs.lemmas.List.{append-nil, take-append-drop}
use Rattle.thread_links.specs.Links.{Link, links_after_request, LinkRequest, id_link_requests, link_requests_from, link_request_of_message}
use Rattle.thread_links.specs.Parts.{HaveContainerNumbers, distinct_ids_before}
use Rattle.thread_links.specs.declared.entry.Entry.{Entry}

pub owner_more : (entries : List Entry) (id : MessageId) (i : ℕ) (d : Entry) → i < length entries
    → owner_from i (drop i entries) id ≡ cond (has_id (get_or entries i d) id) (real i) (owner_from (i + 1) (drop (i + 1) entries) id)
owner_more entries id i d h = rw (drop_more entries i d h) refl

pub owner_end : (entries : List Entry) (id : MessageId) → owner_from (length entries) (drop (length entries) entries) id ≡ dummy id
owner_end entries id = rw (drop-length entries) refl

pub index_more : (ids : List MessageId) (id : MessageId) (i : ℕ) (d : MessageId) → i < length ids
    → i + index_of (drop i ids) id ≡ cond (same_id id (get_or ids i d)) i (i + 1 + index_of (drop (i + 1) ids) id)
index_more ids id i d h = rw (drop_more ids i d h) (by_test (same_id id (get_or ids i d)))
  where
    by_test : (t : Bool) → i + cond t 0 (index_of (drop (i + 1) ids) id + 1) ≡ cond t i (i + 1 + index_of (drop (i + 1) ids) id)
    by_test true = omega arith
    by_test false = omega arith

pub index_end : (ids : List MessageId) (id : MessageId) → length ids + index_of (drop (length ids) ids) id ≡ length ids
index_end ids id = rw (drop-length ids) (omega arith)

both : (s t : Bool) → (s && t) ≡ true → (s ≡ true) × (t ≡ true)
both true t h = (refl, h)
both false t h = absurd (let bad : false ≡ true = h in cc)

-- ids that test as the same are the same
pub same_id-exact : (a b : MessageId) → same_id a b ≡ true → a ≡ b
same_id-exact a b h =
    let parts = both (bytes_eq a.left b.left) (bytes_eq a.right b.right) h in
    let left : a.left ≡ b.left = (bytes_decides a.left b.left).0 parts.0 in
    let right : a.right ≡ b.right = (bytes_decides a.right b.right).0 parts.1 in
    λ i. record { left = left i; right = right i }

pub owner_is : (place : ℕ) (entries : List Entry) (id : MessageId) → ((p : ℕ) × (owner_from place entries id ≡ real p) × (p < place + length entries)) ⊎ (owner_from place entries id ≡ dummy id)
owner_is place [] id = inr refl
owner_is place (entry ∷ entries) id = by_test (has_id entry id) (owner_is (place + 1) entries id)
  where
    by_test : (t : Bool) → ((p : ℕ) × (owner_from (place + 1) entries id ≡ real p) × (p < place + 1 + length entries)) ⊎ (owner_from (place + 1) entries id ≡ dummy id)
        → ((p : ℕ) × (cond t (real place) (owner_from (place + 1) entries id) ≡ real p) × (p < place + suc (length entries))) ⊎ (cond t (real place) (owner_from (place + 1) entries id) ≡ dummy id)
    by_test true later = inl (place, refl, omega arith)
    by_test false (inl found) = inl (found.0, found.1, (let h = found.2 in omega (arith, h)))
    by_test false (inr none) = inr none

index-below : (ids : List MessageId) (id : MessageId) → list_any (same_id id) ids ≡ true → index_of ids id < length ids
index-below [] id h = absurd (let bad : false ≡ true = h in cc)
index-below (other ∷ ids) id h = by_test (same_id id other) h (λ k. index-below ids id k)
  where
    by_test : (t : Bool) → (t || list_any (same_id id) ids) ≡ true → (list_any (same_id id) ids ≡ true → index_of ids id < length ids) → cond t 0 (index_of ids id + 1) < suc (length ids)
    by_test true k later = omega arith
    by_test false k later = let lt = later k in omega (arith, lt)

pub any-filter : (id : MessageId) (q : MessageId → Bool) (ids : List MessageId) → q id ≡ true → list_any (same_id id) ids ≡ true → list_any (same_id id) (filter q ids) ≡ true
any-filter id q [] keeps h = h
any-filter id q (other ∷ ids) keeps h = by_tests (same_id id other) (q other) refl refl h (λ k. any-filter id q ids keeps k)
  where
    by_tests : (s t : Bool) → same_id id other ≡ s → q other ≡ t → (s || list_any (same_id id) ids) ≡ true → (list_any (same_id id) ids ≡ true → list_any (same_id id) (filter q ids) ≡ true)
        → list_any (same_id id) (cond t (other ∷ filter q ids) (filter q ids)) ≡ true
    by_tests true true a b k later = rw a refl
    by_tests true false a b k later = absurd (let same = same_id-exact id other a in let bad : q other ≡ true = subst (λ (v : MessageId). q v ≡ true) same keeps in let no' : true ≡ false =
        sym bad ∙ b in cc)
    by_tests false true a b k later = rw a (later k)
    by_tests false false a b k later = later k

pub any-distinct : (id : MessageId) (ids : List MessageId) → list_any (same_id id) ids ≡ true → list_any (same_id id) (distinct_ids ids) ≡ true
any-distinct id [] h = h
any-distinct id (other ∷ ids) h = by_test (same_id id other) refl h (λ k. any-distinct id ids k)
  where
    apart : (t : Bool) → same_id other id ≡ t → same_id id other ≡ false → not t ≡ true
    apart false e other_way = refl
    apart true e other_way = absurd (
        let same = same_id-exact other id e in
        let self : same_id id id ≡ true = subst (λ (v : MessageId). same_id v id ≡ true) same e in
        let back : same_id id other ≡ true = subst (λ (v : MessageId). same_id id v ≡ true) (sym same) self in
        let bad : true ≡ false = sym back ∙ other_way in cc)

    by_test : (s : Bool) → same_id id other ≡ s → (s || list_any (same_id id) ids) ≡ true → (list_any (same_id id) ids ≡ true → list_any (same_id id) (distinct_ids ids) ≡ true)
        → list_any (same_id id) (other ∷ filter (λ o. not (same_id other o)) (distinct_ids ids)) ≡ true
    by_test true a k later = rw a refl
    by_test false a k later = rw a (any-filter id (λ o. not (same_id other o)) (distinct_ids ids) (apart (same_id other id) refl a) (later k))

-- the number of a mentioned id is below the count
pub number_of_id-below : (entries : List Entry) (id : MessageId) → list_any (same_id id) (referenced_ids entries) ≡ true → container_number_of_id entries id < container_count entries
number_of_id-below entries id h = by_owner (owner_is 0 entries id)
  where
    by_owner : ((p : ℕ) × (owner entries id ≡ real p) × (p < 0 + length entries)) ⊎ (owner entries id ≡ dummy id)
        → container_number entries (owner entries id) < length entries + length (dummy_ids entries)
    by_owner (inl found) = let lt = found.2 in rw found.1 (omega (arith, lt))
    by_owner (inr none) =
        let unowned : is_dummy (owner entries id) ≡ true = ap is_dummy none in
        let lt = index-below (dummy_ids entries) id (any-filter id (λ o. is_dummy (owner entries o)) (distinct_ids (referenced_ids entries)) unowned (any-distinct id (referenced_ids entries) h)) in
        rw none (omega (arith, lt))

pub distinct_append : (ids others : List MessageId) → distinct_ids (ids ++ others) ≡ distinct_ids_before ids (distinct_ids others)
distinct_append [] others = refl
distinct_append (id ∷ ids) others = ap (λ (later : List MessageId). id ∷ filter (λ other. not (same_id id other)) later) (distinct_append ids others)

pub onto_more : (ids others : List MessageId) (i : ℕ) (d : MessageId) → i < length ids
    → distinct_ids_before (drop i ids) others ≡ get_or ids i d ∷ filter (λ other. not (same_id (get_or ids i d) other)) (distinct_ids_before (drop (i + 1) ids) others)
onto_more ids others i d h = rw (drop_more ids i d h) refl

pub mentioned_more : (entries : List Entry) (i : ℕ) (d : Entry) → i < length entries
    → distinct_ids (referenced_ids (drop i entries)) ≡ distinct_ids_before (get_or entries i d).refs (distinct_ids (referenced_ids (drop (i + 1) entries)))
mentioned_more entries i d h = rw (drop_more entries i d h) (distinct_append (get_or entries i d).refs (referenced_ids (drop (i + 1) entries)))

pub onto_step : (ids others old new : List MessageId) (left : ℕ) (d : MessageId) → 0 < left → left ≤ length ids → d ≡ get_or ids (left - 1) d → old ≡ distinct_ids_before (drop left ids) others
    → new ≡ d ∷ filter (λ other. not (same_id d other)) old → new ≡ distinct_ids_before (drop (left - 1) ids) others
onto_step ids others old new left d some within item before is =
    let less : left - 1 < length ids = omega arith in
    let next : left - 1 + 1 ≡ left = omega arith in
    let step = onto_more ids others (left - 1) d less in
    is
    ∙ ap (λ (later : List MessageId). d ∷ filter (λ other. not (same_id d other)) later) (before ∙ ap (λ (k : ℕ). distinct_ids_before (drop k ids) others) (sym next))
    ∙ ap (λ (v : MessageId). v ∷ filter (λ other. not (same_id v other)) (distinct_ids_before (drop (left - 1 + 1) ids) others)) item
    ∙ sym step

pub same_id-self : (a : MessageId) → same_id a a ≡ true
same_id-self a = let l = (bytes_decides a.left a.left).1 refl in let r = (bytes_decides a.right a.right).1 refl in rw (l, r) refl

any-middle : (id : MessageId) (before after : List MessageId) → list_any (same_id id) (before ++ id ∷ after) ≡ true
any-middle id [] after = rw (same_id-self id) refl
any-middle id (other ∷ before) after = by_test (same_id id other) (any-middle id before after)
  where
    by_test : (t : Bool) → list_any (same_id id) (before ++ id ∷ after) ≡ true → (t || list_any (same_id id) (before ++ id ∷ after)) ≡ true
    by_test true h = refl
    by_test false h = h

-- ids among the mentioned ones have numbers below the count
numbered_part : (entries : List Entry) (before ids after : List MessageId) → referenced_ids entries ≡ before ++ (ids ++ after) → HaveContainerNumbers entries ids
numbered_part entries before [] after e = tt
numbered_part entries before (id ∷ ids) after e = (
  number_of_id-below entries id (subst (λ (xs : List MessageId). list_any (same_id id) xs ≡ true) (sym e) (any-middle id before (ids ++ after))),
  numbered_part entries (before ++ id ∷ []) ids after (e ∙ sym (append_assoc before (id ∷ []) (ids ++ after))),
)

pub numbered_refs : (entries : List Entry) (i : ℕ) (d : Entry) → i < length entries → HaveContainerNumbers entries (get_or entries i d).refs
numbered_refs entries i d h =
    numbered_part entries (referenced_ids (take i entries)) (get_or entries i d).refs (referenced_ids (drop (i + 1) entries))
    (ap referenced_ids (sym (take-append-drop i entries)) ∙ flat_map-append (λ (entry : Entry). entry.refs) (take i entries) (drop i entries)
    ∙ ap (λ (es : List Entry). referenced_ids (take i entries) ++ referenced_ids es) (drop_more entries i d h))

-- each mentioned id
pub numbered_mentioned : (entries : List Entry) → HaveContainerNumbers entries (referenced_ids entries)
numbered_mentioned entries = numbered_part entries [] (referenced_ids entries) [] (sym (append-nil (referenced_ids entries)))

pub requests_more : (num : MessageId → ℕ) (entries : List Entry) (i : ℕ) (d : Entry) → i < length entries
    → link_requests_from num i (drop i entries)
    ≡ id_link_requests num (get_or entries i d).refs ++ link_request_of_message num i (get_or entries i d).refs ∷ link_requests_from num (i + 1) (drop (i + 1) entries)
requests_more num entries i d h = ap (link_requests_from num i) (drop_more entries i d h)

pub fold-append : (links : List Link) (xs ys : List LinkRequest) → fold links_after_request links (xs ++ ys) ≡ fold links_after_request (fold links_after_request links xs) ys
fold-append links [] ys = refl
fold-append links (x ∷ xs) ys = fold-append (links_after_request links x) xs ys
