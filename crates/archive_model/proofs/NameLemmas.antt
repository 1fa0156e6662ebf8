-- Commands keep names apart.
use Rattle.std.proofs.Common.{◌≡◌, ◌≢◌, ℕ, ℤ, zero, suc, Bool, true, false, ◌||◌, cond, List, [], ◌∷◌, ◌++◌, refl, ap, sym, ◌∙◌, arith, Some, is_some, if◌then◌else◌}
use Rattle.std.specs.Prelude.{⊤, not, map, filter, find, bytes_eq}
use Rattle.std.specs.List.{All, AllPairs, list_any}
use Rattle.std.proofs.lemmas.List.Elements.{All-nil, All-cons, All-map, All-weaker, All-filter}
use Rattle.std.proofs.lemmas.List.Quantifiers.{all_pairs_push}
use Rattle.std.proofs.lemmas.Bool.Decides.{Decides-int_eq}
use Rattle.std.proofs.lemmas.Slice.Eq.{bytes_eq-Decides}
use Rattle.archive_model.specs.Records.{Person, Grant, Message, IndexColumns, ListOption, Address, Archive}
use Rattle.archive_model.specs.Keys.{item_key}
use Rattle.archive_model.specs.Questions.{has_list, has_person, has_token, is_grant_of_rank, has_grant, is_option_of, is_address_of, has_address, is_message_at_key}
use Rattle.archive_model.specs.Machine.{default_list_option, with_merge_setting, with_replaced_address, addresses_with, with_grant_days_of}
use Rattle.archive_model.specs.Machine.{grants_with, new_message, change_at_key, with_changed_message, with_withdrawal, with_embargo}
use Rattle.archive_model.specs.Sound.{HaveDistinctNames, grant_identity, message_identity, HasUniqueNames, HasOneOptionPerList}
use Rattle.archive_model.proofs.RunLemmas.{EachChangeKeeps}

-- ---- pairs of a list, by its first element

module _ {X : Type 0} (R : X → X → Type 0) where
  pairs_nil : AllPairs R []
  pairs_nil = λ i j d before within. absurd (omega (arith, within))

  pairs_cons : (x : X) (xs : List X) → All (R x) xs → AllPairs R xs → AllPairs R (x ∷ xs)
  pairs_cons x xs first rest zero zero d before within = absurd (omega (arith, before))
  pairs_cons x xs first rest zero (suc j) d before within = first j d (omega (arith, within))
  pairs_cons x xs first rest (suc i) zero d before within = absurd (omega (arith, before))
  pairs_cons x xs first rest (suc i) (suc j) d before within = rest i j d (omega (arith, before)) (omega (arith, within))

  pairs_head : (x : X) (xs : List X) → AllPairs R (x ∷ xs) → All (R x) xs
  pairs_head x xs pairs = λ k d within. pairs 0 (suc k) d (omega arith) (omega (arith, within))

  pairs_tail : (x : X) (xs : List X) → AllPairs R (x ∷ xs) → AllPairs R xs
  pairs_tail x xs pairs = λ i j d before within. pairs (suc i) (suc j) d (omega (arith, before)) (omega (arith, within))

-- ---- names

module _ {X N : Type 0} (name : X → N) where
  -- a test that finds each of this name finds none
  none_named : (n : N) (test : X → Bool) → ((x : X) → name x ≡ n → test x ≡ true) → (xs : List X) → list_any test xs ≡ false → All (λ x. name x ≢ n) xs
  none_named n test finds [] none = All-nil (λ x. name x ≢ n)
  none_named n test finds (x ∷ xs) none = cases (test x) refl none (none_named n test finds xs)
    where
      cases : (b : Bool) → test x ≡ b → (b || list_any test xs) ≡ false → (list_any test xs ≡ false → All (λ x. name x ≢ n) xs) → All (λ x. name x ≢ n) (x ∷ xs)
      cases true found bad later = absurd (cc)
      cases false missed more later = All-cons (λ x. name x ≢ n) x xs (λ same. let hit = finds x same in absurd (cc)) (later more)

  apart_push : (x : X) (test : X → Bool) → ((y : X) → name y ≡ name x → test y ≡ true) → (xs : List X) → list_any test xs ≡ false
      → HaveDistinctNames name xs → HaveDistinctNames name (xs ++ x ∷ [])
  apart_push x test finds xs none apart =
      all_pairs_push (λ x y. name x ≢ name y) xs x apart (none_named (name x) test finds xs none)

  apart_map : (change : X → X) → ((x : X) → name (change x) ≡ name x) → (xs : List X) → HaveDistinctNames name xs → HaveDistinctNames name (map change xs)
  apart_map change same [] apart = pairs_nil (λ x y. name x ≢ name y)
  apart_map change same (x ∷ xs) apart =
      pairs_cons (λ x y. name x ≢ name y) (change x) (map change xs)
      (All-map (λ y. name (change x) ≢ name y) change xs
      (All-weaker (λ y. name x ≢ name y) (λ y. name (change x) ≢ name (change y)) (λ y other e. other (sym (same x) ∙ e ∙ same y)) xs
      (pairs_head (λ x y. name x ≢ name y) x xs apart)))
      (apart_map change same xs (pairs_tail (λ x y. name x ≢ name y) x xs apart))

  apart_filter : (test : X → Bool) (xs : List X) → HaveDistinctNames name xs → HaveDistinctNames name (filter test xs)
  apart_filter test [] apart = pairs_nil (λ x y. name x ≢ name y)
  apart_filter test (x ∷ xs) apart = cases (test x) (apart_filter test xs (pairs_tail (λ x y. name x ≢ name y) x xs apart))
    where
      cases : (b : Bool) → HaveDistinctNames name (filter test xs) → HaveDistinctNames name (cond b (x ∷ filter test xs) (filter test xs))
      cases true rest =
          pairs_cons (λ x y. name x ≢ name y) x (filter test xs)
          (All-filter test (λ y. name x ≢ name y) xs (pairs_head (λ x y. name x ≢ name y) x xs apart)) rest
      cases false rest = rest

-- ---- the tests

same_bytes : (xs ys : List ℕ) → xs ≡ ys → bytes_eq xs ys ≡ true
same_bytes xs ys = (bytes_eq-Decides xs ys).1

finds_grant : (g old : Grant) → grant_identity old ≡ grant_identity g → is_grant_of_rank g.person g.list g.rank old ≡ true
finds_grant g old e =
    rw (
      same_bytes old.person g.person (ap (λ (n : List ℕ × List ℕ × ℤ). n.0) e),
      same_bytes old.list g.list (ap (λ (n : List ℕ × List ℕ × ℤ). n.1) e),
      (Decides-int_eq old.rank g.rank).1 (ap (λ (n : List ℕ × List ℕ × ℤ). n.2) e),
    ) refl

finds_message : (list key : List ℕ) (m : Message) → message_identity m ≡ (list, key) → is_message_at_key list key m ≡ true
finds_message list key m e =
    rw (same_bytes m.list list (ap (λ (n : List ℕ × List ℕ). n.0) e), same_bytes m.key key (ap (λ (n : List ℕ × List ℕ). n.1) e)) refl

none_found : {X : Type 0} (test : X → Bool) (xs : List X) → is_some (find test xs) ≡ false → list_any test xs ≡ false
none_found test [] none = refl
none_found test (x ∷ xs) none = cases (test x) none (none_found test xs)
  where
    cases : (b : Bool) → is_some (cond b (Some x) (find test xs)) ≡ false → (is_some (find test xs) ≡ false → list_any test xs ≡ false)
        → (b || list_any test xs) ≡ false
    cases true bad later = absurd (cc)
    cases false more later = later more

-- ---- commands

-- one of the lists changes
with_grants : (a : Archive) (grants : List Grant) → HasUniqueNames a → HaveDistinctNames grant_identity grants → HasUniqueNames (record a { grants = grants })
with_grants a grants apart new =
    record { lists = apart.lists; persons = apart.persons; tokens = apart.tokens; grants = new; messages = apart.messages; addresses = apart.addresses }

with_messages : (a : Archive) (messages : List Message) (index_columns : List IndexColumns) → HasUniqueNames a → HaveDistinctNames message_identity messages
    → HasUniqueNames (record a { messages = messages; index_columns = index_columns })
with_messages a messages index_columns apart new =
    record { lists = apart.lists; persons = apart.persons; tokens = apart.tokens; grants = apart.grants; messages = new; addresses = apart.addresses }

with_list : (a : Archive) (name : List ℕ) → has_list a name ≡ false → HasUniqueNames a
    → HasUniqueNames (record a { lists = a.lists ++ name ∷ []; options = a.options ++ default_list_option name ∷ [] })
with_list a name new apart = record {
  lists = apart_push (λ list. list) name (λ known. bytes_eq known name) (λ known. same_bytes known name) a.lists new apart.lists;
  persons = apart.persons;
  tokens = apart.tokens;
  grants = apart.grants;
  messages = apart.messages;
  addresses = apart.addresses;
}

with_person : (a : Archive) (p : Person) → has_person a p.name ≡ false → has_token a p.token ≡ false → HasUniqueNames a
    → HasUniqueNames (record a { persons = a.persons ++ p ∷ [] })
with_person a p new free apart = record {
  lists = apart.lists;
  persons = apart_push (λ (p : Person). p.name) p (λ known. bytes_eq known.name p.name) (λ known. same_bytes known.name p.name) a.persons new apart.persons;
  tokens = apart_push (λ (p : Person). p.token) p (λ known. bytes_eq known.token p.token) (λ known. same_bytes known.token p.token) a.persons free apart.tokens;
  grants = apart.grants;
  messages = apart.messages;
  addresses = apart.addresses;
}

with_options : (a : Archive) (options : List ListOption) → HasUniqueNames a → HasUniqueNames (record a { options = options })
with_options a options apart =
    record { lists = apart.lists; persons = apart.persons; tokens = apart.tokens; grants = apart.grants; messages = apart.messages; addresses = apart.addresses }

with_addresses : (a : Archive) (addresses : List Address) → HasUniqueNames a → HaveDistinctNames (λ (x : Address). x.person) addresses
    → HasUniqueNames (record a { addresses = addresses })
with_addresses a addresses apart new =
    record { lists = apart.lists; persons = apart.persons; tokens = apart.tokens; grants = apart.grants; messages = apart.messages; addresses = new }

person_stays : (a old : Address) → (with_replaced_address a old).person ≡ old.person
person_stays a old = cases (is_address_of a.person old)
  where
    cases : (b : Bool) → (if b then record old { address = a.address } else old).person ≡ old.person
    cases true = refl
    cases false = refl

addresses_distinct : (a : Archive) (x : Address) → HaveDistinctNames (λ (y : Address). y.person) a.addresses → HaveDistinctNames (λ (y : Address). y.person) (addresses_with a x)
addresses_distinct a x apart = cases (has_address a x.person) refl
  where
    cases : (b : Bool) → has_address a x.person ≡ b → HaveDistinctNames (λ (y : Address). y.person) (if b then map (with_replaced_address x) a.addresses else a.addresses ++ x ∷ [])
    cases true had = apart_map (λ (y : Address). y.person) (with_replaced_address x) (person_stays x) a.addresses apart
    cases false new =
        apart_push (λ (y : Address). y.person) x (is_address_of x.person) (λ known. same_bytes known.person x.person) a.addresses new apart

days_keep_name : (g old : Grant) → grant_identity (with_grant_days_of g old) ≡ grant_identity old
days_keep_name g old = cases (is_grant_of_rank g.person g.list g.rank old)
  where
    cases : (b : Bool) → grant_identity (if b then record old { from_day = g.from_day; until_day = g.until_day } else old) ≡ grant_identity old
    cases true = refl
    cases false = refl

grants_distinct : (a : Archive) (g : Grant) → HaveDistinctNames grant_identity a.grants → HaveDistinctNames grant_identity (grants_with a g)
grants_distinct a g apart = cases (has_grant a g.person g.list g.rank) refl
  where
    cases : (b : Bool) → has_grant a g.person g.list g.rank ≡ b → HaveDistinctNames grant_identity (if b then map (with_grant_days_of g) a.grants else a.grants ++ g ∷ [])
    cases true had = apart_map grant_identity (with_grant_days_of g) (days_keep_name g) a.grants apart
    cases false new = apart_push grant_identity g (is_grant_of_rank g.person g.list g.rank) (finds_grant g) a.grants new apart

changes_apart : (a : Archive) (list key : List ℕ) (change : Message → Message) → ((m : Message) → message_identity (change m) ≡ message_identity m)
    → HasUniqueNames a → HasUniqueNames (with_changed_message a list key change)
changes_apart a list key change same apart =
    with_messages a _ _ apart (apart_map message_identity (change_at_key list key change) keeps a.messages apart.messages)
  where
    keeps : (m : Message) → message_identity (change_at_key list key change m) ≡ message_identity m
    keeps m = cases (is_message_at_key list key m)
      where
        cases : (b : Bool) → message_identity (if b then change m else m) ≡ message_identity m
        cases true = same m
        cases false = refl

pub names : EachChangeKeeps HasUniqueNames (λ _. ⊤)
names = record {
  lists = λ a name named. with_list a name;
  persons = λ a p named told. with_person a p;
  grants = λ a g apart. with_grants a _ apart (grants_distinct a g apart.grants);
  revokes = λ a person list rank apart.
      with_grants a _ apart (apart_filter grant_identity (λ g. not (is_grant_of_rank person list rank g)) a.grants apart.grants);
  messages = λ a list item _ new apart.
      with_messages a _ _ apart (apart_push message_identity (new_message list item) (is_message_at_key list (item_key item)) (finds_message list (item_key item)) a.messages
      (none_found (is_message_at_key list (item_key item)) a.messages new) apart.messages);
  withdrawals = λ a list key party. changes_apart a list key (with_withdrawal party) (λ m. refl);
  embargoes = λ a list key until. changes_apart a list key (with_embargo until) (λ m. refl);
  merges = λ a list merge. with_options a _;
  addresses = λ a person address told apart. with_addresses a _ apart (addresses_distinct a _ apart.addresses);
}

-- ---- each list has its option

abbrev of_list : ListOption → List ℕ
of_list o = o.list

list_stays : (list : List ℕ) (merge : Bool) (o : ListOption) → (with_merge_setting list merge o).list ≡ o.list
list_stays list merge o = cases (is_option_of list o)
  where
    cases : (b : Bool) → (if b then record o { merge = merge } else o).list ≡ o.list
    cases true = refl
    cases false = refl

lists_stay : (list : List ℕ) (merge : Bool) (os : List ListOption) → map of_list (map (with_merge_setting list merge) os) ≡ map of_list os
lists_stay list merge [] = refl
lists_stay list merge (o ∷ os) =
    ap (λ (n : List ℕ). n ∷ map of_list (map (with_merge_setting list merge) os)) (list_stays list merge o)
    ∙ ap (λ (ns : List (List ℕ)). o.list ∷ ns) (lists_stay list merge os)

one_more : (os : List ListOption) (o : ListOption) → map of_list (os ++ o ∷ []) ≡ map of_list os ++ o.list ∷ []
one_more [] o = refl
one_more (x ∷ os) o = ap (λ (ns : List (List ℕ)). x.list ∷ ns) (one_more os o)

pub options : EachChangeKeeps HasOneOptionPerList (λ _. ⊤)
options = record {
  lists = λ a name named new each. one_more a.options (default_list_option name) ∙ ap (λ (ns : List (List ℕ)). ns ++ name ∷ []) each;
  persons = λ a p named told new free each. each;
  grants = λ a g each. each;
  revokes = λ a person list rank each. each;
  messages = λ a list item _ new each. each;
  withdrawals = λ a list key party each. each;
  embargoes = λ a list key until each. each;
  merges = λ a list merge each. lists_stay list merge a.options ∙ each;
  addresses = λ a person address told each. each;
}
