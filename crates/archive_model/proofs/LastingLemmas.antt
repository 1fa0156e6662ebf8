-- What is set is what is told, until it is set anew.
use Rattle.std.proofs.Common.{◌≡◌, ◌≢◌, ℕ, ℤ, Bool, true, false, ◌&&◌, ◌||◌, cond, List, [], ◌∷◌, ◌++◌, map, Option, Some, None}
use Rattle.std.proofs.Common.{is_some, option_map, refl, sym, ap, ap₂, ◌∙◌, subst, if◌then◌else◌, pos}
use Rattle.std.specs.Prelude.{not, find, bytes_eq}
use Rattle.std.specs.List.{All, list_any}
use Rattle.std.specs.Option.{option_map_or}
use Rattle.std.specs.Ordering.{int_eq}
use Rattle.std.proofs.lemmas.Bool.{true≢false}
use Rattle.std.proofs.lemmas.Bool.Decides.{Decides-int_eq}
use Rattle.std.proofs.lemmas.List.{map-append}
use Rattle.std.proofs.lemmas.List.Elements.{All-nil, All-cons, All-head, All-tail, All-push}
use Rattle.std.proofs.lemmas.Slice.Eq.{bytes_eq-Decides}
use Rattle.mbox_items.specs.Division.{Item}
use Rattle.policy_core.specs.Names.{is_name}
use Rattle.archive_model.specs.Records.{Message, ListOption, Address, Archive}
use Rattle.archive_model.specs.Commands.{Command, list_add, withdraw, embargo, merge_set, address_set, no_list, no_person, no_message}
use Rattle.archive_model.specs.Commands.{bad_name, bad_text, list_exists, already_withdrawn, CommandReply, done, refused}
use Rattle.archive_model.specs.Keys.{item_key}
use Rattle.archive_model.specs.Addresses.{is_address, normalize_address}
use Rattle.archive_model.specs.Questions.{has_list, has_person, is_option_of, merge_of, is_address_of, has_address, address_of, is_message_at_key, message_of, has_message, is_withdrawn}
use Rattle.archive_model.specs.Machine.{StepOutcome, refuse, default_list_option, with_merge_setting, with_replaced_address, addresses_with}
use Rattle.archive_model.specs.Machine.{new_message, with_message, change_at_key, with_changed_message, with_withdrawal, with_embargo, step}
use Rattle.archive_model.specs.Runs.{run}
use Rattle.archive_model.specs.Sound.{HasOneOptionPerList}
use Rattle.archive_model.specs.Lasting.{NoCommandSatisfies, changes_merge, changes_address, ends_withdrawal, changes_embargo}
use Rattle.archive_model.specs.Lasting.{HoldsForMessageAtKey, is_address_set, is_unknown_to_version_one, IsVersionOneArchive, IsVersionTwoArchive}
use Rattle.archive_model.proofs.RunLemmas.{EachCommandKeeps, run_keeps}

-- ---- names

itself : (xs : List ℕ) → bytes_eq xs xs ≡ true
itself xs = (bytes_eq-Decides xs xs).1 refl

same : (xs ys : List ℕ) → bytes_eq xs ys ≡ true → xs ≡ ys
same xs ys = (bytes_eq-Decides xs ys).0

-- two names of which one is a third and the other is not
another : (xs ys zs : List ℕ) → bytes_eq ys zs ≡ false → bytes_eq xs ys ≡ true → bytes_eq xs zs ≡ false
another xs ys zs other is = ap (λ (ws : List ℕ). bytes_eq ws zs) (same xs ys is) ∙ other

-- an outcome that is not refused
not_refused : (a : Archive) (b : Bool) (why : CommandReply) (other : StepOutcome) → why ≢ done → (if b then (a, why) else other).1 ≡ done → (b ≡ false) × (other.1 ≡ done)
not_refused a true why other bad is = absurd (bad is)
not_refused a false why other bad is = (refl, is)

-- ---- how a list is threaded

abbrev told : List ℕ → List ListOption → Bool
told list os = option_map_or (λ (o : ListOption). o.merge) (find (is_option_of list) os) true

with_another : (list name : List ℕ) (os : List ListOption) → told list (os ++ default_list_option name ∷ []) ≡ told list os
with_another list name [] = cases (is_option_of list (default_list_option name))
  where
    cases : (b : Bool) → option_map_or (λ (o : ListOption). o.merge) (cond b (Some (default_list_option name)) None) true ≡ true
    cases true = refl
    cases false = refl
with_another list name (o ∷ os) = cases (is_option_of list o) (with_another list name os)
  where
    cases : (b : Bool) → told list (os ++ default_list_option name ∷ []) ≡ told list os
        → option_map_or (λ (x : ListOption). x.merge) (cond b (Some o) (find (is_option_of list) (os ++ default_list_option name ∷ []))) true
        ≡ option_map_or (λ (x : ListOption). x.merge) (cond b (Some o) (find (is_option_of list) os)) true
    cases true later = refl
    cases false later = later

of_another_list : (list other : List ℕ) (merge : Bool) → bytes_eq other list ≡ false → (os : List ListOption) → told list (map (with_merge_setting other merge) os) ≡ told list os
of_another_list list other merge apart [] = refl
of_another_list list other merge apart (o ∷ os) = cases (is_option_of other o) refl (of_another_list list other merge apart os)
  where
    rest : List ListOption
    rest = map (with_merge_setting other merge) os

    cases : (b : Bool) → is_option_of other o ≡ b → told list rest ≡ told list os
        → told list ((if b then record o { merge = merge } else o) ∷ rest) ≡ told list (o ∷ os)
    cases true is later = rw (another o.list other list apart is) later
    cases false is later = by_list (is_option_of list o) later
      where
        by_list : (c : Bool) → told list rest ≡ told list os
            → option_map_or (λ (x : ListOption). x.merge) (cond c (Some o) (find (is_option_of list) rest)) true
            ≡ option_map_or (λ (x : ListOption). x.merge) (cond c (Some o) (find (is_option_of list) os)) true
        by_list true later = refl
        by_list false later = later

abbrev is_list : List ℕ → List ℕ → Bool
is_list list known = bytes_eq known list

abbrev list_of : ListOption → List ℕ
list_of o = o.list

of_its_list : (list : List ℕ) (merge : Bool) (os : List ListOption) → list_any (is_list list) (map list_of os) ≡ true → told list (map (with_merge_setting list merge) os) ≡ merge
of_its_list list merge [] there = absurd (true≢false (sym there))
of_its_list list merge (o ∷ os) there = cases (is_option_of list o) refl there (of_its_list list merge os)
  where
    rest : List ListOption
    rest = map (with_merge_setting list merge) os

    cases : (b : Bool) → is_option_of list o ≡ b → (b || list_any (is_list list) (map list_of os)) ≡ true
        → (list_any (is_list list) (map list_of os) ≡ true → told list rest ≡ merge)
        → told list ((if b then record o { merge = merge } else o) ∷ rest) ≡ merge
    cases true is there later = rw is refl
    cases false is there later = rw is (later there)

of_no_list : (list : List ℕ) (os : List ListOption) → list_any (is_list list) (map list_of os) ≡ false → told list os ≡ true
of_no_list list [] none = refl
of_no_list list (o ∷ os) none = cases (is_option_of list o) none (of_no_list list os)
  where
    cases : (b : Bool) → (b || list_any (is_list list) (map list_of os)) ≡ false → (list_any (is_list list) (map list_of os) ≡ false → told list os ≡ true)
        → option_map_or (λ (x : ListOption). x.merge) (cond b (Some o) (find (is_option_of list) os)) true ≡ true
    cases true none later = absurd (true≢false none)
    cases false none later = later none

-- what one that is done leaves
merge_left : (a : Archive) (list : List ℕ) (merge : Bool) → has_list a list ≡ true → (step a (merge_set list merge)).0 ≡ record a { options = map (with_merge_setting list merge) a.options }
merge_left a list merge there = rw there refl

pub merged : (a : Archive) (list : List ℕ) (merge : Bool) → HasOneOptionPerList a → has_list a list ≡ true → merge_of (step a (merge_set list merge)).0 list ≡ merge
merged a list merge each there =
    ap (λ (b : Archive). merge_of b list) (merge_left a list merge there)
    ∙ of_its_list list merge a.options (ap (list_any (is_list list)) each ∙ there)

pub merge_kept : (list : List ℕ) (merge : Bool) → EachCommandKeeps (λ a. merge_of a list ≡ merge) (λ c. changes_merge list c ≡ false)
merge_kept list merge = record {
  lists = λ a name q named new is. with_another list name a.options ∙ is;
  persons = λ a name token q named known new free is. is;
  grants = λ a g q is. is;
  revokes = λ a person on rank q is. is;
  messages = λ a on item q new is. is;
  withdrawals = λ a on key party q free is. is;
  restores = λ a on key q is. is;
  embargoes = λ a on key until q is. is;
  lifts = λ a on key q is. is;
  merges = λ a other to q is. of_another_list list other to q a.options ∙ is;
  addresses = λ a person address q known is. is;
}

pub merge_stays : (a : Archive) (list : List ℕ) (commands : List Command) → NoCommandSatisfies (changes_merge list) commands → merge_of (run a commands).archive list ≡ merge_of a list
merge_stays a list commands none =
    run_keeps (λ b. merge_of b list ≡ merge_of a list) (λ c. changes_merge list c ≡ false) (merge_kept list (merge_of a list)) a commands none refl

-- what one that is done leaves, and what it needed
list_left : (a : Archive) (name : List ℕ) → (step a (list_add name)).1 ≡ done
    → (has_list a name ≡ false) × ((step a (list_add name)).0 ≡ record a { lists = a.lists ++ name ∷ []; options = a.options ++ default_list_option name ∷ [] })
list_left a name is = by_tests (not (is_name name)) (has_list a name) is
  where
    left : Archive
    left = record a { lists = a.lists ++ name ∷ []; options = a.options ++ default_list_option name ∷ [] }

    by_tests : (n l : Bool) → (if n then refuse a bad_name else if l then refuse a list_exists else (left, done)).1 ≡ done
        → (l ≡ false) × ((if n then refuse a bad_name else if l then refuse a list_exists else (left, done)).0 ≡ left)
    by_tests true l e = absurd (let bad : refused bad_name ≡ done = e in cc)
    by_tests false true e = absurd (let bad : refused list_exists ≡ done = e in cc)
    by_tests false false e = (refl, refl)

pub at_first : (a : Archive) (name : List ℕ) → HasOneOptionPerList a → (step a (list_add name)).1 ≡ done → merge_of (step a (list_add name)).0 name ≡ true
at_first a name each is =
    let left = list_left a name is in
    ap (λ (b : Archive). merge_of b name) left.1 ∙ with_another name name a.options
    ∙ of_no_list name a.options (ap (list_any (is_list name)) each ∙ left.0)

-- ---- the address of a person

abbrev found : List ℕ → List Address → Option (List ℕ)
found person xs = option_map (λ (x : Address). x.address) (find (is_address_of person) xs)

given_anew : (new : Address) (xs : List Address) → list_any (is_address_of new.person) xs ≡ true → found new.person (map (with_replaced_address new) xs) ≡ Some new.address
given_anew new [] had = absurd (true≢false (sym had))
given_anew new (x ∷ xs) had = cases (is_address_of new.person x) refl had (given_anew new xs)
  where
    rest : List Address
    rest = map (with_replaced_address new) xs

    cases : (b : Bool) → is_address_of new.person x ≡ b → (b || list_any (is_address_of new.person) xs) ≡ true
        → (list_any (is_address_of new.person) xs ≡ true → found new.person rest ≡ Some new.address)
        → found new.person ((if b then record x { address = new.address } else x) ∷ rest) ≡ Some new.address
    cases true is had later = rw is refl
    cases false is had later = rw is (later had)

given_first : (new : Address) (xs : List Address) → list_any (is_address_of new.person) xs ≡ false → found new.person (xs ++ new ∷ []) ≡ Some new.address
given_first new [] none = rw (itself new.person) refl
given_first new (x ∷ xs) none = cases (is_address_of new.person x) none (given_first new xs)
  where
    cases : (b : Bool) → (b || list_any (is_address_of new.person) xs) ≡ false
        → (list_any (is_address_of new.person) xs ≡ false → found new.person (xs ++ new ∷ []) ≡ Some new.address)
        → option_map (λ (y : Address). y.address) (cond b (Some x) (find (is_address_of new.person) (xs ++ new ∷ []))) ≡ Some new.address
    cases true none later = absurd (true≢false none)
    cases false none later = later none

given : (a : Archive) (new : Address) → found new.person (addresses_with a new) ≡ Some new.address
given a new = cases (has_address a new.person) refl
  where
    cases : (b : Bool) → has_address a new.person ≡ b → found new.person (if b then map (with_replaced_address new) a.addresses else a.addresses ++ new ∷ []) ≡ Some new.address
    cases true had = given_anew new a.addresses had
    cases false none = given_first new a.addresses none

address_left : (a : Archive) (person address : List ℕ) → (step a (address_set person address)).1 ≡ done
    → (step a (address_set person address)).0 ≡ record a { addresses = addresses_with a (record { person = person; address = normalize_address address }) }
address_left a person address is = by_tests (not (has_person a person)) (not (is_address address)) is
  where
    left : Archive
    left = record a { addresses = addresses_with a (record { person = person; address = normalize_address address }) }

    by_tests : (p t : Bool) → (if p then refuse a no_person else if t then refuse a bad_text else (left, done)).1 ≡ done
        → (if p then refuse a no_person else if t then refuse a bad_text else (left, done)).0 ≡ left
    by_tests true t e = absurd (let bad : refused no_person ≡ done = e in cc)
    by_tests false true e = absurd (let bad : refused bad_text ≡ done = e in cc)
    by_tests false false e = refl

pub addressed : (a : Archive) (person address : List ℕ) → (step a (address_set person address)).1 ≡ done
    → address_of (step a (address_set person address)).0 person ≡ Some (normalize_address address)
addressed a person address is =
    ap (λ (b : Archive). address_of b person) (address_left a person address is)
    ∙ given a (record { person = person; address = normalize_address address })

to_another_anew : (person : List ℕ) (new : Address) → bytes_eq new.person person ≡ false → (xs : List Address) → found person (map (with_replaced_address new) xs) ≡ found person xs
to_another_anew person new apart [] = refl
to_another_anew person new apart (x ∷ xs) = cases (is_address_of new.person x) refl (to_another_anew person new apart xs)
  where
    rest : List Address
    rest = map (with_replaced_address new) xs

    cases : (b : Bool) → is_address_of new.person x ≡ b → found person rest ≡ found person xs
        → found person ((if b then record x { address = new.address } else x) ∷ rest) ≡ found person (x ∷ xs)
    cases true is later = rw (another x.person new.person person apart is) later
    cases false is later = by_person (is_address_of person x) later
      where
        by_person : (c : Bool) → found person rest ≡ found person xs
            → option_map (λ (y : Address). y.address) (cond c (Some x) (find (is_address_of person) rest))
            ≡ option_map (λ (y : Address). y.address) (cond c (Some x) (find (is_address_of person) xs))
        by_person true later = refl
        by_person false later = later

to_another_first : (person : List ℕ) (new : Address) → bytes_eq new.person person ≡ false → (xs : List Address) → found person (xs ++ new ∷ []) ≡ found person xs
to_another_first person new apart [] = rw apart refl
to_another_first person new apart (x ∷ xs) = cases (is_address_of person x) (to_another_first person new apart xs)
  where
    cases : (b : Bool) → found person (xs ++ new ∷ []) ≡ found person xs
        → option_map (λ (y : Address). y.address) (cond b (Some x) (find (is_address_of person) (xs ++ new ∷ [])))
        ≡ option_map (λ (y : Address). y.address) (cond b (Some x) (find (is_address_of person) xs))
    cases true later = refl
    cases false later = later

to_another : (person : List ℕ) (a : Archive) (new : Address) → bytes_eq new.person person ≡ false → found person (addresses_with a new) ≡ found person a.addresses
to_another person a new apart = cases (has_address a new.person)
  where
    cases : (b : Bool) → found person (if b then map (with_replaced_address new) a.addresses else a.addresses ++ new ∷ []) ≡ found person a.addresses
    cases true = to_another_anew person new apart a.addresses
    cases false = to_another_first person new apart a.addresses

pub address_kept : (person : List ℕ) (address : Option (List ℕ)) → EachCommandKeeps (λ a. address_of a person ≡ address) (λ c. changes_address person c ≡ false)
address_kept person address = record {
  lists = λ a name q named new is. is;
  persons = λ a name token q named known new free is. is;
  grants = λ a g q is. is;
  revokes = λ a other on rank q is. is;
  messages = λ a on item q new is. is;
  withdrawals = λ a on key party q free is. is;
  restores = λ a on key q is. is;
  embargoes = λ a on key until q is. is;
  lifts = λ a on key q is. is;
  merges = λ a other to q is. is;
  addresses = λ a other text q known is. to_another person a (record { person = other; address = normalize_address text }) q ∙ is;
}

pub address_stays : (a : Archive) (person : List ℕ) (commands : List Command) → NoCommandSatisfies (changes_address person) commands → address_of (run a commands).archive person ≡ address_of a person
address_stays a person commands none =
    run_keeps (λ b. address_of b person ≡ address_of a person) (λ c. changes_address person c ≡ false) (address_kept person (address_of a person)) a commands none refl

-- ---- a message, as long as it is withdrawn or held back

-- one that is found, and what holds of each of its name
found_so : (test : Message → Bool) (Says : Message → Type 0) (ms : List Message) → is_some (find test ms) ≡ true → All (λ m. test m ≡ true → Says m) ms
    → (m : Message) × (find test ms ≡ Some m) × Says m
found_so test Says [] there all = absurd (true≢false (sym there))
found_so test Says (m ∷ ms) there all = cases (test m) refl there (λ more. found_so test Says ms more (All-tail Each m ms all))
  where
    Each : Message → Type 0
    Each n = test n ≡ true → Says n

    cases : (b : Bool) → test m ≡ b → is_some (cond b (Some m) (find test ms)) ≡ true
        → (is_some (find test ms) ≡ true → (n : Message) × (find test ms ≡ Some n) × Says n)
        → (n : Message) × (cond b (Some m) (find test ms) ≡ Some n) × Says n
    cases true is there later = (m, refl, All-head Each m ms all is)
    cases false is there later = later there

still_found : (test : Message → Bool) (ms : List Message) (new : Message) → is_some (find test ms) ≡ true → is_some (find test (ms ++ new ∷ [])) ≡ true
still_found test [] new there = absurd (true≢false (sym there))
still_found test (m ∷ ms) new there = cases (test m) there (still_found test ms new)
  where
    cases : (b : Bool) → is_some (cond b (Some m) (find test ms)) ≡ true → (is_some (find test ms) ≡ true → is_some (find test (ms ++ new ∷ [])) ≡ true)
        → is_some (cond b (Some m) (find test (ms ++ new ∷ []))) ≡ true
    cases true there later = refl
    cases false there later = later there

both_true : (b c : Bool) → (b && c) ≡ true → (b ≡ true) × (c ≡ true)
both_true true c is = (refl, is)
both_true false c is = absurd (true≢false (sym is))

-- a message has one name
one_name : (list key other_list other_key : List ℕ) (m : Message) → is_message_at_key list key m ≡ true → is_message_at_key other_list other_key m ≡ true
    → (other_list ≡ list) × (other_key ≡ key)
one_name list key other_list other_key m is was =
    let one = both_true (bytes_eq m.list list) (bytes_eq m.key key) is in
    let other = both_true (bytes_eq m.list other_list) (bytes_eq m.key other_key) was in
    (sym (same m.list other_list other.0) ∙ same m.list list one.0, sym (same m.key other_key other.1) ∙ same m.key key one.1)

module _ (list key : List ℕ) (Says : Message → Type 0) where
  abbrev Each : Message → Type 0
  Each m = is_message_at_key list key m ≡ true → Says m

  abbrev Stands : Archive → Type 0
  Stands a = (has_message a list key ≡ true) × HoldsForMessageAtKey a list key Says

  -- a change of messages that keeps their names, and what is said of this one
  module _ (other_list other_key : List ℕ) (change : Message → Message) (names : (m : Message) → is_message_at_key list key (change m) ≡ is_message_at_key list key m) where
    named : (m : Message) → is_message_at_key list key (change_at_key other_list other_key change m) ≡ is_message_at_key list key m
    named m = cases (is_message_at_key other_list other_key m)
      where
        cases : (b : Bool) → is_message_at_key list key (if b then change m else m) ≡ is_message_at_key list key m
        cases true = names m
        cases false = refl

    there_still : (ms : List Message) → is_some (find (is_message_at_key list key) (map (change_at_key other_list other_key change) ms)) ≡ is_some (find (is_message_at_key list key) ms)
    there_still [] = refl
    there_still (m ∷ ms) = cases (is_message_at_key list key (change_at_key other_list other_key change m)) (is_message_at_key list key m) (named m) (there_still ms)
      where
        rest : List Message
        rest = map (change_at_key other_list other_key change) ms

        cases : (b c : Bool) → b ≡ c → is_some (find (is_message_at_key list key) rest) ≡ is_some (find (is_message_at_key list key) ms)
            → is_some (cond b (Some (change_at_key other_list other_key change m)) (find (is_message_at_key list key) rest)) ≡ is_some (cond c (Some m) (find (is_message_at_key list key) ms))
        cases true true e later = refl
        cases false false e later = later
        cases true false e later = absurd (true≢false e)
        cases false true e later = absurd (true≢false (sym e))

    said_still : ((m : Message) → is_message_at_key list key m ≡ true → is_message_at_key other_list other_key m ≡ true → Says m → Says (change m))
        → (ms : List Message) → All Each ms → All Each (map (change_at_key other_list other_key change) ms)
    said_still keeps [] all = All-nil Each
    said_still keeps (m ∷ ms) all =
        All-cons Each (change_at_key other_list other_key change m) (map (change_at_key other_list other_key change) ms) first (said_still keeps ms (All-tail Each m ms all))
      where
        first : Each (change_at_key other_list other_key change m)
        first is = cases (is_message_at_key other_list other_key m) refl (sym (named m) ∙ is)
          where
            cases : (b : Bool) → is_message_at_key other_list other_key m ≡ b → is_message_at_key list key m ≡ true → Says (if b then change m else m)
            cases true at mine = keeps m mine at (All-head Each m ms all mine)
            cases false at mine = All-head Each m ms all mine

    stands_changed : (a : Archive) → ((m : Message) → is_message_at_key list key m ≡ true → is_message_at_key other_list other_key m ≡ true → Says m → Says (change m))
        → Stands a → Stands (with_changed_message a other_list other_key change)
    stands_changed a keeps stands = (there_still a.messages ∙ stands.0, said_still keeps a.messages stands.1)

  stands_with : (a : Archive) (other : List ℕ) (item : Item) → has_message a other (item_key item) ≡ false → Stands a → Stands (with_message a other item)
  stands_with a other item new stands =
      (still_found (is_message_at_key list key) a.messages (new_message other item) stands.0, All-push Each a.messages (new_message other item) stands.1 no_such)
    where
      no_such : Each (new_message other item)
      no_such is =
          let names = both_true (bytes_eq other list) (bytes_eq (item_key item) key) is in
          absurd (true≢false (sym stands.0 ∙ ap₂ (has_message a) (sym (same other list names.0)) (sym (same (item_key item) key names.1)) ∙ new))

-- a message that is withdrawn cannot be withdrawn anew
withdrawn_found : (a : Archive) (list key : List ℕ) (party : ℤ) → party ≢ pos 0 → has_message a list key ≡ true → HoldsForMessageAtKey a list key (λ m. m.withdrawn ≡ party)
    → is_withdrawn (message_of a list key) ≡ true
withdrawn_found a list key party some there all =
    let it = found_so (is_message_at_key list key) (λ m. m.withdrawn ≡ party) a.messages there all in
    ap is_withdrawn it.1 ∙ by_test it.0.withdrawn (int_eq it.0.withdrawn (pos 0)) refl it.2
  where
    by_test : (by : ℤ) (b : Bool) → int_eq by (pos 0) ≡ b → by ≡ party → not b ≡ true
    by_test by true is e = absurd (some (sym e ∙ (Decides-int_eq by (pos 0)).0 is))
    by_test by false is e = refl

abbrev IsBy : ℤ → Message → Type 0
IsBy party m = m.withdrawn ≡ party

abbrev IsUntil : ℤ → Message → Type 0
IsUntil until m = m.embargo ≡ Some until

named_by : (list key other_list other_key : List ℕ) (m : Message) → (bytes_eq other_list list && bytes_eq other_key key) ≡ false
    → is_message_at_key list key m ≡ true → is_message_at_key other_list other_key m ≡ true → ⊥
named_by list key other_list other_key m apart is was =
    let names = one_name list key other_list other_key m is was in
    true≢false (sym (ap₂ ◌&&◌ (ap (λ (xs : List ℕ). bytes_eq xs list) names.0 ∙ itself list) (ap (λ (xs : List ℕ). bytes_eq xs key) names.1 ∙ itself key)) ∙ apart)

withdrawal_kept : (list key : List ℕ) (party : ℤ) → party ≢ pos 0 → EachCommandKeeps (Stands list key (IsBy party)) (λ c. ends_withdrawal list key c ≡ false)
withdrawal_kept list key party some = record {
  lists = λ a name q named new is. is;
  persons = λ a name token q named known new free is. is;
  grants = λ a g q is. is;
  revokes = λ a person on rank q is. is;
  messages = λ a on item q new is. stands_with list key (IsBy party) a on item new is;
  withdrawals = λ a on other by q free is.
      stands_changed list key (IsBy party) on other (with_withdrawal by) (λ m. refl) a
      (λ m mine at said. absurd (let names = one_name list key on other m mine at in
      true≢false (sym (withdrawn_found a list key party some is.0 is.1) ∙ ap₂ (λ (l k : List ℕ). is_withdrawn (message_of a l k)) (sym names.0) (sym names.1) ∙ free))) is;
  restores = λ a on other q is.
      stands_changed list key (IsBy party) on other (with_withdrawal (pos 0)) (λ m. refl) a (λ m mine at said. absurd (named_by list key on other m q mine at)) is;
  embargoes = λ a on other until q is. stands_changed list key (IsBy party) on other (with_embargo (Some until)) (λ m. refl) a (λ m mine at said. said) is;
  lifts = λ a on other q is. stands_changed list key (IsBy party) on other (with_embargo None) (λ m. refl) a (λ m mine at said. said) is;
  merges = λ a other to q is. is;
  addresses = λ a person address q known is. is;
}

embargo_kept : (list key : List ℕ) (until : ℤ) → EachCommandKeeps (Stands list key (IsUntil until)) (λ c. changes_embargo list key c ≡ false)
embargo_kept list key until = record {
  lists = λ a name q named new is. is;
  persons = λ a name token q named known new free is. is;
  grants = λ a g q is. is;
  revokes = λ a person on rank q is. is;
  messages = λ a on item q new is. stands_with list key (IsUntil until) a on item new is;
  withdrawals = λ a on other by q free is. stands_changed list key (IsUntil until) on other (with_withdrawal by) (λ m. refl) a (λ m mine at said. said) is;
  restores = λ a on other q is. stands_changed list key (IsUntil until) on other (with_withdrawal (pos 0)) (λ m. refl) a (λ m mine at said. said) is;
  embargoes = λ a on other to q is.
      stands_changed list key (IsUntil until) on other (with_embargo (Some to)) (λ m. refl) a (λ m mine at said. absurd (named_by list key on other m q mine at)) is;
  lifts = λ a on other q is.
      stands_changed list key (IsUntil until) on other (with_embargo None) (λ m. refl) a (λ m mine at said. absurd (named_by list key on other m q mine at)) is;
  merges = λ a other to q is. is;
  addresses = λ a person address q known is. is;
}

-- each message of this name becomes one of which this is said
all_set : (list key : List ℕ) (change : Message → Message) (Says : Message → Type 0) → ((m : Message) → Says (change m))
    → ((m : Message) → is_message_at_key list key (change m) ≡ is_message_at_key list key m) → (ms : List Message)
    → All (λ m. is_message_at_key list key m ≡ true → Says m) (map (change_at_key list key change) ms)
all_set list key change Says sets names [] = All-nil (λ m. is_message_at_key list key m ≡ true → Says m)
all_set list key change Says sets names (m ∷ ms) =
    All-cons (λ n. is_message_at_key list key n ≡ true → Says n) (change_at_key list key change m) (map (change_at_key list key change) ms)
    (λ is. first (is_message_at_key list key m) refl is) (all_set list key change Says sets names ms)
  where
    first : (b : Bool) → is_message_at_key list key m ≡ b → is_message_at_key list key (if b then change m else m) ≡ true → Says (if b then change m else m)
    first true at is = sets m
    first false at is = absurd (true≢false (sym is ∙ at))

pub withdrawal_left : (a : Archive) (list key : List ℕ) (party : ℤ) → (step a (withdraw list key party)).1 ≡ done
    → (has_message a list key ≡ true) × ((step a (withdraw list key party)).0 ≡ with_changed_message a list key (with_withdrawal party))
withdrawal_left a list key party = by_tests (has_list a list) (has_message a list key) (is_withdrawn (message_of a list key))
  where
    left : Archive
    left = with_changed_message a list key (with_withdrawal party)

    by_tests : (l m w : Bool)
        → (if not l then refuse a no_list else if not m then refuse a no_message else if w then refuse a already_withdrawn else (left, done)).1 ≡ done
        → (m ≡ true) × ((if not l then refuse a no_list else if not m then refuse a no_message else if w then refuse a already_withdrawn else (left, done)).0 ≡ left)
    by_tests false m w e = absurd (let bad : refused no_list ≡ done = e in cc)
    by_tests true false w e = absurd (let bad : refused no_message ≡ done = e in cc)
    by_tests true true true e = absurd (let bad : refused already_withdrawn ≡ done = e in cc)
    by_tests true true false e = (refl, refl)

pub embargo_left : (a : Archive) (list key : List ℕ) (until : ℤ) → (step a (embargo list key until)).1 ≡ done
    → (has_message a list key ≡ true) × ((step a (embargo list key until)).0 ≡ with_changed_message a list key (with_embargo (Some until)))
embargo_left a list key until = by_tests (has_list a list) (has_message a list key)
  where
    left : Archive
    left = with_changed_message a list key (with_embargo (Some until))

    by_tests : (l m : Bool) → (if not l then refuse a no_list else if not m then refuse a no_message else (left, done)).1 ≡ done
        → (m ≡ true) × ((if not l then refuse a no_list else if not m then refuse a no_message else (left, done)).0 ≡ left)
    by_tests false m e = absurd (let bad : refused no_list ≡ done = e in cc)
    by_tests true false e = absurd (let bad : refused no_message ≡ done = e in cc)
    by_tests true true e = (refl, refl)

-- what a command that sets it leaves, and what stays of it under others
module _ (list key : List ℕ) (change : Message → Message) (Says : Message → Type 0) (sets : (m : Message) → Says (change m))
    (names : (m : Message) → is_message_at_key list key (change m) ≡ is_message_at_key list key m) (a b : Archive)
    (left : (has_message a list key ≡ true) × (b ≡ with_changed_message a list key change)) where
  set_stands : Stands list key Says b
  set_stands = subst (Stands list key Says) (sym left.1)
      (there_still list key Says list key change names a.messages ∙ left.0, all_set list key change Says sets names a.messages)

pub withdrawn_stays : (a : Archive) (list key : List ℕ) (party : ℤ) (commands : List Command) → party ≢ pos 0 → (step a (withdraw list key party)).1 ≡ done
    → NoCommandSatisfies (ends_withdrawal list key) commands → HoldsForMessageAtKey (run (step a (withdraw list key party)).0 commands).archive list key (IsBy party)
withdrawn_stays a list key party commands some is none =
    (run_keeps (Stands list key (IsBy party)) (λ c. ends_withdrawal list key c ≡ false) (withdrawal_kept list key party some) (step a (withdraw list key party)).0 commands none
    (set_stands list key (with_withdrawal party) (IsBy party) (λ m. refl) (λ m. refl) a (step a (withdraw list key party)).0 (withdrawal_left a list key party is))).1

pub embargo_stays : (a : Archive) (list key : List ℕ) (until : ℤ) (commands : List Command) → (step a (embargo list key until)).1 ≡ done
    → NoCommandSatisfies (changes_embargo list key) commands → HoldsForMessageAtKey (run (step a (embargo list key until)).0 commands).archive list key (IsUntil until)
embargo_stays a list key until commands is none =
    (run_keeps (Stands list key (IsUntil until)) (λ c. changes_embargo list key c ≡ false) (embargo_kept list key until) (step a (embargo list key until)).0 commands none
    (set_stands list key (with_embargo (Some until)) (IsUntil until) (λ m. refl) (λ m. refl) a (step a (embargo list key until)).0 (embargo_left a list key until is))).1

-- ---- files of older versions

first_kept : EachCommandKeeps IsVersionOneArchive (λ c. is_unknown_to_version_one c ≡ false)
first_kept = record {
  lists = λ a name q named new is.
      record { options = ap (λ (os : List ListOption). os ++ default_list_option name ∷ []) is.options ∙ sym (map-append default_list_option a.lists (name ∷ [])); addresses = is.addresses };
  persons = λ a name token q named known new free is. record { options = is.options; addresses = is.addresses };
  grants = λ a g q is. record { options = is.options; addresses = is.addresses };
  revokes = λ a person on rank q is. record { options = is.options; addresses = is.addresses };
  messages = λ a on item q new is. record { options = is.options; addresses = is.addresses };
  withdrawals = λ a on key party q free is. record { options = is.options; addresses = is.addresses };
  restores = λ a on key q is. record { options = is.options; addresses = is.addresses };
  embargoes = λ a on key until q is. record { options = is.options; addresses = is.addresses };
  lifts = λ a on key q is. record { options = is.options; addresses = is.addresses };
  merges = λ a other to q is. absurd (true≢false q);
  addresses = λ a person address q known is. absurd (true≢false q);
}

second_kept : EachCommandKeeps IsVersionTwoArchive (λ c. is_address_set c ≡ false)
second_kept = record {
  lists = λ a name q named new is. is;
  persons = λ a name token q named known new free is. is;
  grants = λ a g q is. is;
  revokes = λ a person on rank q is. is;
  messages = λ a on item q new is. is;
  withdrawals = λ a on key party q free is. is;
  restores = λ a on key q is. is;
  embargoes = λ a on key until q is. is;
  lifts = λ a on key q is. is;
  merges = λ a other to q is. is;
  addresses = λ a person address q known is. absurd (true≢false q);
}

pub of_first : (a : Archive) (commands : List Command) → NoCommandSatisfies is_unknown_to_version_one commands → IsVersionOneArchive a → IsVersionOneArchive (run a commands).archive
of_first a commands none = run_keeps IsVersionOneArchive (λ c. is_unknown_to_version_one c ≡ false) first_kept a commands none

pub of_second : (a : Archive) (commands : List Command) → NoCommandSatisfies is_address_set commands → IsVersionTwoArchive a → IsVersionTwoArchive (run a commands).archive
of_second a commands none = run_keeps IsVersionTwoArchive (λ c. is_address_set c ≡ false) second_kept a commands none
