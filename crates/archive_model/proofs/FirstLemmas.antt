-- What a list holds of the items that are added to it.
use Rattle.std.proofs.Common.{◌≡◌, ℕ, ◌+◌, zero, suc, Bool, true, false, ◌||◌, ◌&&◌, cond, List, [], ◌∷◌, ◌++◌, length, take, map, refl, ap, sym, ◌∙◌, subst, arith, Some, is_some, if◌then◌else◌}
use Rattle.std.specs.Prelude.{not, filter, find, bytes_eq, nat_le}
use Rattle.std.specs.List.{list_any}
use Rattle.std.proofs.lemmas.Bool.Decides.{nat_tests}
use Rattle.std.proofs.lemmas.List.{append-nil, map-append, length-append, append_assoc}
use Rattle.std.proofs.lemmas.List.Elements.{filter-append}
use Rattle.std.proofs.lemmas.Slice.Eq.{bytes_eq-Decides}
use Rattle.mbox_items.specs.Division.{Item}
use Rattle.archive_model.specs.Records.{Message, Archive}
use Rattle.archive_model.specs.Commands.{add}
use Rattle.archive_model.specs.Keys.{item_key}
use Rattle.archive_model.specs.Questions.{has_list, has_message, is_message_at_key, messages_in}
use Rattle.archive_model.specs.Machine.{new_message, with_message, is_too_large, message_limit, step}
use Rattle.archive_model.specs.Runs.{run, taken}
use Rattle.archive_model.specs.Firsts.{is_small_enough, is_among, first_of_each_new_key, accepted_items, keys_in}

-- whether the list holds a key, by the archive's messages and by the list's
held_key : (list key : List ℕ) (ms : List Message)
    → is_some (find (is_message_at_key list key) ms) ≡ list_any (λ k. bytes_eq k key) (map (λ (m : Message). m.key) (filter (λ (m : Message). bytes_eq m.list list) ms))
held_key list key [] = refl
held_key list key (m ∷ ms) = cases (bytes_eq m.list list) (bytes_eq m.key key) refl (held_key list key ms)
  where
    others : List Message
    others = filter (λ (m : Message). bytes_eq m.list list) ms

    cases : (b c : Bool) → bytes_eq m.key key ≡ c
        → is_some (find (is_message_at_key list key) ms) ≡ list_any (λ k. bytes_eq k key) (map (λ (m : Message). m.key) others)
        → is_some (cond (b && c) (Some m) (find (is_message_at_key list key) ms)) ≡ list_any (λ k. bytes_eq k key) (map (λ (m : Message). m.key) (cond b (m ∷ others) others))
    cases true true e later = rw e refl
    cases true false e later = rw e later
    cases false c e later = later

pushed : (a : Archive) (list : List ℕ) (item : Item)
    → messages_in (with_message a list item) list ≡ messages_in a list ++ new_message list item ∷ []
pushed a list item =
    filter-append (λ (m : Message). bytes_eq m.list list) a.messages (new_message list item ∷ [])
    ∙ ap (λ (xs : List Message). messages_in a list ++ xs) (rw ((bytes_eq-Decides list list).1 refl) refl)

abbrev none : List Item
none = []

take_none : (n : ℕ) → take n none ≡ none
take_none zero = refl
take_none (suc n) = refl

no_room : (n room : ℕ) → n + room ≡ 50000 → nat_le message_limit n ≡ true → room ≡ 0
no_room n room fits full = grind (arith, nat_tests, fits, full)

some_room : (n room : ℕ) → n + room ≡ 50000 → nat_le message_limit n ≡ false → (r : ℕ) × (room ≡ suc r) × (n + 1 + r ≡ 50000)
some_room n zero fits full = absurd (grind (arith, nat_tests, fits, full))
some_room n (suc r) fits full = (r, refl, omega (arith, fits))

abbrev Holds : Archive → List ℕ → (room : ℕ) → List Item → Type 0
Holds a list room items = messages_in (taken a list items).archive list ≡ messages_in a list ++ map (new_message list) (accepted_items room (keys_in a list) items)

-- what is to be shown of the items behind the first
abbrev Later : List ℕ → List Item → Type 0
Later list items = (b : Archive) (r : ℕ) → has_list b list ≡ true → length (messages_in b list) + r ≡ 50000 → Holds b list r items

module _ (list : List ℕ) (item : Item) (items : List Item) (a : Archive) (room : ℕ) (there : has_list a list ≡ true) (fits : length (messages_in a list) + room ≡ 50000)
    (later : Later list items) where
  stays : (step a (add list item)).0 ≡ a → accepted_items room (keys_in a list) (item ∷ items) ≡ accepted_items room (keys_in a list) items → Holds a list room (item ∷ items)
  unfolding run
  stays same drops =
      ap (λ (b : Archive). messages_in (taken b list items).archive list) same ∙ later a room there fits
      ∙ sym (ap (λ (xs : List Item). messages_in a list ++ map (new_message list) xs) drops)

  at_place : is_too_large item ≡ false → has_message a list (item_key item) ≡ false → (full : Bool) → nat_le message_limit (length (messages_in a list)) ≡ full
      → Holds a list room (item ∷ items)
  unfolding run
  at_place small new true full =
      let empty = no_room (length (messages_in a list)) room fits full in
      stays (rw (there, small, new, full) refl) (rw empty refl)
  at_place small new false full =
      let some = some_room (length (messages_in a list)) room fits full in
      let b : Archive = with_message a list item in
      let is : (step a (add list item)).0 ≡ b = rw (there, small, new, full) refl in
      let more = pushed a list item in
      let fits_b : length (messages_in b list) + some.0 ≡ 50000 = rw more (rw (length-append (messages_in a list) (new_message list item ∷ [])) some.2) in
      let keys : keys_in b list ≡ keys_in a list ++ item_key item ∷ [] = ap (map (λ (m : Message). m.key)) more ∙ map-append (λ (m : Message). m.key) (messages_in a list)
      (new_message list item ∷ []) in
      let unknown : is_among (keys_in a list) (item_key item) ≡ false = sym (held_key list (item_key item) a.messages) ∙ new in
      let rest : List Item = first_of_each_new_key (keys_in a list ++ item_key item ∷ []) (filter is_small_enough items) in
      let shown : first_of_each_new_key (keys_in a list) (filter is_small_enough (item ∷ items)) ≡ item ∷ rest = rw (small, unknown) refl in
      let last : accepted_items room (keys_in a list) (item ∷ items) ≡ item ∷ accepted_items some.0 (keys_in a list ++ item_key item ∷ []) items =
      ap (λ (xs : List Item). take room xs) shown ∙ ap (λ (r : ℕ). take r (item ∷ rest)) some.1 in
      ap (λ (x : Archive). messages_in (taken x list items).archive list) is ∙ later b some.0 there fits_b
      ∙ ap (λ (ms : List Message). ms ++ map (new_message list) (accepted_items some.0 (keys_in b list) items)) more
      ∙ ap (λ (ks : List (List ℕ)). (messages_in a list ++ new_message list item ∷ []) ++ map (new_message list) (accepted_items some.0 ks items)) keys
      ∙ append_assoc (messages_in a list) (new_message list item ∷ []) (map (new_message list) (accepted_items some.0 (keys_in a list ++ item_key item ∷ []) items))
      ∙ sym (ap (λ (xs : List Item). messages_in a list ++ map (new_message list) xs) last)

  by_key : is_too_large item ≡ false → (known : Bool) → has_message a list (item_key item) ≡ known → Holds a list room (item ∷ items)
  by_key small true known =
      let among : is_among (keys_in a list) (item_key item) ≡ true = sym (held_key list (item_key item) a.messages) ∙ known in
      stays (rw (there, small, known) refl) (rw (small, among) refl)
  by_key small false new = at_place small new (nat_le message_limit (length (messages_in a list))) refl

  by_size : (is_large : Bool) → is_too_large item ≡ is_large → Holds a list room (item ∷ items)
  by_size true large = stays (rw (there, large) refl) (rw large refl)
  by_size false small = by_key small (has_message a list (item_key item)) refl

pub holds : (list : List ℕ) (items : List Item) (a : Archive) (room : ℕ) → has_list a list ≡ true → length (messages_in a list) + room ≡ 50000 → Holds a list room items
unfolding run
holds list [] a room there fits =
    sym (ap (λ (xs : List Item). messages_in a list ++ map (new_message list) xs) (take_none room) ∙ append-nil (messages_in a list))
holds list (item ∷ items) a room there fits =
    by_size list item items a room there fits (λ b r t f. holds list items b r t f) (is_too_large item) refl
