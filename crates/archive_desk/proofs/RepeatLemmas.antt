-- Messages that are added again: the first so many, and then all, make the same archive as all.
use Rattle.std.proofs.Common.{◌≡◌, ◌⊎◌, inl, inr, refl, ap, sym, subst, ◌∙◌, arith, ℕ, ◌+◌, Bool, true, ◌||◌, List, [], ◌∷◌, ◌++◌, length, take, drop, map, filter, is_some, Option, length-append}
use Rattle.std.specs.Prelude.{⊤, not, if◌then◌else◌, bytes_eq, find, nat_le}
use Rattle.std.proofs.lemmas.Bool.Decides.{nat_tests}
use Rattle.std.proofs.lemmas.List.{map-append, take-append-drop}
use Rattle.std.proofs.lemmas.List.Elements.{filter-append}
use Rattle.std.proofs.lemmas.Slice.Eq.{bytes_eq-Decides}
use Rattle.std.specs.Option.{option_or}
use Rattle.std.proofs.lemmas.List.Folds.{find-append}
use Rattle.mbox_core.specs.Division.{Item}
use Rattle.mbox_core.proofs.DivisionLaws.{each_text_has_at_most_one_division}
use Rattle.archive_model.specs.Records.{Archive, Message}
use Rattle.archive_model.specs.Commands.{add, refused, no_list, too_large, already_known, list_full, taken_in}
use Rattle.archive_model.specs.Keys.{item_key}
use Rattle.archive_model.specs.Questions.{has_list, has_message, is_message_at_key, messages_in}
use Rattle.archive_model.specs.Machine.{StepOutcome, keyed_message, is_too_large, message_limit, step, with_message}
use Rattle.archive_model.specs.Runs.{run, taken}
use Rattle.archive_model.proofs.RunLemmas.{archive_of_both}
use Rattle.archive_port.specs.Adding.{HasAddedAtLeast}
use Rattle.archive_desk.specs.Crashes.{HasImportedAtLeast}
use Rattle.archive_desk.specs.Importing.{IsImported}
use Rattle.archive_desk.specs.declared.importing.Report.{Report}

-- ---- why adding a message changes nothing

-- by the tests of the machine: there is no such list, the message is too large, the list holds it, or it is full
abbrev unless_new : Bool → Bool → Bool → Bool → Bool
unless_new there large known full = not there || (large || (known || full))

abbrev outcome_by : Archive → Archive → Bool → Bool → Bool → Bool → StepOutcome
outcome_by a x there large known full =
    if not there then (a, refused no_list) else if large then (a, refused too_large) else if known then (a, already_known) else if full then (a, refused list_full) else (x, taken_in)

stays_by : (a x : Archive) (there large known full : Bool) → unless_new there large known full ≡ true → (outcome_by a x there large known full).0 ≡ a
stays_by a x there large known full is = grind arith

-- or it is added
either_by : (a x : Archive) (there large known full : Bool)
    → ((outcome_by a x there large known full).0 ≡ a) × (unless_new there large known full ≡ true) ⊎ ((outcome_by a x there large known full).0 ≡ x)
either_by a x there large known full = grind arith

known_by : (there large full : Bool) → unless_new there large true full ≡ true
known_by there large full = grind arith

-- where more is held
more_by : (there large known full known' full' : Bool) → (known ≡ true → known' ≡ true) → (full ≡ true → full' ≡ true) → unless_new there large known full ≡ true
    → unless_new there large known' full' ≡ true
more_by there large known full known' full' knows fills is = grind arith

-- ---- what is held is held with more, too

some_first : (first last : Option Message) → is_some first ≡ true → is_some (option_or first last) ≡ true
some_first first last is = grind arith

some_last : (first last : Option Message) → is_some last ≡ true → is_some (option_or first last) ≡ true
some_last first last is = grind arith

full_still : (n m : ℕ) → nat_le message_limit n ≡ true → nat_le message_limit (n + m) ≡ true
full_still n m full = grind (arith, nat_tests, full)

same_word : (a : List ℕ) → bytes_eq a a ≡ true
same_word a = (bytes_eq-Decides a a).1 refl

is_itself : (list : List ℕ) (item : Item) → is_message_at_key list (item_key item) (keyed_message list (item_key item) item) ≡ true
is_itself list item = rw (same_word list, same_word (item_key item)) refl

-- ---- messages one after the other

module _ (list : List ℕ) where
  -- adding this message changes nothing
  abbrev is_seen : Archive → Item → Bool
  is_seen a item =
      unless_new (has_list a list) (is_too_large item) (has_message a list (item_key item)) (nat_le message_limit (length (messages_in a list)))

  abbrev after : Archive → Item → Archive
  after a item = (step a (add list item)).0

  seen_stays : (a : Archive) (item : Item) → is_seen a item ≡ true → after a item ≡ a
  seen_stays a item seen = stays_by a (with_message a list item) (has_list a list) (is_too_large item) (has_message a list (item_key item))
      (nat_le message_limit (length (messages_in a list))) seen

  either : (a : Archive) (item : Item) → (after a item ≡ a) × (is_seen a item ≡ true) ⊎ (after a item ≡ with_message a list item)
  either a item = either_by a (with_message a list item) (has_list a list) (is_too_large item) (has_message a list (item_key item))
      (nat_le message_limit (length (messages_in a list)))

  -- behind the message itself
  seen_then : (a : Archive) (item : Item) → is_seen (after a item) item ≡ true
  seen_then a item = elim (either a item) [
    | inl same ↦ subst (λ x. is_seen x item ≡ true) (sym same.0) same.1
    | inr is ↦
        (let b = with_message a list item in
        let at_key = is_message_at_key list (item_key item) in
        let m = keyed_message list (item_key item) item in
        let known : has_message b list (item_key item) ≡ true = rw (find-append at_key a.messages (m ∷ []))
        (some_last (find at_key a.messages) (find at_key (m ∷ [])) (rw (is_itself list item) refl)) in
        let seen : is_seen b item ≡ true = subst (λ k. unless_new (has_list b list) (is_too_large item) k
        (nat_le message_limit (length (messages_in b list))) ≡ true) (sym known)
        (known_by (has_list b list) (is_too_large item) (nat_le message_limit (length (messages_in b list)))) in
        subst (λ x. is_seen x item ≡ true) (sym is) seen)
  ]

  -- behind another
  seen_with : (a : Archive) (item other : Item) → is_seen a item ≡ true → is_seen (with_message a list other) item ≡ true
  seen_with a item other seen =
      let m : Message = keyed_message list (item_key other) other in
      let at_key = is_message_at_key list (item_key item) in
      let held : Message → Bool = λ (x : Message). bytes_eq x.list list in
      let longer : length (messages_in (with_message a list other) list) ≡ length (messages_in a list) + length (filter held (m ∷ [])) =
      ap length (filter-append held a.messages (m ∷ [])) ∙ length-append (messages_in a list) (filter held (m ∷ [])) in
      more_by (has_list a list) (is_too_large item) (has_message a list (item_key item)) (nat_le message_limit (length (messages_in a list)))
      (has_message (with_message a list other) list (item_key item)) (nat_le message_limit (length (messages_in (with_message a list other) list)))
      (λ known. rw (find-append at_key a.messages (m ∷ [])) (some_first (find at_key a.messages) (find at_key (m ∷ [])) known))
      (λ full. subst (λ n. nat_le message_limit n ≡ true) (sym longer) (full_still (length (messages_in a list)) (length (filter held (m ∷ []))) full)) seen

  seen_next : (a : Archive) (item other : Item) → is_seen a item ≡ true → is_seen (after a other) item ≡ true
  seen_next a item other seen = elim (either a other) [
    | inl same ↦ subst (λ x. is_seen x item ≡ true) (sym same.0) seen
    | inr is ↦ subst (λ x. is_seen x item ≡ true) (sym is) (seen_with a item other seen)
  ]

  seen_on : (a : Archive) (item : Item) (others : List Item) → is_seen a item ≡ true → is_seen (taken a list others).archive item ≡ true
  unfolding run
  seen_on a item [] seen = seen
  seen_on a item (other ∷ others) seen = seen_on (after a other) item others (seen_next a item other seen)

  abbrev AreSeen : Archive → List Item → Type 0
  AreSeen a [] = ⊤
  AreSeen a (item ∷ items) = (is_seen a item ≡ true) × AreSeen a items

  -- behind some messages each of them is seen
  all_seen : (a : Archive) (items : List Item) → AreSeen (taken a list items).archive items
  unfolding run
  all_seen a [] = tt
  all_seen a (item ∷ items) = (seen_on (after a item) item items (seen_then a item), all_seen (after a item) items)

  none_new : (a : Archive) (items : List Item) → AreSeen a items → (taken a list items).archive ≡ a
  unfolding run
  none_new a [] all = refl
  none_new a (item ∷ items) all = ap (λ x. (taken x list items).archive) (seen_stays a item all.0) ∙ none_new a items all.1

  both : (a : Archive) (xs ys : List Item) → (taken a list (xs ++ ys)).archive ≡ (taken (taken a list xs).archive list ys).archive
  both a xs ys = ap (λ cs. (run a cs).archive) (map-append (add list) xs ys) ∙ archive_of_both a (map (add list) xs) (map (add list) ys)

  repeated : (a : Archive) (some rest : List Item) → (taken (taken a list some).archive list (some ++ rest)).archive ≡ (taken a list (some ++ rest)).archive
  repeated a some rest = both (taken a list some).archive some rest ∙ ap (λ x. (taken x list rest).archive) (none_new (taken a list some).archive some (all_seen a some))
      ∙ sym (both a some rest)

  -- the first so many, and then all
  pub all_again : (a : Archive) (items : List Item) (n : ℕ) → (taken (taken a list (take n items)).archive list items).archive ≡ (taken a list items).archive
  all_again a items n =
      subst (λ is. (taken (taken a list (take n items)).archive list is).archive ≡ (taken a list is).archive) (take-append-drop n items) (repeated a (take n items) (drop n items))

-- ---- a file

pub again_added : (list : List ℕ) (items : List Item) (done : ℕ) (a b : Archive) → HasAddedAtLeast list items done a b → (taken b list items).archive ≡ (taken a list items).archive
again_added list items done a b it = ap (λ x. (taken x list items).archive) it.2.1 ∙ all_again list a items it.0

pub again_imported : (list text : List ℕ) (done : ℕ) (a b c d : Archive) (report whole : Report) → HasImportedAtLeast list text done a b
    → IsImported list text b c report → IsImported list text a d whole → c ≡ d
again_imported list text done a b c d report whole left again once =
    let alike : again.items ≡ once.items = each_text_has_at_most_one_division text again.items once.items again.divides_into_items once.divides_into_items in
    again.adds_all.archive_is ∙ ap (λ is. (taken b list is).archive) alike ∙ same ∙ sym once.adds_all.archive_is
  where
    same : (taken b list once.items).archive ≡ (taken a list once.items).archive
    same = elim left [
      | inl none ↦ ap (λ x. (taken x list once.items).archive) none.1
      | inr some ↦ again_added list once.items done a b (subst (λ is. HasAddedAtLeast list is done a b)
          (each_text_has_at_most_one_division text some.0 once.items some.1 once.divides_into_items) some.2)
    ]
