-- Commands keep what is filed right, and what is filed right is found by the texts.
use Rattle.std.proofs.Common.{◌≡◌, ℕ, ℤ, Bool, true, false, List, [], ◌∷◌, ◌++◌, map, filter, refl, sym, ap, ap₂, ◌∙◌, Option, if◌then◌else◌}
use Rattle.std.specs.Prelude.{⊤, zip}
use Rattle.std.proofs.lemmas.List.{map-append}
use Rattle.mbox_items.specs.Division.{Item, whole}
use Rattle.archive_model.specs.Records.{Message, IndexColumns, Archive}
use Rattle.archive_model.specs.Questions.{is_message_at_key}
use Rattle.archive_model.specs.Filing.{item_index_columns, message_index_columns, IndexedMessage, indexed_messages}
use Rattle.archive_model.specs.Filing.{sort_by_indexed_date, is_indexed_in_month, is_indexed_by_author, messages_in_month, messages_by_author}
use Rattle.archive_model.specs.Machine.{new_message, change_at_key, with_changed_message, with_withdrawal, with_embargo}
use Rattle.archive_model.specs.Sound.{IsIndexedCorrectly}
use Rattle.archive_model.proofs.RunLemmas.{EachChangeKeeps}

-- ---- commands

filings_stay : (list key : List ℕ) (change : Message → Message) → ((m : Message) → message_index_columns (change m) ≡ message_index_columns m)
    → (ms : List Message) → map message_index_columns (map (change_at_key list key change) ms) ≡ map message_index_columns ms
filings_stay list key change same [] = refl
filings_stay list key change same (m ∷ ms) = ap₂ ◌∷◌ (cases (is_message_at_key list key m)) (filings_stay list key change same ms)
  where
    cases : (b : Bool) → message_index_columns (if b then change m else m) ≡ message_index_columns m
    cases true = same m
    cases false = refl

change_files_right : (a : Archive) (list key : List ℕ) (change : Message → Message) → ((m : Message) → message_index_columns (change m) ≡ message_index_columns m)
    → IsIndexedCorrectly a → IsIndexedCorrectly (with_changed_message a list key change)
change_files_right a list key change same right = right ∙ sym (filings_stay list key change same a.messages)

pub files_right : EachChangeKeeps IsIndexedCorrectly (λ _. ⊤)
files_right = record {
  lists = λ a name named new right. right;
  persons = λ a p named told new free right. right;
  grants = λ a g right. right;
  revokes = λ a person list rank right. right;
  messages = λ a list item is new right.
      ap (λ fs. fs ++ item_index_columns item ∷ []) right ∙ sym (map-append message_index_columns a.messages (new_message list item ∷ []));
  withdrawals = λ a list key party. change_files_right a list key (with_withdrawal party) (λ m. refl);
  embargoes = λ a list key until. change_files_right a list key (with_embargo until) (λ m. refl);
  merges = λ a list merge right. right;
  addresses = λ a person address told right. right;
}

-- ---- questions

abbrev pub with_filing : Message → IndexedMessage
with_filing m = (m, message_index_columns m)

zip_map : {A B : Type 0} (f : A → B) (xs : List A) → zip xs (map f xs) ≡ map (λ x. (x, f x)) xs
zip_map f [] = refl
zip_map f (x ∷ xs) = ap (λ ys. (x, f x) ∷ ys) (zip_map f xs)

pub filed_is : (a : Archive) → IsIndexedCorrectly a → indexed_messages a ≡ map with_filing a.messages
filed_is a right = ap (zip a.messages) right ∙ zip_map message_index_columns a.messages

pub month_by_texts : (a : Archive) (list : List ℕ) (month : ℤ) → IsIndexedCorrectly a
    → messages_in_month a list month ≡ map (λ (f : IndexedMessage). f.0) (sort_by_indexed_date (filter (is_indexed_in_month list month) (map with_filing a.messages)))
month_by_texts a list month right = ap (λ fs. map (λ (f : IndexedMessage). f.0) (sort_by_indexed_date (filter (is_indexed_in_month list month) fs))) (filed_is a right)

pub author_by_texts : (a : Archive) (list key : List ℕ) → IsIndexedCorrectly a
    → messages_by_author a list key ≡ map (λ (f : IndexedMessage). f.0) (sort_by_indexed_date (filter (is_indexed_by_author list key) (map with_filing a.messages)))
author_by_texts a list key right = ap (λ fs. map (λ (f : IndexedMessage). f.0) (sort_by_indexed_date (filter (is_indexed_by_author list key) fs))) (filed_is a right)
