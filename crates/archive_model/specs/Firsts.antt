-- What a list holds of the items that are added to it, in whatever files and however often they come.
use Rattle.std.specs.Prelude.{ℕ, Bool, List, [], ◌∷◌, ◌++◌, not, take, map, filter, bytes_eq, if◌then◌else◌}
use Rattle.std.specs.List.{list_any}
use Rattle.mbox_items.specs.Division.{Item}
use Rattle.archive_model.specs.Records.{Archive}
use Rattle.archive_model.specs.Keys.{item_key}
use Rattle.archive_model.specs.Questions.{messages_in}
use Rattle.archive_model.specs.Machine.{is_too_large}

-- neither its whole text nor its sender is too long
abbrev pub is_small_enough : Item → Bool
is_small_enough item = not (is_too_large item)

abbrev pub is_among : List (List ℕ) → List ℕ → Bool
is_among keys key = list_any (λ k. bytes_eq k key) keys

-- those whose key is none of these, and that of none before them
abbrev pub first_of_each_new_key : (keys : List (List ℕ)) → List Item → List Item
first_of_each_new_key keys [] = []
first_of_each_new_key keys (item ∷ items) = if is_among keys (item_key item) then first_of_each_new_key keys items else item ∷ first_of_each_new_key (keys ++ item_key item ∷ []) items

-- of those that are small enough the first of each new key, up to so many
abbrev pub accepted_items : (room : ℕ) → (keys : List (List ℕ)) → List Item → List Item
accepted_items room keys items = take room (first_of_each_new_key keys (filter is_small_enough items))

-- the keys that a list holds
abbrev pub keys_in : Archive → List ℕ → List (List ℕ)
keys_in archive list = map (λ m. m.key) (messages_in archive list)
