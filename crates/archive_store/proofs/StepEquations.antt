-- What the machine does, case by case.
use Rattle.std.proofs.Common.{◌≡◌, ℕ, length, List, [], ◌∷◌, Bool, true, false, ◌||◌, cond, Option, Some, is_some, refl, sym, subst, ◌∙◌}
use Rattle.std.specs.Prelude.{⊤, nat_le, find}
use Rattle.std.specs.List.{list_any}
use Rattle.mbox_items.specs.Division.{Item}
use Rattle.archive_model.specs.Records.{Archive}
use Rattle.archive_model.specs.Commands.{list_full, taken_in, already_known, refused}
use Rattle.archive_model.specs.Keys.{item_key}
use Rattle.archive_model.specs.Questions.{has_list, is_message_at_key, messages_in}
use Rattle.archive_model.specs.Machine.{with_message_under_key, add_within_limit, is_too_large}

found : {X : Type 0} (b : Bool) (x : X) (o : Option X) (c : Bool) → is_some o ≡ c → is_some (cond b (Some x) o) ≡ (b || c)
found true x o c h = refl
found false x o c h = h

pub is_some-find : {X : Type 0} (p : X → Bool) (xs : List X) → is_some (find p xs) ≡ list_any p xs
is_some-find p [] = refl
is_some-find p (x ∷ xs) = found (p x) x (find p xs) (list_any p xs) (is_some-find p xs)

-- the message that comes in is known by its key
known_by : (a : Archive) (list key k : List ℕ) (there : Bool) → k ≡ key → there ≡ list_any (is_message_at_key list k) a.messages
    → is_some (find (is_message_at_key list key) a.messages) ≡ there
known_by a list key k there e h =
    is_some-find (is_message_at_key list key) a.messages ∙ subst (λ k. list_any (is_message_at_key list k) a.messages ≡ there) e (sym h)

pub add_known : (limit : ℕ) (list k : List ℕ) (item : Item) → k ≡ item_key item → false ≡ is_too_large item
    → (a : Archive) → (⊤ × (true ≡ has_list a list)) × (true ≡ list_any (is_message_at_key list k) a.messages)
    → add_within_limit limit a list item ≡ (a, already_known)
add_known limit list k item e small a h = rw (sym h.0.1, sym small, known_by a list (item_key item) k true e h.1) refl

pub add_full : (limit : ℕ) (list k : List ℕ) (item : Item) → k ≡ item_key item → false ≡ is_too_large item
    → (a : Archive) → ((⊤ × (true ≡ has_list a list)) × (false ≡ list_any (is_message_at_key list k) a.messages)) × (true ≡ nat_le limit (length (messages_in a list)))
    → add_within_limit limit a list item ≡ (a, refused list_full)
add_full limit list k item e small a h = rw (sym h.0.0.1, sym small, known_by a list (item_key item) k false e h.0.1, sym h.1) refl

pub add_new : (limit : ℕ) (list k key : List ℕ) (item : Item) → k ≡ key → key ≡ item_key item → false ≡ is_too_large item
    → (a : Archive) → ((⊤ × (true ≡ has_list a list)) × (false ≡ list_any (is_message_at_key list k) a.messages)) × (false ≡ nat_le limit (length (messages_in a list)))
    → add_within_limit limit a list item ≡ (with_message_under_key a list key item, taken_in)
add_new limit list k key item e ek small a h =
    rw ek (rw (sym h.0.0.1, sym small, known_by a list (item_key item) k false (e ∙ ek) h.0.1, sym h.1) refl)
