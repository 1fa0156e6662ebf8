-- The senders of the code, and their written form.
use Rattle.std.specs.Prelude.{◌≡◌, ℕ, ◌+◌, List, [], ◌∷◌, take, drop, true, Option, None, Some, codes}
use Rattle.mbox_items.specs.Separator.{AreTokensOfSender, is_sender_token, joined_by_spaces}
use Rattle.mbox_items.specs.declared.senders.Sender.{Sender}
use Rattle.mbox_items.specs.declared.senders.Sender.TheVariants.{One, At}

-- its tokens are tokens
abbrev pub IsSender : Sender → Type 0
IsSender (One token) = is_sender_token token.now ≡ true
IsSender (At left right) = (is_sender_token left.now ≡ true) × (is_sender_token right.now ≡ true)

-- the token, or both with `at` between them and one space at each side of it
abbrev pub sender_text : Sender → List ℕ
sender_text (One token) = token.now
sender_text (At left right) = joined_by_spaces (left.now ∷ codes "at" ∷ right.now ∷ [])

-- where the space before `at` stands in the written form of a sender: one token stands before it, and the other after
-- ` at `; None: the whole is one token
abbrev pub IsPlaceOfAt : Option ℕ → List ℕ → Type 0
IsPlaceOfAt None text = AreTokensOfSender (text ∷ []) text
IsPlaceOfAt (Some place) text = AreTokensOfSender (take place text ∷ codes "at" ∷ drop (place + 4) text ∷ []) text
