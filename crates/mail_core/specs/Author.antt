-- The author key of a message: who stands in its From field (RFC 5322 section 3.6.2), in a form that can be compared.
-- Profile: the text between the last `<` and the first `>` behind it is taken for the address, else the whole body.
use Rattle.std.specs.Prelude.{ℕ, ◌==◌, List, [], ◌∷◌, map, Option, Some, None, codes, option_map, if◌then◌else◌}
use Rattle.std.specs.Option.{option_and_then}
use Rattle.std.specs.Char.{to_ascii_lowercase}
use Rattle.mail_core.specs.Bytes.{less_than, greater_than}
use Rattle.mail_core.specs.Fields.{is_wsp, field_of, unfolded, skip_wsp}

-- what follows the last byte k
abbrev pub after_last_byte : ℕ → List ℕ → Option (List ℕ)
after_last_byte k [] = None
after_last_byte k (b ∷ bs) = elim (after_last_byte k bs) [
  | Some rest ↦ Some rest
  | None ↦ if b == k then Some bs else None
]

-- what stands before the first byte k
abbrev pub before_byte : ℕ → List ℕ → Option (List ℕ)
before_byte k [] = None
before_byte k (b ∷ bs) = if b == k then Some [] else option_map (λ (front : List ℕ). b ∷ front) (before_byte k bs)

-- the text between the last `<` and the first `>` behind it
abbrev pub text_in_angle_brackets : List ℕ → Option (List ℕ)
text_in_angle_brackets text = option_and_then (before_byte greater_than) (after_last_byte less_than text)

abbrev pub address_in : List ℕ → List ℕ
address_in text = elim (text_in_angle_brackets text) [ Some address ↦ address | None ↦ text ]

-- without the spaces and tabs at its ends
abbrev pub trim_end : List ℕ → List ℕ
trim_end [] = []
trim_end (b ∷ bs) = elim (trim_end bs) [
  | [] ↦ if is_wsp b then [] else b ∷ []
  | c ∷ cs ↦ b ∷ c ∷ cs
]

-- the text between its leading and its trailing WSP (RFC 5234: space or tab); empty where it is WSP alone
abbrev pub trimmed : List ℕ → List ℕ
trimmed text = trim_end (skip_wsp text)

-- the key of an unfolded From body: in ASCII lower case
abbrev pub author_in : List ℕ → List ℕ
author_in body = map to_ascii_lowercase (trimmed (address_in body))

-- the author key by a From body that may still be folded; Profile: without a From field the key is empty
abbrev pub author_of_body : Option (List ℕ) → List ℕ
author_of_body (Some body) = author_in (unfolded body)
author_of_body None = []

-- empty where there is no From field
abbrev pub author_of : List ℕ → List ℕ
author_of text = author_of_body (field_of text (codes "from"))
