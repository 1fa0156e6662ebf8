-- Msg-ids: RFC 5322 section 3.6.4. Profile: any printable byte may stand in them, no white space, and the last `@`
-- divides the left side from the right one.
use Rattle.std.specs.Prelude.{◌≡◌, ◌≢◌, ℕ, zero, suc, ◌++◌, ◌==◌, List, [], ◌∷◌, Bool, true, false, not, ◌&&◌, nat_le, IsTrue, option_map, Option, Some, None, ◌⊎◌, length, ◌-◌, take, ◌+◌}
use Rattle.std.specs.List.{AllByRecursion}
use Rattle.std.specs.Option.{option_and_then}
use Rattle.mail_core.specs.Bytes.{quote, open_paren, less_than, greater_than, at_sign}
use Rattle.mail_core.specs.Comments.{after_closing_paren}
use Rattle.mail_core.specs.Quotes.{IsClosedQuote, after_closing_quote, unquoted}

-- the identity that a msg-id stands for
pub record MessageId : Type 0 where
  pub left : List ℕ
  pub right : List ℕ

abbrev pub is_id_byte : ℕ → Bool
is_id_byte b = nat_le 33 b && nat_le b 126 && not (b == less_than) && not (b == greater_than)

unfoldable pub is_id_left_byte : ℕ → Bool
is_id_left_byte b = is_id_byte b && not (b == quote)

unfoldable pub is_id_right_byte : ℕ → Bool
is_id_right_byte b = is_id_byte b && not (b == at_sign)

-- one or more of these bytes
abbrev pub OneOrMore : (ℕ → Bool) → List ℕ → Type 0
OneOrMore test bs = (bs ≢ []) × AllByRecursion (λ b. IsTrue (test b)) bs

-- < left @ right >, where left is a closed quoted string or bytes
abbrev pub IsMsgId : List ℕ → MessageId → Type 0
IsMsgId text id =
    (local : List ℕ) × (IsClosedQuote local id.left ⊎ ((local ≡ id.left) × OneOrMore is_id_left_byte id.left)) × OneOrMore is_id_right_byte id.right
    × (text ≡ less_than ∷ local ++ at_sign ∷ id.right ++ greater_than ∷ [])

-- what follows this byte, where the text begins with it
abbrev pub after_leading_byte : ℕ → List ℕ → Option (List ℕ)
after_leading_byte k [] = None
after_leading_byte k (b ∷ bs) = elim (b == k) [ true ↦ Some bs | false ↦ None ]

abbrev pub prepend_byte : ℕ → List ℕ × List ℕ → List ℕ × List ℕ
prepend_byte b w = (b ∷ w.0, w.1)

-- the bytes of a right side up to >, and what follows it
unfoldable pub id_right_to_close : List ℕ → Option (List ℕ × List ℕ)
id_right_to_close [] = None
id_right_to_close (b ∷ bs) = elim (is_id_right_byte b) [
  | true ↦ option_map (prepend_byte b) (id_right_to_close bs)
  | false ↦ option_map (λ (rest : List ℕ). ([], rest)) (after_leading_byte greater_than (b ∷ bs))
]

-- a right side of a byte or more, and what follows its >
abbrev pub nonempty_id_right : List ℕ → Option (List ℕ × List ℕ)
nonempty_id_right [] = None
nonempty_id_right (b ∷ bs) = elim (is_id_right_byte b) [ true ↦ id_right_to_close (b ∷ bs) | false ↦ None ]

abbrev pub Sides : Type 0
Sides = List ℕ × List ℕ × List ℕ

abbrev pub prepend_to_left : ℕ → Sides → Sides
prepend_to_left b w = (b ∷ w.0, w.1, w.2)

-- bytes of a left side, @, a right side, > and what follows: the last @ divides
unfoldable pub sides_of : List ℕ → Option Sides
sides_of [] = None
sides_of (b ∷ bs) = elim (is_id_left_byte b) [
  | false ↦ None
  | true ↦ elim (sides_of bs) [
    | Some w ↦ Some (prepend_to_left b w)
    | None ↦ option_and_then (λ (r : List ℕ). option_map (λ (w : List ℕ × List ℕ). ([], w.0, w.1)) (nonempty_id_right r)) (after_leading_byte at_sign (b ∷ bs))
  ]
]

-- the identity with the left side bs up to the rest and a quote
abbrev pub id_with_quoted_left : List ℕ → List ℕ → List ℕ × List ℕ → MessageId × List ℕ
id_with_quoted_left bs rest w = (record { left = unquoted false (take (length bs - (length rest + 1)) bs); right = w.0 }, w.1)

-- the identity and what follows, behind <"
abbrev pub quoted_id : List ℕ → Option (MessageId × List ℕ)
quoted_id bs =
    option_and_then (λ (rest : List ℕ). option_and_then (λ (r : List ℕ). option_map (id_with_quoted_left bs rest) (nonempty_id_right r)) (after_leading_byte at_sign rest))
    (after_closing_quote false bs)

abbrev pub id_of_plain_sides : Sides → Option (MessageId × List ℕ)
id_of_plain_sides ([], r, rest) = None
id_of_plain_sides (b ∷ l, r, rest) = Some (record { left = b ∷ l; right = r }, rest)

-- the same behind < where no quote follows
abbrev pub plain_id : List ℕ → Option (MessageId × List ℕ)
plain_id bs = option_and_then id_of_plain_sides (sides_of bs)

-- the identity of the msg-id that begins the text, and what follows it
unfoldable pub id_at : List ℕ → Option (MessageId × List ℕ)
id_at [] = None
id_at (a ∷ []) = None
id_at (a ∷ b ∷ bs) = elim (a == less_than) [
  | false ↦ None
  | true ↦ elim (b == quote) [ true ↦ quoted_id bs | false ↦ plain_id (b ∷ bs) ]
]

-- what the piece that begins the text, b and then bs, leaves behind it, and its identity
unfoldable pub next_piece_id_and_rest : ℕ → List ℕ → Option MessageId × List ℕ
next_piece_id_and_rest b bs = elim (b == open_paren) [
  | true ↦ elim (after_closing_paren false 1 bs) [ Some rest ↦ (None, rest) | None ↦ (None, bs) ]
  | false ↦ elim (b == quote) [
    | true ↦ elim (after_closing_quote false bs) [ Some rest ↦ (None, rest) | None ↦ (None, bs) ]
    | false ↦ elim (id_at (b ∷ bs)) [ Some w ↦ (Some w.0, w.1) | None ↦ (None, bs) ]
  ]
]

-- the identity put in front, where there is one
abbrev pub add_identity : Option MessageId → List MessageId → List MessageId
add_identity None ids = ids
add_identity (Some id) ids = id ∷ ids

-- the identities behind the first k bytes
unfoldable pub ids_from : ℕ → List ℕ → List MessageId
ids_from k [] = []
ids_from (suc k) (b ∷ bs) = ids_from k bs
ids_from zero (b ∷ bs) =
    let next = next_piece_id_and_rest b bs in add_identity next.0 (ids_from (length bs - length next.1) bs)

-- The identities of all msg-ids in an unfolded body, in order and with repeats (RFC 5322 section 3.6.4).
-- What stands in a comment or in a quoted string is no msg-id.
abbrev pub ids_of : List ℕ → List MessageId
ids_of text = ids_from 0 text
