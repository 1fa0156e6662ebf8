-- A text as pieces: comments, closed quoted strings, msg-ids and single bytes.
use Rattle.std.specs.Prelude.{◌≡◌, ℕ, ◌++◌, List, [], ◌∷◌, ◌⊎◌}
use Rattle.mail_core.specs.Comments.{IsComment}
use Rattle.mail_core.specs.Quotes.{IsClosedQuote}
use Rattle.mail_core.specs.MsgIds.{MessageId, IsMsgId}

-- a stretch of a body: a comment (RFC 5322 section 3.2.2), a quoted string (section 3.2.4), a msg-id with the identity
-- that it stands for (section 3.6.4), or one byte that begins none of these
pub data Piece : Type 0 where
  comment : List ℕ → Piece
  quoted_string : List ℕ → Piece
  msg_id : List ℕ → MessageId → Piece
  single : ℕ → Piece

abbrev pub text_of_piece : Piece → List ℕ
text_of_piece (comment c) = c
text_of_piece (quoted_string q) = q
text_of_piece (msg_id m id) = m
text_of_piece (single b) = b ∷ []

-- a comment, a closed quoted string or a msg-id begins here
abbrev pub BeginsCommentQuoteOrId : List ℕ → Type 0
BeginsCommentQuoteOrId text = (front : List ℕ) × (rest : List ℕ) × (text ≡ front ++ rest)
    × (IsComment front ⊎ ((value : List ℕ) × IsClosedQuote front value) ⊎ ((id : MessageId) × IsMsgId front id))

-- a byte stands alone only where none of the other three begins
abbrev pub IsPieceBefore : Piece → List ℕ → Type 0
IsPieceBefore (comment c) rest = IsComment c
IsPieceBefore (quoted_string q) rest = (value : List ℕ) × IsClosedQuote q value
IsPieceBefore (msg_id m id) rest = IsMsgId m id
IsPieceBefore (single b) rest = ¬ BeginsCommentQuoteOrId (b ∷ rest)

-- the text is these pieces
abbrev pub Pieces : List ℕ → List Piece → Type 0
Pieces text [] = text ≡ []
Pieces text (p ∷ ps) = (rest : List ℕ) × (text ≡ text_of_piece p ++ rest) × IsPieceBefore p rest × Pieces rest ps

-- the identities of the msg-ids, in order
abbrev pub ids_in : List Piece → List MessageId
ids_in [] = []
ids_in (comment c ∷ ps) = ids_in ps
ids_in (quoted_string q ∷ ps) = ids_in ps
ids_in (msg_id m id ∷ ps) = id ∷ ids_in ps
ids_in (single b ∷ ps) = ids_in ps
