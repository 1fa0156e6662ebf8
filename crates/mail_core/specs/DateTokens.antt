-- A Date body as tokens: RFC 5322 section 3.3. Profile: white space and comments may stand between any two tokens and
-- are needed between none, and any other byte is a token of its own.
use Rattle.std.specs.Prelude.{ℕ, zero, suc, ◌-◌, ◌==◌, ◌||◌, List, [], ◌∷◌, Bool, true, false, Option, Some, None, length, if◌then◌else◌}
use Rattle.std.specs.List.{prefix_len, take_while}
use Rattle.std.specs.Char.{is_ascii_alphabetic}
use Rattle.mail_core.specs.Bytes.{tab, lf, cr, space, open_paren}
use Rattle.mail_core.specs.Comments.{after_closing_paren}
use Rattle.civil_time.specs.Digits.{is_digit}

pub data Token : Type 0 where
  digits : List ℕ → Token
  letters : List ℕ → Token
  sign : ℕ → Token

-- white space between tokens
abbrev pub is_white : ℕ → Bool
is_white b = (b == space) || (b == tab) || (b == cr) || (b == lf)

-- what a byte may begin
pub data TokenByteKind : Type 0 where
  white : TokenByteKind
  digit : TokenByteKind
  letter : TokenByteKind
  paren : TokenByteKind
  other : TokenByteKind

abbrev pub byte_kind_by_tests : Bool → Bool → Bool → Bool → TokenByteKind
byte_kind_by_tests true _ _ _ = white
byte_kind_by_tests false true _ _ = digit
byte_kind_by_tests false false true _ = letter
byte_kind_by_tests false false false true = paren
byte_kind_by_tests false false false false = other

unfoldable pub token_byte_kind : ℕ → TokenByteKind
token_byte_kind b = byte_kind_by_tests (is_white b) (is_digit b) (is_ascii_alphabetic b) (b == open_paren)

-- The token that begins with b, and how many bytes behind b belong to it. White space and comments are no tokens.
-- A run of digits or of letters is the longest one.
unfoldable pub token_at : ℕ → List ℕ → Option Token × ℕ
token_at b bs = elim (token_byte_kind b) [
  | white ↦ (None, 0)
  | digit ↦ (Some (digits (take_while is_digit (b ∷ bs))), prefix_len is_digit bs)
  | letter ↦ (Some (letters (take_while is_ascii_alphabetic (b ∷ bs))), prefix_len is_ascii_alphabetic bs)
  | paren ↦ elim (after_closing_paren false 1 bs) [ None ↦ (Some (sign b), 0) | Some rest ↦ (None, length bs - length rest) ]
  | other ↦ (Some (sign b), 0)
]

-- the token put in front, where there is one
abbrev pub add_token : Option Token → List Token → List Token
add_token None ts = ts
add_token (Some t) ts = t ∷ ts

-- the tokens behind the first k bytes
unfoldable pub tokens_from : ℕ → List ℕ → List Token
tokens_from k [] = []
tokens_from (suc k) (b ∷ bs) = tokens_from k bs
tokens_from zero (b ∷ bs) = let t = token_at b bs in add_token t.0 (tokens_from t.1 bs)

unfoldable pub tokens_of : List ℕ → List Token
tokens_of body = tokens_from 0 body

-- the digits that come first, and what follows them
abbrev pub leading_digits_token : List Token → Option (List ℕ × List Token)
leading_digits_token (digits d ∷ ts) = Some (d, ts)
leading_digits_token _ = None

-- the letters that come first, and what follows them
abbrev pub leading_letters_token : List Token → Option (List ℕ × List Token)
leading_letters_token (letters w ∷ ts) = Some (w, ts)
leading_letters_token _ = None

-- the single byte that comes first, and what follows it
abbrev pub leading_byte_token : List Token → Option (ℕ × List Token)
leading_byte_token (sign b ∷ ts) = Some (b, ts)
leading_byte_token _ = None

-- what follows this byte, where it comes first
abbrev pub after_byte_token : ℕ → List Token → Option (List Token)
after_byte_token k (sign b ∷ ts) = if b == k then Some ts else None
after_byte_token k _ = None
