-- Closed quoted strings: RFC 5322 section 3.2.4. Profile: any byte may stand in them, line ends too.
use Rattle.std.specs.Prelude.{◌≡◌, ◌≢◌, ℕ, ◌++◌, ◌==◌, List, [], ◌∷◌, Bool, true, false, Option, Some, None, if◌then◌else◌}
use Rattle.mail_core.specs.Bytes.{quote, backslash}

-- What stands between the quotes (`qcontent`): a backslash with any byte (`quoted-pair`), or one byte other than the
-- quote and the backslash (`qtext`), any number of times. Beside it what it means: the same without the backslashes
-- that quote.
pub data IsQuotedContent : List ℕ → List ℕ → Type 0 where
  nothing : IsQuotedContent [] []
  byte : {b : ℕ} {bs vs : List ℕ} → b ≢ quote → b ≢ backslash → IsQuotedContent bs vs → IsQuotedContent (b ∷ bs) (b ∷ vs)
  pair : {b : ℕ} {bs vs : List ℕ} → IsQuotedContent bs vs → IsQuotedContent (backslash ∷ b ∷ bs) (b ∷ vs)

abbrev pub IsClosedQuote : List ℕ → List ℕ → Type 0
IsClosedQuote text value = (inside : List ℕ) × IsQuotedContent inside value × (text ≡ quote ∷ inside ++ quote ∷ [])

pub data QuoteByteKind : Type 0 where
  ending : QuoteByteKind
  escape : QuoteByteKind
  plain : QuoteByteKind

unfoldable pub quote_byte_kind : ℕ → QuoteByteKind
quote_byte_kind b = if b == quote then ending else (if b == backslash then escape else plain)

-- what follows the quote that ends the string; true: the next byte is quoted by a backslash
unfoldable pub after_closing_quote : Bool → List ℕ → Option (List ℕ)
after_closing_quote q [] = None
after_closing_quote true (b ∷ bs) = after_closing_quote false bs
after_closing_quote false (b ∷ bs) = elim (quote_byte_kind b) [
  | ending ↦ Some bs
  | escape ↦ after_closing_quote true bs
  | plain ↦ after_closing_quote false bs
]

-- the text between the quotes without the backslashes that quote
unfoldable pub unquoted : Bool → List ℕ → List ℕ
unquoted q [] = []
unquoted true (b ∷ bs) = b ∷ unquoted false bs
unquoted false (b ∷ bs) = elim (quote_byte_kind b) [
  | ending ↦ b ∷ unquoted false bs
  | escape ↦ unquoted true bs
  | plain ↦ b ∷ unquoted false bs
]
