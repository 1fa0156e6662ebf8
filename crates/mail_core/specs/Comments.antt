-- Comments: RFC 5322 section 3.2.2. Profile: a text is unfolded before it is read, so line ends are ordinary bytes.
use Rattle.std.specs.Prelude.{◌≡◌, ◌≢◌, ℕ, zero, suc, ◌++◌, ◌==◌, List, [], ◌∷◌, Bool, true, false, Option, Some, None, if◌then◌else◌}
use Rattle.mail_core.specs.Bytes.{open_paren, close_paren, backslash}

-- What stands between the parentheses (`ccontent`): a comment, a backslash with any byte (`quoted-pair`), or one byte
-- other than the parentheses and the backslash (`ctext`), any number of times.
pub data IsCommentContent : List ℕ → Type 0 where
  nothing : IsCommentContent []
  byte : {b : ℕ} {bs : List ℕ} → b ≢ open_paren → b ≢ close_paren → b ≢ backslash → IsCommentContent bs → IsCommentContent (b ∷ bs)
  quoted : {b : ℕ} {bs : List ℕ} → IsCommentContent bs → IsCommentContent (backslash ∷ b ∷ bs)
  comment : {inner bs : List ℕ} → IsCommentContent inner → IsCommentContent bs → IsCommentContent (open_paren ∷ inner ++ close_paren ∷ bs)

-- a whole comment
abbrev pub IsComment : List ℕ → Type 0
IsComment text = (inner : List ℕ) × IsCommentContent inner × (text ≡ open_paren ∷ inner ++ close_paren ∷ [])

-- a comment begins the text, and rest follows it
abbrev pub BeginsWithComment : List ℕ → List ℕ → Type 0
BeginsWithComment text rest = (c : List ℕ) × IsComment c × (text ≡ c ++ rest)

-- The same by a count of depth: what a byte of a comment does to it. (`depth_count_finds_comments` proves the two equal.)
pub data CommentByteKind : Type 0 where
  opening : CommentByteKind
  closing : CommentByteKind
  escape : CommentByteKind
  ordinary : CommentByteKind

unfoldable pub comment_byte_kind : ℕ → CommentByteKind
comment_byte_kind b = if b == open_paren then opening else (if b == close_paren then closing else (if b == backslash then escape else ordinary))

-- what follows the byte that brings the depth to 0; true: the next byte is quoted by a backslash
unfoldable pub after_closing_paren : Bool → ℕ → List ℕ → Option (List ℕ)
after_closing_paren q zero bs = Some bs
after_closing_paren q (suc d) [] = None
after_closing_paren true (suc d) (b ∷ bs) = after_closing_paren false (suc d) bs
after_closing_paren false (suc d) (b ∷ bs) = elim (comment_byte_kind b) [
  | opening ↦ after_closing_paren false (suc (suc d)) bs
  | closing ↦ after_closing_paren false d bs
  | escape ↦ after_closing_paren true (suc d) bs
  | ordinary ↦ after_closing_paren false (suc d) bs
]

-- what follows the comment that begins the text, if one does
abbrev pub after_comment : List ℕ → Option (List ℕ)
after_comment [] = None
after_comment (b ∷ bs) = if b == open_paren then after_closing_paren false 1 bs else None
