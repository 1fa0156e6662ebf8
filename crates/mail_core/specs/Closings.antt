-- Which comments of a text are closed, from the last place back.
use Rattle.std.specs.Prelude.{ℕ, ◌+◌, ◌-◌, ◌++◌, List, [], ◌∷◌, Bool, true, false, nat_lt}
use Rattle.mail_core.specs.Comments.{CommentByteKind, comment_byte_kind}
use Rattle.mail_core.specs.Comments.CommentByteKind.{opening, closing, escape, ordinary}

-- what a byte makes of the count behind it; `quoted` is that count where a backslash quotes the next byte
abbrev pub closing_count_before : CommentByteKind → (count quoted : ℕ) → ℕ
closing_count_before opening count quoted = count - 1
closing_count_before closing count quoted = count + 1
closing_count_before escape count quoted = quoted
closing_count_before ordinary count quoted = count

-- how many of the comments that are open before a text it closes; true: its first byte is quoted by a backslash
unfoldable pub comments_closed_in : Bool → List ℕ → ℕ
comments_closed_in q [] = 0
comments_closed_in true (b ∷ bs) = comments_closed_in false bs
comments_closed_in false (b ∷ bs) = closing_count_before (comment_byte_kind b) (comments_closed_in false bs) (comments_closed_in true bs)

-- for each byte, the last one first, whether a comment that it opens is closed behind it
unfoldable pub comment_closed_flags : List ℕ → List Bool
comment_closed_flags [] = []
comment_closed_flags (b ∷ bs) = comment_closed_flags bs ++ nat_lt 0 (comments_closed_in false bs) ∷ []
