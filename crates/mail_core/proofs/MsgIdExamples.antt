-- Worked examples.
use Rattle.std.proofs.Common.{◌≡◌, ℕ, ◌++◌, List, [], ◌∷◌, refl, codes, replicate}
use Rattle.mail_core.specs.Comments.{after_closing_paren, comment_byte_kind}
use Rattle.mail_core.specs.Quotes.{quote_byte_kind, after_closing_quote, unquoted}
use Rattle.mail_core.specs.MsgIds.{MessageId, id_at, id_right_to_close, sides_of, is_id_left_byte, is_id_right_byte}
use Rattle.mail_core.specs.MsgIds.{next_piece_id_and_rest, ids_from, ids_of}

abbrev id : List ℕ → List ℕ → MessageId
id l r = record { left = l; right = r }

-- (see <x@y>) <"a"@b> <c@d>
references : ids_of (codes "(see <x@y>) " ++ 60 ∷ 34 ∷ 97 ∷ 34 ∷ codes "@b> <c@d>") ≡ id (codes "a") (codes "b") ∷ id (codes "c") (codes "d") ∷ []
unfolding ids_from next_piece_id_and_rest after_closing_paren comment_byte_kind quote_byte_kind after_closing_quote unquoted id_at id_right_to_close sides_of is_id_left_byte is_id_right_byte
references = refl

last_at_divides : ids_of (codes "<a@b@c>") ≡ id (codes "a@b") (codes "c") ∷ []
unfolding ids_from next_piece_id_and_rest after_closing_paren comment_byte_kind quote_byte_kind after_closing_quote unquoted id_at id_right_to_close sides_of is_id_left_byte is_id_right_byte
last_at_divides = refl

quote_then_bytes : ids_of (60 ∷ 34 ∷ 97 ∷ 34 ∷ codes "b@c>") ≡ []
unfolding ids_from next_piece_id_and_rest after_closing_paren comment_byte_kind quote_byte_kind after_closing_quote unquoted id_at id_right_to_close sides_of is_id_left_byte is_id_right_byte
quote_then_bytes = refl

space_inside : ids_of (codes "<a b@c>") ≡ []
unfolding ids_from next_piece_id_and_rest after_closing_paren comment_byte_kind quote_byte_kind after_closing_quote unquoted id_at id_right_to_close sides_of is_id_left_byte is_id_right_byte
space_inside = refl

open_comment : ids_of (codes "(<a@b>") ≡ id (codes "a") (codes "b") ∷ []
unfolding ids_from next_piece_id_and_rest after_closing_paren comment_byte_kind quote_byte_kind after_closing_quote unquoted id_at id_right_to_close sides_of is_id_left_byte is_id_right_byte
open_comment = refl

many_open : ids_of (replicate 40 40 ++ codes "<a@b>") ≡ id (codes "a") (codes "b") ∷ []
unfolding ids_from next_piece_id_and_rest after_closing_paren comment_byte_kind quote_byte_kind after_closing_quote unquoted id_at id_right_to_close sides_of is_id_left_byte is_id_right_byte
many_open = refl

empty_quote : ids_of (60 ∷ 34 ∷ 34 ∷ codes "@b>") ≡ id [] (codes "b") ∷ []
unfolding ids_from next_piece_id_and_rest after_closing_paren comment_byte_kind quote_byte_kind after_closing_quote unquoted id_at id_right_to_close sides_of is_id_left_byte is_id_right_byte
empty_quote = refl

odd_bytes : ids_of (codes "<a(b@c)d><a@b" ++ 34 ∷ codes "c>") ≡ id (codes "a(b") (codes "c)d") ∷ id (codes "a") (98 ∷ 34 ∷ 99 ∷ []) ∷ []
unfolding ids_from next_piece_id_and_rest after_closing_paren comment_byte_kind quote_byte_kind after_closing_quote unquoted id_at id_right_to_close sides_of is_id_left_byte is_id_right_byte
odd_bytes = refl

-- a backslash outside quotes nothing: \(<x@y>) is a byte and a comment
backslash_outside : ids_of (92 ∷ codes "(<x@y>)") ≡ []
unfolding ids_from next_piece_id_and_rest after_closing_paren comment_byte_kind quote_byte_kind after_closing_quote unquoted id_at id_right_to_close sides_of is_id_left_byte is_id_right_byte
backslash_outside = refl
