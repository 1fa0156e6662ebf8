-- Worked examples of header fields, unfolding and the author key.
use Rattle.std.proofs.Common.{◌≡◌, ℕ, List, [], ◌∷◌, ◌++◌, refl, codes, Some, None}
use Rattle.mail_core.specs.Lines.{lines, content, is_empty_line}
use Rattle.mail_core.specs.Fields.{HeaderField, header_blocks, fields_of, field_of, unfolded}
use Rattle.mail_core.specs.Author.{author_in, author_of}

abbrev entry : List ℕ → List ℕ → HeaderField
entry n b = record { name = n; body = b }

-- A : x LF bad line LF SP more LF B:y CR LF SP z LF LF C:q
abbrev sample : List ℕ
sample = codes "A : x" ++ 10 ∷ codes "bad line" ++ 10 ∷ codes " more" ++ 10 ∷ codes "B:y" ++ 13 ∷ 10 ∷ codes " z" ++ 10 ∷ 10 ∷ codes "C:q"

two_fields : fields_of sample ≡ entry (codes "A") (codes " x") ∷ entry (codes "B") (codes "y" ++ 13 ∷ 10 ∷ codes " z") ∷ []
unfolding fields_of header_blocks lines content is_empty_line
two_fields = refl

the_second_field : field_of sample (codes "b") ≡ Some (codes "y" ++ 13 ∷ 10 ∷ codes " z")
unfolding fields_of header_blocks lines content is_empty_line
the_second_field = refl

unfolded_body : unfolded (codes "y" ++ 13 ∷ 10 ∷ codes " z") ≡ codes "y z"
unfolding unfolded
unfolded_body = refl

below_the_header : field_of sample (codes "C") ≡ None
unfolding fields_of header_blocks lines content is_empty_line
below_the_header = refl

the_first_of_a_name : field_of (codes "a:1" ++ 10 ∷ codes "A:2" ++ 10 ∷ []) (codes "A") ≡ Some (codes "1")
unfolding fields_of header_blocks lines content is_empty_line
the_first_of_a_name = refl

a_first_line_that_continues : fields_of (codes " A: x" ++ 10 ∷ codes "B:" ++ 13 ∷ []) ≡ entry (codes "B") [] ∷ []
unfolding fields_of header_blocks lines content is_empty_line
a_first_line_that_continues = refl

a_line_of_spaces : fields_of (codes "A: x" ++ 10 ∷ codes "  " ++ 10 ∷ codes "B: y") ≡ entry (codes "A") (codes " x" ++ 10 ∷ codes "  ") ∷ entry (codes "B") (codes " y") ∷ []
unfolding fields_of header_blocks lines content is_empty_line
a_line_of_spaces = refl

a_header_ends_at_a_cr : fields_of (codes "A: x" ++ 10 ∷ 13 ∷ []) ≡ entry (codes "A") (codes " x") ∷ []
unfolding fields_of header_blocks lines content is_empty_line
a_header_ends_at_a_cr = refl

a_field_without_a_name : fields_of (codes ": x" ++ 10 ∷ codes "A B: y" ++ 10 ∷ []) ≡ []
unfolding fields_of header_blocks lines content is_empty_line
a_field_without_a_name = refl

one_cr_alone : unfolded (13 ∷ 13 ∷ 10 ∷ 9 ∷ []) ≡ 13 ∷ 9 ∷ []
unfolding unfolded
one_cr_alone = refl

no_fold_at_the_end : unfolded (codes "a" ++ 13 ∷ 10 ∷ []) ≡ codes "a" ++ 13 ∷ 10 ∷ []
unfolding unfolded
no_fold_at_the_end = refl

-- "X" <A@B>
an_address_in_angles : author_of (codes "From: " ++ 34 ∷ 88 ∷ 34 ∷ codes " <A@B>" ++ 10 ∷ []) ≡ codes "a@b"
unfolding fields_of header_blocks lines content is_empty_line unfolded
an_address_in_angles = refl

a_name_alone : author_of (codes "From:  Anna ") ≡ codes "anna"
unfolding fields_of header_blocks lines content is_empty_line unfolded
a_name_alone = refl

no_from_field : author_of (codes "To: Anna") ≡ []
unfolding fields_of header_blocks lines content is_empty_line unfolded
no_from_field = refl

the_last_angle : author_in (codes "<a> B <C> d>") ≡ codes "c"
the_last_angle = refl

an_open_angle : author_in (codes " <a> B <C ") ≡ codes "<a> b <c"
an_open_angle = refl
