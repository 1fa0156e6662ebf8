-- What is left of a text when one thing is removed, as functions that compute. The grammar is in Pieces.
use Rattle.std.specs.Prelude.{ℕ, zero, suc, ◌==◌, Bool, true, false, List, [], ◌∷◌, length, reverse, codes, Option, Some, None, if◌then◌else◌}
use Rattle.std.specs.Option.{option_map, option_or, option_and_then}
use Rattle.std.specs.Char.{to_ascii_lowercase}

-- what is left, and whether a mark of a reply was removed
pub record StrippedSubject : Type 0 where
  pub text : List ℕ
  pub reply : Bool

abbrev pub stripped_subject : Bool → List ℕ → StrippedSubject
stripped_subject reply text = record { text = text; reply = reply }

-- what follows a literal, in any case, that begins the text
unfoldable pub after_literal : List ℕ → List ℕ → Option (List ℕ)
after_literal [] text = Some text
after_literal (k ∷ ks) [] = None
after_literal (k ∷ ks) (b ∷ bs) = if to_ascii_lowercase b == k then after_literal ks bs else None

-- what stands before a literal, in any case, that ends the text
abbrev pub before_literal : List ℕ → List ℕ → Option (List ℕ)
before_literal literal text = option_map reverse (after_literal (reverse literal) (reverse text))

-- the text without the spaces that begin it
unfoldable pub after_spaces : List ℕ → List ℕ
after_spaces [] = []
after_spaces (b ∷ bs) = if b == 32 then after_spaces bs else b ∷ bs

-- what follows the first bracket, where that is a closing one
unfoldable pub after_closing_bracket : List ℕ → Option (List ℕ)
after_closing_bracket [] = None
after_closing_bracket (b ∷ bs) = if b == 93 then Some bs else (if b == 91 then None else after_closing_bracket bs)

-- what follows the subj-blob that begins the text, with all spaces behind it
abbrev pub after_blob : List ℕ → Option (List ℕ)
after_blob text = option_and_then (λ (bs : List ℕ). option_map after_spaces (after_closing_bracket bs)) (after_literal (codes "[") text)

-- what follows *WSP [subj-blob] ":"
abbrev pub after_blob_and_colon : List ℕ → Option (List ℕ)
after_blob_and_colon text =
    let bs = after_spaces text in
    option_or (after_literal (codes ":") bs) (option_and_then (after_literal (codes ":")) (after_blob bs))

-- what follows this word of a reply with its colon
abbrev pub after_reply_word : List ℕ → List ℕ → Option (List ℕ)
after_reply_word word text = option_and_then after_blob_and_colon (after_literal word text)

-- what follows the subj-refwd that begins the text
unfoldable pub after_refwd : List ℕ → Option (List ℕ)
after_refwd text = option_or (after_reply_word (codes "re") text) (option_or (after_reply_word (codes "fwd") text) (after_reply_word (codes "fw") text))

-- what follows the subj-refwd behind at most n subj-blobs
unfoldable pub after_leader : ℕ → List ℕ → Option (List ℕ)
after_leader zero text = after_refwd text
after_leader (suc n) text = option_or (after_refwd text) (option_and_then (after_leader n) (after_blob text))

unfoldable pub without_trailer : List ℕ → Option StrippedSubject
without_trailer text = option_or (option_map (stripped_subject false) (before_literal (codes " ") text)) (option_map (stripped_subject true) (before_literal (codes "(fwd)") text))

unfoldable pub without_leader : List ℕ → Option StrippedSubject
without_leader text = option_or (option_map (stripped_subject false) (after_literal (codes " ") text)) (option_map (stripped_subject true) (after_leader (length text) text))

-- the text, where it is not empty
abbrev pub if_not_empty : List ℕ → Option (List ℕ)
if_not_empty [] = None
if_not_empty (b ∷ bs) = Some (b ∷ bs)

unfoldable pub without_blob : List ℕ → Option StrippedSubject
without_blob text = option_map (stripped_subject false) (option_and_then if_not_empty (after_blob text))

unfoldable pub without_fwd_brackets : List ℕ → Option StrippedSubject
without_fwd_brackets text = option_map (stripped_subject true) (option_and_then (before_literal (codes "]")) (after_literal (codes "[fwd:") text))
