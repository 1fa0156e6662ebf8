-- What can be removed from a subject: the ABNF of RFC 5256, section 5, over a text whose white space is single spaces.
-- Literals stand in lower case here and match in any case. A byte that the ABNF calls CHAR is any byte (profile: subjects have 8-bit bytes).
use Rattle.std.specs.Prelude.{◌≡◌, ◌≢◌, ℕ, ◌++◌, Bool, true, false, List, [], ◌∷◌, ◌⊎◌, map, codes}
use Rattle.std.specs.List.{AllByRecursion}
use Rattle.std.specs.Char.{to_ascii_lowercase}

-- the text in ASCII lower case
abbrev pub ascii_lowercase : List ℕ → List ℕ
ascii_lowercase text = map to_ascii_lowercase text

-- the text is this literal, in any case
abbrev pub EqualsIgnoringCase : List ℕ → List ℕ → Type 0
EqualsIgnoringCase literal text = ascii_lowercase text ≡ literal

-- *WSP
abbrev pub AreSpaces : List ℕ → Type 0
AreSpaces = AllByRecursion (λ b. b ≡ 32)

-- *BLOBCHAR
abbrev pub AreBlobChars : List ℕ → Type 0
AreBlobChars = AllByRecursion (λ b. (b ≢ 91) × (b ≢ 93))

-- subj-blob = "[" *BLOBCHAR "]" *WSP
pub record IsBlob (text : List ℕ) : Type 0 where
  pub inside : List ℕ
  pub spaces : List ℕ
  pub are_blob_chars : AreBlobChars inside
  pub are_spaces : AreSpaces spaces
  pub text_is : text ≡ 91 ∷ inside ++ 93 ∷ spaces

-- "re" / ("fw" ["d"])
abbrev pub IsReplyWord : List ℕ → Type 0
IsReplyWord word = EqualsIgnoringCase (codes "re") word ⊎ EqualsIgnoringCase (codes "fwd") word ⊎ EqualsIgnoringCase (codes "fw") word

-- subj-refwd = ("re" / ("fw" ["d"])) *WSP [subj-blob] ":"
pub record IsRefwd (text : List ℕ) : Type 0 where
  pub word : List ℕ
  pub spaces : List ℕ
  pub blob : List ℕ
  pub is_word : IsReplyWord word
  pub are_spaces : AreSpaces spaces
  pub is_blob : (blob ≡ []) ⊎ IsBlob blob
  pub text_is : text ≡ word ++ spaces ++ blob ++ 58 ∷ []

-- subj-leader = (*subj-blob subj-refwd) / WSP
-- Beside it whether it holds a subj-refwd, so marks a reply.
pub data IsLeader : Bool → List ℕ → Type 0 where
  space : IsLeader false (32 ∷ [])
  refwd : {text : List ℕ} → IsRefwd text → IsLeader true text
  behind : {blob text : List ℕ} → IsBlob blob → IsLeader true text → IsLeader true (blob ++ text)

-- subj-trailer = "(fwd)" / WSP
-- Beside it whether it is "(fwd)", so marks a reply.
pub data IsTrailer : Bool → List ℕ → Type 0 where
  space : IsTrailer false (32 ∷ [])
  forwarded : {text : List ℕ} → EqualsIgnoringCase (codes "(fwd)") text → IsTrailer true text
