-- Base subjects: RFC 5256, section 2.1, steps (1) to (6). Encoded words are not decoded (profile).
use Rattle.std.specs.Prelude.{◌≡◌, ◌≢◌, ℕ, zero, suc, ◌++◌, Bool, true, false, ◌||◌, List, [], length, codes, Option, Some, None}
use Rattle.std.specs.Option.{option_or}
use Rattle.subject_core.specs.Spaces.{with_single_spaces}
use Rattle.subject_core.specs.Pieces.{ascii_lowercase, EqualsIgnoringCase, IsBlob, IsLeader, IsTrailer}
use Rattle.subject_core.specs.Removal.{StrippedSubject, stripped_subject, without_trailer, without_leader, without_blob, without_fwd_brackets}

-- A text loses something, and this is left. The Bool says whether a mark of a reply went.

-- step (2): a subj-trailer at the end
pub record LosesTrailer (text : List ℕ) (reply : Bool) (rest : List ℕ) : Type 0 where
  pub trailer : List ℕ
  pub is_trailer : IsTrailer reply trailer
  pub text_is : text ≡ rest ++ trailer

-- step (3): a subj-leader at the front
pub record LosesLeader (text : List ℕ) (reply : Bool) (rest : List ℕ) : Type 0 where
  pub leader : List ℕ
  pub is_leader : IsLeader reply leader
  pub text_is : text ≡ leader ++ rest

-- step (4): a subj-blob at the front, which leaves a text that is not empty
pub record LosesBlob (text rest : List ℕ) : Type 0 where
  pub blob : List ℕ
  pub is_blob : IsBlob blob
  pub leaves_some : rest ≢ []
  pub text_is : text ≡ blob ++ rest

-- step (6): subj-fwd-hdr at the front and subj-fwd-trl at the end
pub record LosesFwdBrackets (text rest : List ℕ) : Type 0 where
  pub opening : List ℕ
  pub is_opening : EqualsIgnoringCase (codes "[fwd:") opening
  pub text_is : text ≡ opening ++ rest ++ codes "]"

-- step (2) still applies: the text ends in a subj-trailer, `(fwd)` in any case or a space (RFC 5256, section 5)
abbrev pub HasTrailer : List ℕ → Type 0
HasTrailer text = (reply : Bool) × (rest : List ℕ) × LosesTrailer text reply rest

abbrev pub HasLeader : List ℕ → Type 0
HasLeader text = (reply : Bool) × (rest : List ℕ) × LosesLeader text reply rest

abbrev pub HasBlob : List ℕ → Type 0
HasBlob text = (rest : List ℕ) × LosesBlob text rest

-- One removal: a trailer; where none stands, a leader; where none stands, a blob; where none stands, the pair.
-- A removal at the front uncovers no trailer, so this is the order of the steps (2) to (6) with their repeats.
-- It leaves one thing open: how many of the spaces behind it a blob takes along.
pub data RemovesOnePiece (text : List ℕ) : Bool → List ℕ → Type 0 where
  trailer : {reply : Bool} {rest : List ℕ} → LosesTrailer text reply rest → RemovesOnePiece text reply rest
  leader : {reply : Bool} {rest : List ℕ} → ¬ HasTrailer text → LosesLeader text reply rest → RemovesOnePiece text reply rest
  blob : {rest : List ℕ} → ¬ HasTrailer text → ¬ HasLeader text → LosesBlob text rest → RemovesOnePiece text false rest
  pair : {rest : List ℕ} → ¬ HasTrailer text → ¬ HasLeader text → ¬ HasBlob text → LosesFwdBrackets text rest → RemovesOnePiece text true rest

-- removals one after the other; the Bool says whether one of them took a mark of a reply
pub data RemovesPieces : List ℕ → Bool → List ℕ → Type 0 where
  here : {text : List ℕ} → RemovesPieces text false text
  further : {text next rest : List ℕ} {reply later : Bool} → RemovesOnePiece text reply next → RemovesPieces next later rest → RemovesPieces text (reply || later) rest

-- nothing more can be removed
abbrev pub HasNothingToRemove : List ℕ → Type 0
HasNothingToRemove text = (reply : Bool) (rest : List ℕ) → ¬ RemovesOnePiece text reply rest

-- the base of a subject and its mark of a reply: what is left once nothing more can be removed, in lower case
pub record IsBaseSubject (subject base : List ℕ) (reply : Bool) : Type 0 where
  pub remaining_text : List ℕ
  pub removes_pieces : RemovesPieces (with_single_spaces subject) reply remaining_text
  pub nothing_to_remove : HasNothingToRemove remaining_text
  pub base_is_lowercase : base ≡ ascii_lowercase remaining_text

-- The same as functions that compute.

-- one removal, where something can be removed
unfoldable pub after_one_removal : List ℕ → Option StrippedSubject
after_one_removal text = option_or (without_trailer text) (option_or (without_leader text) (option_or (without_blob text) (without_fwd_brackets text)))

-- a removal before others
abbrev pub with_earlier_reply : Bool → StrippedSubject → StrippedSubject
with_earlier_reply reply w = record { text = w.text; reply = reply || w.reply }

-- what at most n removals leave
unfoldable pub after_bounded_removals : ℕ → List ℕ → StrippedSubject
after_bounded_removals zero text = stripped_subject false text
after_bounded_removals (suc n) text = elim (after_one_removal text) [ None ↦ stripped_subject false text | Some w ↦ with_earlier_reply w.reply (after_bounded_removals n w.text) ]

-- what all removals leave: each shortens the text
abbrev pub after_all_removals : List ℕ → StrippedSubject
after_all_removals text = after_bounded_removals (length text) text

-- the base subject (RFC 5256, section 2.1); Profile: in ASCII lower case, so that equal subjects have equal bytes
abbrev pub base_subject_of : List ℕ → List ℕ
base_subject_of subject = ascii_lowercase (after_all_removals (with_single_spaces subject)).text

-- the subject is that of a reply or forward (RFC 5256, section 2.1): its base was reached by removing a subj-refwd, a `(fwd)`
-- or the pair `[fwd:` and `]`
abbrev pub is_reply : List ℕ → Bool
is_reply subject = (after_all_removals (with_single_spaces subject)).reply

abbrev pub IsReply : List ℕ → Type 0
IsReply subject = is_reply subject ≡ true
