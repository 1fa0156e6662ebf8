-- What is removed at the front, one piece at a time: a leader's blobs go before its subj-refwd.
use Rattle.std.specs.Prelude.{◌≡◌, ℕ, ◌++◌, Bool, true, false, List, codes, Option, None}
use Rattle.std.specs.Option.{option_map, option_or, option_and_then}
use Rattle.subject_core.specs.Removal.{StrippedSubject, stripped_subject, after_literal, after_blob, after_refwd, if_not_empty, without_trailer}
use Rattle.subject_core.specs.BaseSubject.{with_earlier_reply, after_all_removals}

unfoldable pub without_front_piece : List ℕ → Option StrippedSubject
without_front_piece text =
    option_or (option_map (stripped_subject false) (after_literal (codes " ") text))
    (option_or (option_map (stripped_subject true) (after_refwd text)) (option_map (stripped_subject false) (option_and_then if_not_empty (after_blob text))))

-- the removals at the end are done, and what they leave has the same rest
pub record StripsTrailers (text rest : List ℕ) (reply : Bool) : Type 0 where
  pub same_removals : after_all_removals text ≡ with_earlier_reply reply (after_all_removals rest)
  pub trailer : List ℕ
  pub text_is : text ≡ rest ++ trailer
  pub no_trailer_left : without_trailer rest ≡ None

-- the removals at the front are done, and what they leave has the same rest
pub record StripsFrontPieces (text rest : List ℕ) (reply : Bool) : Type 0 where
  pub same_removals : after_all_removals text ≡ with_earlier_reply reply (after_all_removals rest)
  pub leader : List ℕ
  pub text_is : text ≡ leader ++ rest
  pub no_trailer : without_trailer rest ≡ None
  pub no_front_piece_left : without_front_piece rest ≡ None
