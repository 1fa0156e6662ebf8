-- The base of a subject as it is written.
use Rattle.std.specs.Prelude.{◌≡◌, ◌<◌, ℕ, List, length, take}
use Rattle.subject_core.specs.BaseSubject.{base_subject_of, is_reply}
use Rattle.luvazhimba_c.specs.declared.subjects.LuvBase.{LuvBase}

-- the text begins with the base of the subject, of just so many bytes, and whether the subject marks a reply is said
pub record HoldsBaseSubject (subject array : List ℕ) (found : LuvBase) : Type 0 where
  pub text_is : take (length (base_subject_of subject)) array ≡ base_subject_of subject
  pub len : found.len ≡ length (base_subject_of subject)
  pub is_reply : found.is_reply ≡ is_reply subject

-- the array is too short for the base, whose length is said
pub record LacksRoomForBase (subject array : List ℕ) (found : LuvBase) : Type 0 where
  pub array_too_short : length array < length (base_subject_of subject)
  pub len : found.len ≡ length (base_subject_of subject)
