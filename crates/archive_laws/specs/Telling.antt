-- Requests that tell what is seen, and two archives that no request tells apart.
use Rattle.std.specs.Prelude.{◌≡◌, ◌↔◌, ℕ, ℤ, List, [], ◌∷◌, ◌++◌, codes, Option, Some, None}
use Rattle.httparse.specs.Grammar.{RequestHead, Field, crlf, print_request}
use Rattle.policy_core.specs.Rules.{Rule}
use Rattle.archive_model.specs.Records.{Archive}
use Rattle.archive_model.specs.Sound.{HasSoundMessages, HasUniqueNames, HasValidNamesAndTokens}
use Rattle.archive_requests.specs.Heads.{BeginsWithHead}
use Rattle.archive_pages.specs.Answers.{reply_of}
use Rattle.archive_laws.specs.Seen.{token_of_head, archive_visible_by_token}

-- ---- a request by hand

-- an Authorization field with this token, or none
abbrev pub authorization_fields : (token : Option (List ℕ)) → List Field
authorization_fields None = []
authorization_fields (Some token) = record { name = codes "Authorization"; raw = codes " Bearer " ++ token; end = crlf } ∷ []

-- `GET` of a path, by this token or without one
abbrev pub get_request : (token : Option (List ℕ)) → (path : List ℕ) → RequestHead
get_request token path =
    record { blank = []; method = codes "GET"; target = path; minor = 1; line_end = crlf; fields = authorization_fields token; last = crlf }

-- ---- what no request tells apart

-- An archive such as commands make: its messages are sound, nothing has another's name, and names and tokens are such.
pub record IsWellFormedArchive (archive : Archive) : Type 0 where
  pub messages_are_sound : HasSoundMessages archive
  pub names_are_unique : HasUniqueNames archive
  pub has_valid_names : HasValidNamesAndTokens archive

-- every request by this token, or without one, has the same reply, where its head is read: it has at most 8,192 bytes and 64 fields
abbrev pub AreAnsweredAlike : List Rule → ℤ → (token : Option (List ℕ)) → (a b : Archive) → Type 0
AreAnsweredAlike rules day token a b =
    (head : RequestHead) → BeginsWithHead (print_request head) head → token_of_head head ≡ token → reply_of a rules day head ≡ reply_of b rules day head

-- All that is seen can be asked for: two archives are answered alike exactly where the same is seen of them.
abbrev pub RepliesRevealAllVisible : Type 0
RepliesRevealAllVisible = (a b : Archive) (rules : List Rule) (day : ℤ) (token : Option (List ℕ)) → IsWellFormedArchive a → IsWellFormedArchive b
    → AreAnsweredAlike rules day token a b ↔ (archive_visible_by_token a rules day token ≡ archive_visible_by_token b rules day token)
