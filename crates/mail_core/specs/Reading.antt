-- What the reading of a msg-id leaves behind.
use Rattle.std.specs.Prelude.{◌≡◌, ℕ, ◌<◌, ◌≤◌, List, [], ◌∷◌, ◌++◌, length, drop, Option, Some}
use Rattle.mail_core.specs.MsgIds.{MessageId}

-- what was read is an identity, which stands behind those before, and the text that follows from a later place on
pub record AppendsReadId (before after : List MessageId) (read : Option (MessageId × List ℕ)) (text : List ℕ) (from end : ℕ) : Type 0 where
  pub id : MessageId
  pub from_before_end : from < end
  pub end_in_range : end ≤ length text
  pub read_is : read ≡ Some (id, drop end text)
  pub appends_id : after ≡ before ++ id ∷ []
