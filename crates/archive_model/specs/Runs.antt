-- Commands one after the other.
use Rattle.std.specs.Prelude.{ℕ, Bool, true, false, length, filter, List, [], ◌∷◌, map}
use Rattle.mbox_items.specs.Division.{Item}
use Rattle.archive_model.specs.Records.{Archive}
use Rattle.archive_model.specs.Commands.{Command, add, CommandReply, taken_in, already_known, refused, too_large}
use Rattle.archive_model.specs.Machine.{step}

-- the archive after some commands, and the answer of each
pub record RunOutcome : Type 0 where
  pub archive : Archive
  pub replies : List CommandReply

abbrev pub prepend_reply : CommandReply → RunOutcome → RunOutcome
prepend_reply reply run = record run { replies = reply ∷ run.replies }

-- Commands in their order, with one answer each; a refused one does not stop those behind it.
unfoldable pub run : Archive → List Command → RunOutcome
run archive [] = record { archive = archive; replies = [] }
run archive (command ∷ commands) = prepend_reply (step archive command).1 (run (step archive command).0 commands)

-- the items of a file, added to a list one after the other
abbrev pub taken : Archive → List ℕ → List Item → RunOutcome
taken archive list items = run archive (map (add list) items)

-- ---- what became of them

abbrev pub is_added_reply : CommandReply → Bool
is_added_reply taken_in = true
is_added_reply _ = false

abbrev pub is_known_reply : CommandReply → Bool
is_known_reply already_known = true
is_known_reply _ = false

abbrev pub is_too_large_reply : CommandReply → Bool
is_too_large_reply (refused too_large) = true
is_too_large_reply _ = false

-- how many messages were taken in, were known, and were too large
pub record Tally : Type 0 where
  pub new : ℕ
  pub known : ℕ
  pub too_large : ℕ

abbrev pub tally_replies : List CommandReply → Tally
tally_replies replies = record {
  new = length (filter is_added_reply replies);
  known = length (filter is_known_reply replies);
  too_large = length (filter is_too_large_reply replies);
}
