-- The index of a view: what is asked of the header of each message, and no text.
use Rattle.std.specs.Prelude.{◌≡◌, List, map}
use Rattle.thread_links.specs.declared.entry.Entry.{Entry}
use Rattle.archive_model.specs.Records.{Message}
use Rattle.archive_model.specs.Sound.{item_of}
use Rattle.archive_results.specs.Shown.{Line, line_of, shown_message, thread_entry_of}

-- a message without its text: its line, and what it says about threads
pub record MessageSummary : Type 0 where
  pub line : Line
  pub entry : Entry

-- what lists of messages and threads (RFC 5256, THREAD=REFERENCES) need of a message once its text is let go
abbrev pub summary_of : Message → MessageSummary
summary_of m = record { line = line_of (shown_message m); entry = thread_entry_of (item_of m) }

-- the lines of some headers, and what they say about threads
abbrev pub lines_in : List MessageSummary → List Line
lines_in headers = map (λ h. h.line) headers

abbrev pub entries_in : List MessageSummary → List Entry
entries_in headers = map (λ h. h.entry) headers

-- these are the headers of the messages of a view
abbrev pub AreSummariesOf : List Message → List MessageSummary → Type 0
AreSummariesOf view headers = headers ≡ map summary_of view

-- this holds of every view whose headers these are
abbrev pub HoldsForEachView : List MessageSummary → (List Message → Type 0) → Type 0
HoldsForEachView headers Says = (view : List Message) → AreSummariesOf view headers → Says view
