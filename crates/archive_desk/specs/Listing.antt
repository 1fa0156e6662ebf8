-- The lines of messages, and why a thread is not shown.
use Rattle.std.specs.Prelude.{◌≡◌, ℕ, List, filter, map, Option, Some, None}
use Rattle.archive_model.specs.Records.{Archive, Message as Remembered}
use Rattle.archive_model.specs.Questions.{merge_of}
use Rattle.archive_port.specs.Replies.{refusal_of_fault}
use Rattle.archive_port.specs.Walking.{selected_messages}
use Rattle.archive_port.specs.declared.walking.Selection.{Selection}
use Rattle.archive_results.specs.Access.{Ask, is_shown, reader_facts, view_of}
use Rattle.archive_results.specs.Results.{lines_of, thread_lines}
use Rattle.archive_results.specs.Shown.{Line, shown_message}
use Rattle.archive_desk.specs.Faults.{RefusalReason, not_in_view, ask_reason}
use Rattle.archive_desk.specs.declared.faults.DeskError.{DeskError}
use Rattle.archive_desk.specs.declared.faults.DeskError.TheVariants.{Store as Stored, Write}

-- those of the messages of a selection that the policy shows the asker, in their order: the view, if all are selected
abbrev pub view_in : Archive → Ask → Selection → List Remembered
view_in a ask which = filter (is_shown ask (reader_facts a ask)) (selected_messages a ask.list which)

-- the line of each message
abbrev pub lines_shown : List Remembered → List Line
lines_shown messages = lines_of (map shown_message messages)

-- a fault of a question on a thread: G1, G2, G3 or G5, or G4 where memory or the database was at fault
abbrev pub IsThreadFault : DeskError → Type 0
IsThreadFault Write = ⊥
IsThreadFault (Stored fault) = refusal_of_fault fault ≡ None
IsThreadFault other = Unit {0}

-- G3 where there is no thread
abbrev pub missing_thread_reason : {X : Type 0} → Option X → Option RefusalReason
missing_thread_reason None = Some not_in_view
missing_thread_reason (Some rows) = None

-- G1 and G2 come first
abbrev pub first_refusal_reason : Option RefusalReason → Option RefusalReason → Option RefusalReason
first_refusal_reason None next = next
first_refusal_reason (Some why) next = Some why

-- why a thread is not shown: what is asked is refused, or the view, threaded as the list is, does not hold the message
abbrev pub thread_reason : Archive → Ask → (key : List ℕ) → Option RefusalReason
thread_reason archive ask key =
    first_refusal_reason (ask_reason archive ask) (missing_thread_reason (thread_lines (merge_of archive ask.list) key (map shown_message (view_of archive ask))))
