-- The messages of a list by the keys of lines, written one after the other as an mbox (RFC 4155).
use Rattle.std.specs.Prelude.{◌≡◌, ◌<◌, ◌+◌, ◌-◌, ◌^◌, ◌++◌, ℕ, List, [], length, flat_map, min, Option, Result, IfErr, MatchOption, MatchResult, option_map}
use Rattle.std.specs.Option.{option_map_or}
use Rattle.archive_port.specs.declared.state.ArchiveState.{Ghosts}
use Rattle.mbox_core.specs.Written.{AppendsPrefixOfText, written_item}
use Rattle.archive_model.specs.Records.{Archive}
use Rattle.archive_model.specs.Questions.{message_of, messages_in}
use Rattle.archive_model.specs.Messages.{archived_message}
use Rattle.archive_model.specs.declared.messages.Message.{Message}
use Rattle.archive_port.specs.Told.{CountsRefusals, StoreHasCleanDisk, HoldsTables, IsOpen, StaysOpenUnlessDiskFails, archive_in}
use Rattle.archive_port.specs.Crashes.{WritesNothing}
use Rattle.archive_results.specs.Shown.{Line, shown_message}
use Rattle.archive_desk.specs.Causes.{HasUnreadableMessage, HasCause, IsDeskDatabaseFault, IsDeskMemoryRefusal}
use Rattle.archive_desk.specs.Faults.{refusal_reason}
use Rattle.archive_desk.specs.declared.exporting.ExportStop.{ExportStop}
use Rattle.archive_desk.specs.declared.faults.DeskError.{DeskError}

-- the text of the message of a line; nothing where the list does not hold it
abbrev pub mbox_text_of_line : Archive → (list : List ℕ) → Line → List ℕ
mbox_text_of_line archive list line = option_map_or (λ m. written_item (shown_message m).item) (message_of archive list line.key) []

abbrev pub mbox_text_of_lines : Archive → (list : List ℕ) → List Line → List ℕ
mbox_text_of_lines archive list lines = flat_map (mbox_text_of_line archive list) lines

module _ {S W : Type 0} (g : Ghosts S W) (new : S) (a : Archive) where
  -- the store holds an archive's tables, and remembers this archive
  abbrev pub RemembersArchive : Type 0
  RemembersArchive = HoldsTables g new × (archive_in g new ≡ a)

  -- after a fault that has a reason so; after one of memory or of the database if the connection is still open
  abbrev pub RemembersAfterFault : DeskError → Type 0
  RemembersAfterFault fault = MatchOption (refusal_reason fault) (IsOpen g new → RemembersArchive) (λ _. RemembersArchive)

  -- The message of a line was looked for.
  abbrev pub LooksUpMessage : (list key : List ℕ) → Result (Option Message) DeskError → Type 0
  LooksUpMessage list key result = MatchResult result (λ found. RemembersArchive × (option_map (archived_message list) found ≡ message_of a list key)) RemembersAfterFault

  module _ (list : List ℕ) (lines : List Line) where
    -- The text of lines was written and counted, as far as 64 bits go; or exactly the first bytes of it.
    abbrev pub WritesMboxOfLines : (before after : List ℕ) → (counted counts : ℕ) → Result (Unit {0}) DeskError → Type 0
    WritesMboxOfLines before after counted counts result =
        let text = mbox_text_of_lines a list lines in
        MatchResult result
        (λ _. RemembersArchive × (after ≡ before ++ text) × (counts ≡ min (counted + length text) (2 ^ 64 - 1)))
        (λ fault. RemembersAfterFault fault × (length after < 2 ^ 64
        → (more : ℕ) × AppendsPrefixOfText before after text more × (counts ≡ min (counted + more) (2 ^ 64 - 1))))

    -- the same behind a head
    abbrev pub WritesMboxAfterHead : (head before after : List ℕ) → Result ℕ ExportStop → Type 0
    WritesMboxAfterHead head before after result =
        let text = head ++ mbox_text_of_lines a list lines in
        MatchResult result
        (λ count. RemembersArchive × (after ≡ before ++ text) × (count ≡ min (length text) (2 ^ 64 - 1)))
        (λ stop. RemembersAfterFault stop.fault × (length after < 2 ^ 64 → AppendsPrefixOfText before after text stop.written))

module _ {S W : Type 0} (g : Ghosts S W) (old new : S) where
  -- where the tables were an archive's, this is so of the archive that was remembered
  abbrev pub IsTrueOfOldArchive : (Archive → Type 0) → Type 0
  IsTrueOfOldArchive Says = StoreHasCleanDisk g new → HoldsTables g old → Says (archive_in g old)

  -- How a call ends that sends messages of a list, and whose fault carries one of the desk: what it does to the store, to which it writes
  -- nothing, why G4 with E15 comes, and that want of memory is counted.
  pub record EndsMboxOfLines (list : List ℕ) {A F : Type 0} (carried : F → DeskError) (result : Result A F) : Type 0 where
    pub remains_open : StaysOpenUnlessDiskFails g old new
    pub writes_nothing : WritesNothing g old new
    pub fault_has_cause : IfErr result (λ fault. IsDeskDatabaseFault (carried fault) → HasCause g old new (λ a. HasUnreadableMessage (messages_in a list)))
    pub refusals_counted : CountsRefusals g (λ fault. IsDeskMemoryRefusal (carried fault)) old new result
