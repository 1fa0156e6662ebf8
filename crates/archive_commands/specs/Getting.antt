-- One message, asked for by words.
use Rattle.std.specs.Prelude.{◌⊎◌, ℕ, List, Option, Some, None, Result, Ok, Err, if◌then◌else◌, option_map}
use Rattle.archive_model.specs.Records.{Archive}
use Rattle.archive_model.specs.Keys.{is_key}
use Rattle.archive_results.specs.Access.{Ask, Asked, served, denied_by, absent, asked_for_key}
use Rattle.archive_desk.specs.Causes.{IsDeskDatabaseFault, IsMessageUnreadable, IsReaderUnreadable, IsDeskMemoryRefusal}
use Rattle.archive_desk.specs.Faults.{RefusalReason, refusal_reason, ask_reason}
use Rattle.archive_commands.specs.declared.getting.GetError.{GetError}
use Rattle.archive_commands.specs.declared.getting.GetError.TheVariants.{Fault, NoMessage, Denied}

-- Why a message is not given: the question is refused, the list does not hold it, or the rule of this name denies it.
pub data GetRefusal : Type 0 where
  unanswered : RefusalReason → GetRefusal
  no_message : GetRefusal
  denied : (rule : List ℕ) → GetRefusal

abbrev pub get_result_of : Asked → Result (List ℕ) GetRefusal
get_result_of (served text) = Ok text
get_result_of (denied_by rule) = Err (denied rule)
get_result_of absent = Err no_message

abbrev pub get_result_unless_refused : Option RefusalReason → Result (List ℕ) GetRefusal → Result (List ℕ) GetRefusal
get_result_unless_refused None given = given
get_result_unless_refused (Some why) given = Err (unanswered why)

-- What who asks for a message gets. A key that is none is no message's: this comes before the list and the person.
abbrev pub message_or_refusal : Archive → Ask → (key : List ℕ) → Result (List ℕ) GetRefusal
message_or_refusal archive ask key =
    if is_key key then get_result_unless_refused (ask_reason archive ask) (get_result_of (asked_for_key archive ask key)) else Err no_message

-- none where memory or the database was at fault
abbrev pub get_refusal_of : GetError → Option GetRefusal
get_refusal_of (Fault fault) = option_map unanswered (refusal_reason fault)
get_refusal_of NoMessage = Some no_message
get_refusal_of (Denied rule) = Some (denied rule.now)

-- memory was refused, which no other reason is
abbrev pub IsGetMemoryRefusal : GetError → Type 0
IsGetMemoryRefusal (Fault fault) = IsDeskMemoryRefusal fault
IsGetMemoryRefusal NoMessage = ⊥
IsGetMemoryRefusal (Denied rule) = ⊥

-- the database broke, E15 in G4, which no other reason is
abbrev pub IsGetDatabaseFault : GetError → Type 0
IsGetDatabaseFault (Fault fault) = IsDeskDatabaseFault fault
IsGetDatabaseFault NoMessage = ⊥
IsGetDatabaseFault (Denied rule) = ⊥

-- the message of the key, or what is asked of the reader, cannot be read, which no command writes
abbrev pub IsGetUnreadable : Archive → Ask → (key : List ℕ) → Type 0
IsGetUnreadable archive ask key = IsMessageUnreadable archive ask key ⊎ IsReaderUnreadable archive ask
