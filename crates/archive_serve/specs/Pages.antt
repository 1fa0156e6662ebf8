-- What an archive answers on a connection.
use Rattle.std.specs.Prelude.{◌≡◌, ⊤, ℕ, ℤ, List, Result, Ok, Err, OnOk, IfErr}
use Rattle.archive_port.specs.declared.state.ArchiveState.{Ghosts}
use Rattle.policy_core.specs.Rules.{Rule}
use Rattle.archive_port.specs.Told.{CountsOneRefusal}
use Rattle.archive_port.specs.Crashes.{WritesNothing}
use Rattle.archive_pages.specs.Answered.{IfAnsweredOrUnread, Sends404IfUnrouted, ReadsRequestInput}
use Rattle.archive_pages.specs.Causes.{IsInputDataUnreadable, ServesOr503}
use Rattle.archive_pages.specs.Replies.{HasServeFaultCause}
use Rattle.archive_pages.specs.Serving.{StoreKeepsArchive}
use Rattle.archive_pages.specs.declared.faults.ServeFault.{ServeFault}
use Rattle.archive_pages.specs.declared.faults.ServeFault.TheVariants as answering
use Rattle.archive_listen.specs.Connections.{ConnectionTranscript, ConnectionResult}
use Rattle.archive_listen.specs.declared.faults.ConnectionError.TheVariants.{Read, Write, Broken}

-- how a connection ends by the answer to its request
abbrev pub connection_result_of : Result ℕ ServeFault → ConnectionResult
connection_result_of (Ok status) = Ok status
connection_result_of (Err answering.Read) = Err Read
connection_result_of (Err (answering.Write written)) = Err Write
connection_result_of (Err (answering.Broken written)) = Err Broken

-- How one answer by these rules, on this day, ends, whatever the store is: the store is left, and nothing is written to it; no direction
-- failed where a reply went out, each fault has its cause, and so have 503 and S3. What went out is not said.
pub record EndsConnection {S W : Type 0} (g : Ghosts S W) (rules : List Rule) (day : ℤ) (old new : S) (before after : ConnectionTranscript) (result : Result ℕ ServeFault) : Type 0 where
  pub archive_is_kept : StoreKeepsArchive g old new result
  pub writes_nothing : WritesNothing g old new
  pub no_failure_if_ok : OnOk result ((after.read_failures ≡ before.read_failures) × (after.write_failures ≡ before.write_failures))
  pub cause : IfErr result (λ fault. HasServeFaultCause before.written after.written
      before.read_failures after.read_failures before.write_failures after.write_failures fault)
  pub fault_has_cause : ServesOr503 g old new result (IsInputDataUnreadable before.read after.read rules day)

-- A head without a token that asks for a path that no route fits got 404 and nothing else: never 503, whatever the store is.
abbrev pub Answers404IfUnrouted : (before after : ConnectionTranscript) → Result ℕ ServeFault → Type 0
Answers404IfUnrouted before after result = IfAnsweredOrUnread result
    (ReadsRequestInput before.read after.read before.ends after.ends (λ given all. Sends404IfUnrouted all before.written after.written result)) ⊤

-- One more refusal of memory is counted: the archive is as it was, and nothing was written.
pub record OnlyCountsRefusal {S W : Type 0} (g : Ghosts S W) (old new : S) : Type 0 where
  pub counts_one : CountsOneRefusal g old new
  pub writes_nothing : WritesNothing g old new
