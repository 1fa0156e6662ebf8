-- Connections one after the other, answered out of one archive.
use Rattle.std.specs.Prelude.{◌≡◌, ◌≢◌, ◌<◌, ◌≤◌, ◌⊎◌, ◌++◌, ℕ, ℤ, List, [], ◌∷◌, Bool, Option, Result, Ok, Err, ⊤}
use Rattle.std.specs.List.{AllByRecursion}
use Rattle.archive_port.specs.declared.state.ArchiveState.{Ghosts}
use Rattle.policy_core.specs.Rules.{Rule}
use Rattle.archive_model.specs.Records.{Archive}
use Rattle.archive_port.specs.Told.{memory_refusal_count}
use Rattle.archive_port.specs.Told.{DiskHasFailed, HasNoStepLimit, StoreHasCleanDisk, HoldsTables, IsOpen, IsStoreClosed, MemoryWasRefused, StaysOpenUnlessDiskFails, archive_in}
use Rattle.archive_pages.specs.Causes.{IsInputDataUnreadable, Sent503OrBrokeOff}
use Rattle.archive_pages.specs.Headline.{AnswersRequestFromArchive}
use Rattle.archive_pages.specs.declared.faults.ServeFault.{ServeFault}
use Rattle.archive_listen.specs.Connections.{ConnectionTranscript, ConnectionResult, Exchange, ClientReceives}
use Rattle.archive_listen.specs.declared.faults.AcceptError.{AcceptError}
use Rattle.archive_listen.specs.declared.faults.ConnectionError.TheVariants.{Read, Write, Broken}
use Rattle.archive_listen.specs.Serving.{ServesEachConnection, server_state}
use Rattle.archive_serve.specs.Pages.{EndsConnection, Answers404IfUnrouted, connection_result_of}

-- a reply other than 503 went out whole, or no request came
abbrev pub IsNeither503NorWriteError : ConnectionResult → Type 0
IsNeither503NorWriteError (Ok status) = status ≢ 503
IsNeither503NorWriteError (Err Read) = ⊤
IsNeither503NorWriteError (Err Write) = ⊥
IsNeither503NorWriteError (Err Broken) = ⊥

-- What one connection of a run was answered, why, and what is left of the store. The reply and its cause are of one answer. The
-- reply is by these rules, on this day and out of this archive, which the store remembered before the first connection and remembers
-- still, where `If` is so. A path that no route fits is 404 to nobody, whatever the store is.
pub record AnswersFromArchiveInRun {S W : Type 0} (g : Ghosts S W) (If : Type 0) (archive : Archive) (rules : List Rule) (day : ℤ)
    (old new : S) (before after : ConnectionTranscript) (outcome : ConnectionResult) : Type 0 where
  pub result : Result ℕ ServeFault
  pub is : outcome ≡ connection_result_of result
  pub ends : EndsConnection g rules day old new before after result
  pub unrouted : Answers404IfUnrouted before after result
  -- the reply of the definition, or 503, or a beginning of it
  pub reply : If → AnswersRequestFromArchive archive rules day before.read after.read before.ends after.ends before.written after.written result
  -- the store, if it is still open, remembers the archive; and open it is, if it was, behind a whole reply other than 503
  pub left : If → IsOpen g new → HoldsTables g new × (archive_in g new ≡ archive)
  pub stays_open : If → IsNeither503NorWriteError outcome → IsOpen g old → IsOpen g new

-- What is needed for a run whose store was `old` before the first connection and is `new` after the last: the disk has returned
-- what was written to it, and the tables of the store were an archive's. What the run keeps of it is its own.
abbrev pub HasSoundStore : {S W : Type 0} → Ghosts S W → (old new : S) → Type 0
HasSoundStore g old new = StoreHasCleanDisk g new × HoldsTables g old

-- how each connection of such a run is answered, by these rules and on this day
abbrev pub ServingAnswerLaw : {S W : Type 0} → Ghosts S W → List Rule → (day : ℤ) → (first last : S) → (old new : S) → (before after : ConnectionTranscript) → ConnectionResult → Type 0
ServingAnswerLaw g rules day first last = AnswersFromArchiveInRun g (HasSoundStore g first last) (archive_in g first) rules day

-- Where each connection of such a run got a whole reply other than 503, or asked for nothing, the store is open after the last, too,
-- and remembers the same.
abbrev pub WholeRepliesLeaveStoreOpen : {S W L : Type 0} → Ghosts S W → (accepts : L → L → Option AcceptError → Type 0)
    → (closes : L → L → Exchange → Bool → Type 0) → Type 0
WholeRepliesLeaveStoreOpen {S} {L} g accepts closes = (rules : List Rule) (day : ℤ) (outcomes : List ConnectionResult) (listener later : L) (old new : S)
    → ServesEachConnection (ServingAnswerLaw g rules day old new) accepts closes outcomes (server_state listener old) (server_state later new) → HasSoundStore g old new
    → AllByRecursion IsNeither503NorWriteError outcomes → HoldsTables g new × (archive_in g new ≡ archive_in g old)

-- ---- what went over each connection

-- By these rules, on this day and out of this archive: to what was read of one peer its reply was made, or 503, or a beginning of it; and
-- that is what was sent to this peer, as far as it could be passed on.
pub record ExchangeIsAnswered (archive : Archive) (rules : List Rule) (day : ℤ) (outcome : ConnectionResult) (over : Exchange) : Type 0 where
  pub result : Result ℕ ServeFault
  pub ends : ℕ
  pub written : List ℕ
  pub answers_request : AnswersRequestFromArchive archive rules day [] over.read 0 ends [] written result
  -- how often a write failed when the reply was made, and when it had been passed on
  pub made : ℕ
  pub bytes_passed : ℕ
  pub client_receives : ClientReceives (connection_result_of result) outcome written (made < bytes_passed) over.sent

-- what went over each connection, by how it ended; over one whose peer was gone before it was taken nothing went
abbrev pub ExchangesAreAnswered : Archive → List Rule → (day : ℤ) → List ConnectionResult → List Exchange → Type 0
ExchangesAreAnswered archive rules day [] [] = ⊤
ExchangesAreAnswered archive rules day [] (over ∷ others) = ⊥
ExchangesAreAnswered archive rules day (outcome ∷ outcomes) [] = (outcome ≡ Err Read) × ExchangesAreAnswered archive rules day outcomes []
ExchangesAreAnswered archive rules day (outcome ∷ outcomes) (over ∷ others) =
    (ExchangeIsAnswered archive rules day outcome over × ExchangesAreAnswered archive rules day outcomes others)
    ⊎ ((outcome ≡ Err Read) × ExchangesAreAnswered archive rules day outcomes (over ∷ others))

-- What went over the connections that a listener took back in such a run, behind what went before: each peer's own bytes, and its own reply.
abbrev pub EachGetsItsReply : {S W L : Type 0} → Ghosts S W → (over : L → List Exchange) → (accepts : L → L → Option AcceptError → Type 0)
    → (closes : L → L → Exchange → Bool → Type 0) → Type 0
EachGetsItsReply {S} {L} g over accepts closes = (rules : List Rule) (day : ℤ) (outcomes : List ConnectionResult) (first last : L) (old new : S)
    → ServesEachConnection (ServingAnswerLaw g rules day old new) accepts closes outcomes (server_state first old) (server_state last new) → HasSoundStore g old new
    → (all : List Exchange) × (over last ≡ over first ++ all) × ExchangesAreAnswered (archive_in g old) rules day outcomes all

-- ---- why a request was not served

-- Why a request got 503, or its mbox broke off (S3). `first` is the store before the first connection of the run, `old` and `new` that
-- before and after this connection. While it was answered, memory was refused or the disk failed. Or the store was closed before it: the
-- disk had failed in this run. Or what it asks for cannot be read, and no command writes such data.
abbrev pub HasUnservedCause : {S W : Type 0} → Ghosts S W → Archive → List Rule → (day : ℤ) → (first old new : S) → (read : List ℕ) → Type 0
HasUnservedCause g archive rules day first old new read = MemoryWasRefused g old new ⊎ (DiskHasFailed g old new
    ⊎ ((IsStoreClosed g old × DiskHasFailed g first old) ⊎ IsInputDataUnreadable [] read rules day archive))

module _ {S W : Type 0} (g : Ghosts S W) (archive : Archive) (rules : List Rule) (day : ℤ) (first : S) where
  -- What went over one connection is answered. If it is 503, or an mbox that broke off, this has its cause, of the store before and after
  -- this connection. No connection takes back a count of refused memory or of a fault.
  pub record ExchangeIsAnsweredWithCause (old new : S) (outcome : ConnectionResult) (over : Exchange) : Type 0 where
    pub answered : ExchangeIsAnswered archive rules day outcome over
    pub cause : Sent503OrBrokeOff answered.result → HasUnservedCause g archive rules day first old new over.read
    pub refusals_never_fall : memory_refusal_count g old ≤ memory_refusal_count g new
    pub remains_open : StaysOpenUnlessDiskFails g old new

  -- The same of each connection in its turn, with the store before the first of them and after the last. A connection whose client was
  -- gone leaves the store.
  abbrev pub ExchangesAreAnsweredWithCause : (old new : S) → List ConnectionResult → List Exchange → Type 0
  ExchangesAreAnsweredWithCause old new [] [] = new ≡ old
  ExchangesAreAnsweredWithCause old new [] (over ∷ others) = ⊥
  ExchangesAreAnsweredWithCause old new (outcome ∷ outcomes) [] = (outcome ≡ Err Read) × ExchangesAreAnsweredWithCause old new outcomes []
  ExchangesAreAnsweredWithCause old new (outcome ∷ outcomes) (over ∷ others) =
      ((between : S) × ExchangeIsAnsweredWithCause old between outcome over × ExchangesAreAnsweredWithCause between new outcomes others)
      ⊎ ((outcome ≡ Err Read) × ExchangesAreAnsweredWithCause old new outcomes (over ∷ others))

-- What went over the connections that a listener took back in such a run, if no limit is set on the steps of a query: each 503 and each
-- mbox that broke off has its cause.
abbrev pub Each503HasItsCause : {S W L : Type 0} → Ghosts S W → (over : L → List Exchange) → (accepts : L → L → Option AcceptError → Type 0)
    → (closes : L → L → Exchange → Bool → Type 0) → Type 0
Each503HasItsCause {S} {L} g over accepts closes = (rules : List Rule) (day : ℤ) (outcomes : List ConnectionResult) (first last : L) (old new : S)
    → ServesEachConnection (ServingAnswerLaw g rules day old new) accepts closes outcomes (server_state first old) (server_state last new) → HasSoundStore g old new
    → HasNoStepLimit g old
    → (all : List Exchange) × (over last ≡ over first ++ all) × ExchangesAreAnsweredWithCause g (archive_in g old) rules day old old new outcomes all
