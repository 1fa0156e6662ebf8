-- What a run of an order to serve does, and why it is refused.
use Rattle.std.specs.Prelude.{◌≡◌, ◌⊎◌, ◌<◌, ◌≤◌, ◌++◌, ℕ, ℤ, Bool, true, false, List, Option, Some, Result, Ok, Err, ⊤, MatchResult}
use Rattle.archive_port.specs.declared.state.ArchiveState.{Ghosts}
use Rattle.byte_device.specs.declared.devices.Sink.{Ghosts as Takes}
use Rattle.policy_core.specs.Rules.{Rule}
use Rattle.archive_listen.specs.Connections.{Exchange, ErrorStreamState, ConnectionResult, ConnectionTranscript, error_stream_state}
use Rattle.archive_listen.specs.Serving.{ServerState, ServesAllConnections, ServesFewerConnections, server_state}
use Rattle.archive_listen.specs.declared.connections.BoundListener.{BoundListener}
use Rattle.archive_listen.specs.declared.connections.BufferedSink.{Ghosts as Passes}
use Rattle.archive_listen.specs.declared.faults.AcceptError.{AcceptError}
use Rattle.archive_listen.specs.declared.faults.ListenError.{ListenError}
use Rattle.archive_serve.specs.Announced.{WritesListeningLine}
use Rattle.archive_serve.specs.Pages.{OnlyCountsRefusal}
use Rattle.archive_serve.specs.Runs.{ServingAnswerLaw}
use Rattle.archive_args.specs.Values.{ServeValues}
use Rattle.archive_run.specs.Databases.{UsesDatabase}
use Rattle.archive_run.specs.Orders.{RunsByPolicy, RunsOnDay}
use Rattle.archive_run.specs.Working.{RefusesOpening}
use Rattle.sift_run.specs.Streams.{OutputStreamState, output_stream_state}
use Rattle.sift_run.specs.declared.clock.DayClock.{Ghosts as Tells}
use Rattle.archive_port.specs.declared.databases.Databases.{Ghosts as Keeps}
use Rattle.archive_run.specs.declared.faults.RunError.{RunError}
use Rattle.archive_run.specs.declared.faults.RunError.TheVariants.{Run, Net}
use Rattle.sift_run.specs.declared.faults.CommandError.TheVariants.{Read, Write, Memory}
use Rattle.sift_run.specs.declared.files.ReadFiles.{Ghosts as Gives}
use Rattle.archive_run.specs.declared.world.Environment.{Environment}

-- what went out, and what was told of faults
pub record ServerOutput : Type 0 where
  pub output : OutputStreamState
  pub faults : ErrorStreamState

abbrev pub server_output : {O E : Type 0} → Takes O → Passes O → Takes E → O → E → ServerOutput
server_output takes passes notes output faults = record { output = output_stream_state takes passes output; faults = error_stream_state notes faults }

-- how many bytes of lists, months and authors are kept at most while an archive is served, or one of them alone (profile)
abbrev pub max_cache_bytes : ℕ
max_cache_bytes = 268_435_456

-- ---- an open store, and a listener that listens already, which is ended behind its last connection

-- `accepts` and `shuts` are what a listener says of a connection that it gives, or does not, and of one that it takes back; `over` is what
-- went over those that it took back, and `went` over those of all listeners that were ended on a device of ports.
module _ {S W L P : Type 0} (g : Ghosts S W) (accepts : L → L → Option AcceptError → Type 0) (shuts : L → L → Exchange → Bool → Type 0)
    (over : L → List Exchange) (went : P → List Exchange) (ports_old ports_new : P)
    (rules : List Rule) (day : ℤ) (listening : BoundListener L) (old new : S) (before after : ServerOutput) where
  -- how each connection is answered, where the tables were an archive's and the disk has returned what was written
  abbrev pub AnswersEachConnection : (first last : S) → (before after : ConnectionTranscript) → ConnectionResult → Type 0
  AnswersEachConnection = ServingAnswerLaw g rules day old new

  -- The listener was ended so.
  abbrev pub ListenerIsEnded : L → Type 0
  ListenerIsEnded end = went ports_new ≡ went ports_old ++ over end

  -- The line that says where the archive listens went out, and then this is so of a run of connections, by how each is answered, where
  -- it begins, and what was told of faults; and of what listens and the store at its end.
  abbrev pub AnnouncesThenServes : (ServerState L S → Type 0) → Type 0
  AnnouncesThenServes Serves = WritesListeningLine listening.port before.output.written after.output.written after.output.passed
      × (end : L) × ListenerIsEnded end × Serves (server_state end new)

  -- as many connections as were ordered
  abbrev pub AnnouncesThenServesAll : (count : ℕ) → Type 0
  AnnouncesThenServesAll count = AnnouncesThenServes (ServesAllConnections AnswersEachConnection accepts shuts (server_state listening.listener old) before.faults after.faults count)

  -- fewer, and then the listener gave no more, for a reason of its own
  abbrev pub AnnouncesThenServesFewer : (count : ℕ) → Type 0
  AnnouncesThenServesFewer count = AnnouncesThenServes (ServesFewerConnections AnswersEachConnection accepts shuts (server_state listening.listener old) before.faults after.faults count)

  -- none, and no fault was told
  abbrev pub ServesNoConnection : Type 0
  ServesNoConnection = (after.faults ≡ before.faults) × ListenerIsEnded listening.listener

  -- Why it was refused: no more connections came (F4); the output failed at the line that says where it listens (F2); or the memory of the
  -- routes was refused, which the store counts, and nothing was written (F5).
  abbrev pub RefusesServing : (count : ℕ) → RunError → Type 0
  RefusesServing count Net = AnnouncesThenServesFewer count
  RefusesServing count (Run Write) = ServesNoConnection × (new ≡ old) × (before.output.failures < after.output.failures)
  RefusesServing count (Run Memory) = ServesNoConnection × OnlyCountsRefusal g old new × (after.output ≡ before.output)
  RefusesServing count _ = ⊥

-- ---- an open store, and a device of ports before and after

-- `listens` holds of a device before it is asked for a port and after, of its number, and of what is given.
module _ {S W L P : Type 0} (g : Ghosts S W) (accepts : L → L → Option AcceptError → Type 0) (shuts : L → L → Exchange → Bool → Type 0)
    (over : L → List Exchange) (went : P → List Exchange)
    (listens : P → P → ℕ → Result (BoundListener L) ListenError → Type 0) (ports_old ports_new : P) (port count : ℕ)
    (rules : List Rule) (day : ℤ) (old new : S) (before after : ServerOutput) where
  -- The port of the order was had, so many connections were served, and the listener was ended.
  abbrev pub ListensAndServes : Type 0
  ListensAndServes = (listening : BoundListener L) × (ports : P) × listens ports_old ports port (Ok listening)
      × AnnouncesThenServesAll g accepts shuts over went ports ports_new rules day listening old new before after count

  -- It was not had (F4), and nothing else was touched; or it was, and serving was refused.
  abbrev pub RefusesListeningOrServing : RunError → Type 0
  RefusesListeningOrServing refusal =
      ((refusal ≡ Net) × (fault : ListenError) × listens ports_old ports_new port (Err fault) × (new ≡ old) × (after ≡ before))
      ⊎ ((listening : BoundListener L) × (ports : P) × listens ports_old ports port (Ok listening)
      × RefusesServing g accepts shuts over went ports ports_new rules day listening old new before after count refusal)

-- ---- an order

-- What a run is over before and after, and what the traits of its devices say.
module _ {Y S F D C P T R O E W I L K A B M : Type 0} (old new : Environment Y S F D C P T R O E W I L K A B M) (takes : Takes O) (passes : Passes O) (notes : Takes E)
    (pages : Ghosts S W) (listens : P → P → ℕ → Result (BoundListener L) ListenError → Type 0)
    (accepts : L → L → Option AcceptError → Type 0) (shuts : L → L → Exchange → Bool → Type 0) (over : L → List Exchange) (went : P → List Exchange) where
  -- what was said before and after
  abbrev pub before : ServerOutput
  before = server_output takes passes notes old.output old.faults

  abbrev pub after : ServerOutput
  after = server_output takes passes notes new.output new.faults

  -- The same of the port and the count of an order, out of an open store; nothing was touched but for the ports, the output and the
  -- stream of faults.
  abbrev pub ServesOpenStore : (store_old store_new : S) → ServeValues → List Rule → ℤ → Result ⊤ RunError → Type 0
  ServesOpenStore store_old store_new order rules day result = MatchResult result
      (λ _. ListensAndServes pages accepts shuts over went listens old.ports new.ports order.port order.count rules day store_old store_new before after)
      (RefusesListeningOrServing pages accepts shuts over went listens old.ports new.ports order.port order.count rules day store_old store_new before after)
      × (new ≡ record old { ports = new.ports; output = new.output; faults = new.faults })

  module _ (keeps : Keeps D S) where
    -- By these rules and on this day the database of the order was served, and nothing else was touched but for the databases. Or
    -- it was not opened (E14, E15); or it was, and this came of it.
    abbrev pub RunServesDatabase : ServeValues → List Rule → ℤ → Result ⊤ RunError → Type 0
    RunServesDatabase order rules day (Ok done) = UsesDatabase keeps old.databases new.databases order.file
        (λ o c. ListensAndServes pages accepts shuts over went listens old.ports new.ports order.port order.count rules day o c before after)
        × (new ≡ record old { databases = new.databases; ports = new.ports; output = new.output; faults = new.faults })
    RunServesDatabase order rules day (Err refusal) =
        (RefusesOpening keeps old.databases new.databases order.file refusal × (new ≡ record old { databases = new.databases }))
        ⊎ (UsesDatabase keeps old.databases new.databases order.file
        (λ o c. RefusesListeningOrServing pages accepts shuts over went listens old.ports new.ports order.port order.count rules day o c before after refusal)
        × (new ≡ record old { databases = new.databases; ports = new.ports; output = new.output; faults = new.faults }))

module _ {Y S F D C P T R O E W I L K A B M : Type 0} (old new : Environment Y S F D C P T R O E W I L K A B M) (takes : Takes O) (passes : Passes O) (notes : Takes E)
    (pages : Ghosts S W) (listens : P → P → ℕ → Result (BoundListener L) ListenError → Type 0)
    (accepts : L → L → Option AcceptError → Type 0) (shuts : L → L → Exchange → Bool → Type 0) (over : L → List Exchange) (went : P → List Exchange)
    (keeps : Keeps D S) (tells : Tells C) where
  -- on the day of the order
  abbrev pub RunServesDatabaseOnDay : ServeValues → List Rule → Result ⊤ RunError → Type 0
  RunServesDatabaseOnDay order rules = RunsOnDay old new tells order.day
      (λ asked day. RunServesDatabase asked new takes passes notes pages listens accepts shuts over went keeps order rules day)

  -- By the rules of the named policy, where there is what threads messages; the stream of faults may have failed more often by then.
  -- Or there is none (F1), and nothing was touched. `makes` holds of whoever makes one, and of whether it was made.
  abbrev pub RunsServe : Gives F → (makes : T → Bool → Type 0) → ServeValues → Result ⊤ RunError → Type 0
  RunsServe gives makes order result =
      (makes old.threaders true × RunsByPolicy old new gives (Some order.policy) (RunServesDatabaseOnDay order) result
      × (notes.failures old.faults ≤ notes.failures new.faults))
      ⊎ (makes old.threaders false × (result ≡ Err (Run Read)) × (new ≡ old))
