-- What the traits of all devices of a run say.
use Rattle.std.specs.Prelude.{ℕ, Bool, List, Option, Result}
use Rattle.archive_port.specs.declared.state.ArchiveState.{Ghosts as StateOf}
use Rattle.byte_device.specs.declared.devices.Source.{Ghosts as Reads}
use Rattle.byte_device.specs.declared.devices.Sink.{Ghosts as Takes}
use Rattle.archive_listen.specs.Connections.{Exchange}
use Rattle.archive_listen.specs.declared.connections.BoundListener.{BoundListener}
use Rattle.archive_listen.specs.declared.connections.BufferedSink.{Ghosts as Passes}
use Rattle.archive_listen.specs.declared.faults.AcceptError.{AcceptError}
use Rattle.archive_listen.specs.declared.faults.ListenError.{ListenError}
use Rattle.sift_run.specs.declared.clock.DayClock.{Ghosts as Tells}
use Rattle.archive_port.specs.declared.databases.Databases.{Ghosts as Keeps}
use Rattle.sift_run.specs.declared.files.ReadFiles.{Ghosts as Gives}
use Rattle.sift_run.specs.declared.files.StreamedFiles.{Ghosts as Opens}

pub record DeviceContracts (S W F I D C P L T R O E : Type 0) : Type 1 where
  pub archive : StateOf S W
  pub gives : Gives F
  pub opens : Opens F I
  pub input_of : Reads I
  pub databases : Keeps D S
  pub clock : Tells C
  -- of ports, of a listener that is asked for a connection, and of one that takes it back
  pub listens : P → P → ℕ → Result (BoundListener L) ListenError → Type 0
  pub accepts : L → L → Option AcceptError → Type 0
  pub shuts : L → L → Exchange → Bool → Type 0
  -- what went over the connections that a listener took back, and over those of all listeners that were ended
  pub over : L → List Exchange
  pub went : P → List Exchange
  -- of whoever makes what threads messages, and of whether it was made
  pub makes : T → Bool → Type 0
  pub reads : Reads R
  pub takes : Takes O
  pub passes : Passes O
  pub notes : Takes E

module _ {S W F I D C P L T R O E : Type 0} where
  -- what each device of a run may do, as one value: archives, files, clock, ports, threaders and the three streams
  abbrev pub devices : StateOf S W → Gives F → Opens F I → Reads I → Keeps D S → Tells C → (P → P → ℕ → Result (BoundListener L) ListenError → Type 0)
      → (L → L → Option AcceptError → Type 0) → (L → L → Exchange → Bool → Type 0) → (L → List Exchange) → (P → List Exchange) → (T → Bool → Type 0)
      → Reads R → Takes O → Passes O → Takes E → DeviceContracts S W F I D C P L T R O E
  devices archive gives opens input_of databases clock listens accepts shuts over went makes reads takes passes notes = record {
    archive = archive;
    gives = gives;
    opens = opens;
    input_of = input_of;
    databases = databases;
    clock = clock;
    listens = listens;
    accepts = accepts;
    shuts = shuts;
    over = over;
    went = went;
    makes = makes;
    reads = reads;
    takes = takes;
    passes = passes;
    notes = notes;
  }
