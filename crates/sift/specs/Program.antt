-- What the program comes to, by the arguments of its command line.
use Rattle.std.specs.Prelude.{◌≡◌, ◌<◌, ◌≤◌, ◌⊎◌, ℕ, List, Option, None, false, Ok}
use Rattle.clap.specs.Words.{takes}
use Rattle.byte_device.specs.declared.devices.Sink.{Ghosts as Takes}
use Rattle.byte_device.specs.declared.devices.Source.{Ghosts as Reads}
use Rattle.archive_listen.specs.Connections.{error_stream_state}
use Rattle.archive_listen.specs.declared.connections.BufferedSink.{Ghosts as Passes}
use Rattle.archive_args.specs.Program.{archive_app}
use Rattle.archive_args.specs.Orders.{IsUsageError, IsOrderStopOf, order_of_args}
use Rattle.archive_args.specs.Values.{SiftValues}
use Rattle.archive_args.specs.declared.orders.Order.TheVariants.{Sift}
use Rattle.archive_args.specs.declared.orders.OrderStop.{OrderStop}
use Rattle.archive_args.specs.declared.orders.OrderStop.TheVariants.{Memory}
use Rattle.sift_run.specs.Refusals.{ReportsOrderStop, WritesErrorLine, command_error_text}
use Rattle.sift_run.specs.Running.{ParseAsOrder, IsSiftError, ParseAsOtherOrder, SiftEndsByPolicy}
use Rattle.sift_run.specs.Streams.{OutputStreamState, output_stream_state}
use Rattle.sift_run.specs.Systems.{AreProgramArguments, IsArgumentsError}
use Rattle.sift_run.specs.declared.clock.DayClock.{Ghosts as Knows}
use Rattle.sift_run.specs.declared.faults.CommandError.{CommandError}
use Rattle.sift_run.specs.declared.files.ReadFiles.{Ghosts as Gives}

-- all that was written was passed on, or the output failed
abbrev pub FlushesOutput : (before after : OutputStreamState) → Type 0
FlushesOutput before after = (after.written ≡ before.written)
    × (((after.failures ≡ before.failures) × (after.passed ≡ after.written)) ⊎ (before.failures < after.failures))

-- the devices of a program, before and after
module _ {C R O F E : Type 0} (tells : Knows C) (reads : Reads R) (writes : Takes O) (passes : Passes O) (notes : Takes E) (gives : Gives F)
    (files : F) (clock_old clock_new : C) (in_old in_new : R) (out_old : O) (err_old err_new : E) where
  -- What `run` says of these arguments, at the status that it answers.
  pub record EndsSiftRun (words : List (List ℕ)) (out_new : O) (status : ℕ) : Type 0 where
    -- at 0 the sift was carried out, whole, and no refusal was told
    pub when_0 : (asked : SiftValues) → ParseAsOrder words (Sift asked) → status ≡ 0
        → SiftEndsByPolicy tells reads writes passes clock_old clock_new in_old in_new out_old out_new gives files asked (Ok tt) × (err_new ≡ err_old)
    -- at 1 it was refused for a reason that holds, and one line tells it
    pub when_1 : (asked : SiftValues) → ParseAsOrder words (Sift asked) → status ≡ 1
        → (fault : CommandError) × IsSiftError tells reads writes passes clock_old clock_new in_old in_new out_old out_new gives files asked fault
        × WritesErrorLine (command_error_text fault) (error_stream_state notes err_old) (error_stream_state notes err_new)
    -- at 2 the arguments are a usage error
    pub when_2 : status ≡ 2 → (IsUsageError words × ((takes archive_app words ≡ false) ⊎ (order_of_args words ≡ None))) ⊎ ParseAsOtherOrder words
    -- a sift ends with 0 or 1; another command with 2; what is no command by why it is none
    pub stopped : ((asked : SiftValues) × ParseAsOrder words (Sift asked) × (status ≤ 1))
        ⊎ (ParseAsOtherOrder words × (status ≡ 2) × (clock_new ≡ clock_old) × (in_new ≡ in_old) × (out_new ≡ out_old))
        ⊎ ((stop : OrderStop) × IsOrderStopOf words stop × (clock_new ≡ clock_old) × (in_new ≡ in_old)
        × ReportsOrderStop writes passes notes out_old out_new err_old err_new stop status)

  -- nothing was run, and it is said why
  abbrev pub ReportsWithoutRunning : (out_new : O) → OrderStop → (status : ℕ) → Type 0
  ReportsWithoutRunning out_new stop status =
      (clock_new ≡ clock_old) × (in_new ≡ in_old) × ReportsOrderStop writes passes notes out_old out_new err_old err_new stop status

  -- The run, after which what a refused sift left in the output is passed on. Or there was no memory to lend the arguments.
  abbrev pub RunsSiftOnArgs : (words : List (List ℕ)) → (out_new : O) → (status : ℕ) → Type 0
  RunsSiftOnArgs words out_new status =
      ((out_mid : O) × EndsSiftRun words out_mid status × FlushesOutput (output_stream_state writes passes out_mid) (output_stream_state writes passes out_new))
      ⊎ ReportsWithoutRunning out_new Memory status

  -- The same of the arguments that the system gave, without the program's name. Or there are none, and it is said why.
  abbrev pub RunsSiftProgram : {Y : Type 0} → (gave : Y → Option (List (List ℕ)) → Type 0) → Y → (out_new : O) → (status : ℕ) → Type 0
  RunsSiftProgram gave system out_new status =
      ((words : List (List ℕ)) × AreProgramArguments gave system words × RunsSiftOnArgs words out_new status)
      ⊎ ((stop : OrderStop) × IsArgumentsError gave system stop × ReportsWithoutRunning out_new stop status)
