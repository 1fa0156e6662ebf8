-- What the program comes to, by the words of its command line.
use Rattle.std.specs.Prelude.{◌≡◌, ◌<◌, ◌≤◌, ◌⊎◌, ℕ, List, Option, None, false}
use Rattle.clap.specs.Words.{takes}
use Rattle.archive_args.specs.Program.{archive_app}
use Rattle.archive_args.specs.Orders.{IsUsageError, IsOrderStopOf, order_of_args}
use Rattle.archive_args.specs.declared.orders.Order.{Order}
use Rattle.archive_args.specs.declared.orders.OrderStop.{OrderStop}
use Rattle.archive_args.specs.declared.orders.OrderStop.TheVariants.{Memory}
use Rattle.sift_run.specs.Running.{ParseAsOrder}
use Rattle.sift_run.specs.Streams.{OutputStreamState, output_stream_state}
use Rattle.sift_run.specs.Systems.{AreProgramArguments, IsArgumentsError}
use Rattle.archive_run.specs.Crashing.{CrashRunsOrder}
use Rattle.archive_run.specs.Runs.{OrderIsCarriedOut, OrderIsRefused, RunReportsOrderStop}
use Rattle.archive_run.specs.Environments.{DeviceContracts}
use Rattle.archive_run.specs.declared.world.Environment.{Environment}

-- nothing was written, and all that was written before was passed on, or the output failed
abbrev pub FlushesRunOutput : (before after : OutputStreamState) → Type 0
FlushesRunOutput before after = (after.written ≡ before.written)
    × (((after.failures ≡ before.failures) × (after.passed ≡ after.written)) ⊎ (before.failures < after.failures))

-- the devices of the program, and what they were before it ran
module _ {Y S F D C P T R O E W I L K A B M : Type 0} (dev : DeviceContracts S W F I D C P L T R O E) (old : Environment Y S F D C P T R O E W I L K A B M) where
  -- What `run` says of these words, at the status that it answers.
  pub record EndsRun (words : List (List ℕ)) (new : Environment Y S F D C P T R O E W I L K A B M) (status : ℕ) : Type 0 where
    -- at 0 the order was carried out, whole, and its database holds what the order makes of the archive that it held
    pub when_0 : (order : Order) → ParseAsOrder words order → status ≡ 0 → OrderIsCarriedOut dev old new order
    -- at 1 it was refused for a reason that holds, and one line tells it
    pub when_1 : (order : Order) → ParseAsOrder words order → status ≡ 1 → OrderIsRefused dev old new order
    -- at each status: what a crash leaves of the database of the order, at each moment while it is open
    pub when_crashed : (order : Order) → ParseAsOrder words order → CrashRunsOrder dev old new order
    -- at 2 the words are bad
    pub when_2 : status ≡ 2 → IsUsageError words × ((takes archive_app words ≡ false) ⊎ (order_of_args words ≡ None))
    -- an order ends with 0 or 1; words that give none by why they give none
    pub when_not_served : ((order : Order) × ParseAsOrder words order × (status ≤ 1))
        ⊎ ((stop : OrderStop) × IsOrderStopOf words stop × RunReportsOrderStop dev old new stop status)

  -- The run, after which what a refused order left in the output is passed on, and nothing else is touched.
  pub record RunsAndFlushes (words : List (List ℕ)) (new : Environment Y S F D C P T R O E W I L K A B M) (status : ℕ) : Type 0 where
    pub unflushed : Environment Y S F D C P T R O E W I L K A B M
    pub ends_run : EndsRun words unflushed status
    pub flushes_output : FlushesRunOutput (output_stream_state dev.takes dev.passes unflushed.output) (output_stream_state dev.takes dev.passes new.output)
    pub only_output_differs : new ≡ record unflushed { output = new.output }

  -- That, or there was no memory to lend the words.
  abbrev pub RunsArchiveOnArgs : (words : List (List ℕ)) → (new : Environment Y S F D C P T R O E W I L K A B M) → (status : ℕ) → Type 0
  RunsArchiveOnArgs words new status = RunsAndFlushes words new status ⊎ RunReportsOrderStop dev old new Memory status

  -- The same of the words that the system gave, without the program's name. Or there are none, and it is said why.
  abbrev pub RunsArchiveProgram : {Q : Type 0} → (gave : Q → Option (List (List ℕ)) → Type 0) → Q → (new : Environment Y S F D C P T R O E W I L K A B M) → (status : ℕ) → Type 0
  RunsArchiveProgram gave system new status =
      ((words : List (List ℕ)) × AreProgramArguments gave system words × RunsArchiveOnArgs words new status)
      ⊎ ((stop : OrderStop) × IsArgumentsError gave system stop × RunReportsOrderStop dev old new stop status)
