-- What a run of any order does, and what is said where words order nothing.
use Rattle.std.specs.Prelude.{◌≡◌, ◌⊎◌, ℕ, Result, Ok, Err, ⊤}
use Rattle.archive_args.specs.declared.orders.Order.{Order}
use Rattle.archive_args.specs.declared.orders.Order.TheVariants.{Sift, Table, Import, Get, Export, Check, Serve}
use Rattle.archive_args.specs.declared.orders.OrderStop.{OrderStop}
use Rattle.sift_run.specs.Refusals.{ReportsOrderStop, WritesErrorLine}
use Rattle.archive_listen.specs.Connections.{error_stream_state}
use Rattle.sift_run.specs.declared.faults.CommandError.TheVariants.{Memory}
use Rattle.archive_run.specs.Holding.{HasServedUntilF4, RunsOrderOnArchive}
use Rattle.archive_run.specs.Environments.{DeviceContracts}
use Rattle.archive_run.specs.Orders.{RunsCheck, RunsExport, RunsGet, RunsImport, RunsSift, RunsStoreCommand}
use Rattle.archive_run.specs.Refusals.{refusal_text}
use Rattle.archive_run.specs.Serving.{RunsServe}
use Rattle.archive_run.specs.declared.faults.RunError.{RunError}
use Rattle.archive_run.specs.declared.faults.RunError.TheVariants.{Run}
use Rattle.archive_run.specs.declared.world.Environment.{Environment}

module _ {Y S F D C P T R O E W I L K A B M : Type 0} (dev : DeviceContracts S W F I D C P L T R O E) where
  -- The order was carried out, whole; or it was refused for this reason, which holds.
  abbrev pub RunsOrder : (old new : Environment Y S F D C P T R O E W I L K A B M) → Order → Result ⊤ RunError → Type 0
  RunsOrder old new (Sift order) = RunsSift old new dev.takes dev.passes dev.gives dev.clock dev.reads order
  RunsOrder old new (Table order) = RunsStoreCommand old new dev.takes dev.passes dev.archive dev.databases order
  RunsOrder old new (Import order) = RunsImport old new dev.takes dev.passes dev.archive dev.databases dev.opens dev.input_of order
  RunsOrder old new (Get order) = RunsGet old new dev.takes dev.passes dev.archive dev.databases dev.clock dev.gives order
  RunsOrder old new (Export order) = RunsExport old new dev.takes dev.passes dev.archive dev.databases dev.clock dev.gives order
  RunsOrder old new (Check order) = RunsCheck old new dev.takes dev.passes dev.archive dev.databases order
  RunsOrder old new (Serve order) =
      RunsServe old new dev.takes dev.passes dev.notes dev.archive dev.listens dev.accepts dev.shuts dev.over dev.went dev.databases dev.clock dev.gives dev.makes order

  -- The order was carried out, whole. Its database holds what the order makes of the archive that it held, and what went out is of that
  -- archive.
  pub record OrderIsCarriedOut (old new : Environment Y S F D C P T R O E W I L K A B M) (order : Order) : Type 0 where
    pub runs_order : RunsOrder old new order (Ok tt)
    pub runs_on_archive : RunsOrderOnArchive dev old new order

  -- One line told the refusal, and nothing else was touched.
  abbrev pub WritesOnlyRefusalLine : (old new : Environment Y S F D C P T R O E W I L K A B M) → RunError → Type 0
  WritesOnlyRefusalLine old new refusal =
      WritesErrorLine (refusal_text refusal) (error_stream_state dev.notes old.faults) (error_stream_state dev.notes new.faults) × (new ≡ record old { faults = new.faults })

  -- The order was refused for a reason that holds; or there was no memory to read the words, and nothing was touched. Then one line
  -- told the refusal.
  pub record OrderIsRefused (old new : Environment Y S F D C P T R O E W I L K A B M) (order : Order) : Type 0 where
    pub refusal : RunError
    pub stopped : Environment Y S F D C P T R O E W I L K A B M
    pub cause : ((refusal ≡ Run Memory) × (stopped ≡ old)) ⊎ RunsOrder old stopped order (Err refusal)
    pub reports_refusal : WritesOnlyRefusalLine stopped new refusal
    -- of a server whose listener gave no more: what it served before
    pub served_until_f4 : HasServedUntilF4 dev old stopped order refusal

  -- What is said where the words order nothing, by why they do not; and nothing else was touched.
  abbrev pub RunReportsOrderStop : (old new : Environment Y S F D C P T R O E W I L K A B M) → OrderStop → (status : ℕ) → Type 0
  RunReportsOrderStop old new stop status = ReportsOrderStop dev.takes dev.passes dev.notes old.output new.output old.faults new.faults stop status
      × (new ≡ record old { output = new.output; faults = new.faults })
