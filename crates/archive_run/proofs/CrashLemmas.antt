-- What a crash leaves of an order: of its store while that is open, and of its run.
use Rattle.std.proofs.Common.{◌≡◌, ◌++◌, ◌+◌, inl, inr, refl, ℕ, List, Result, Ok}
use Rattle.archive_port.specs.declared.state.ArchiveState.{Ghosts}
use Rattle.byte_device.specs.declared.devices.Source.{Ghosts as Reads}
use Rattle.archive_port.specs.Crashes.{CrashSteps, WritesNothing}
use Rattle.archive_port.specs.Told.{archive_in}
use Rattle.archive_desk.specs.declared.importing.Report.{Report}
use Rattle.archive_desk.specs.declared.importing.ImportStop.{ImportStop}
use Rattle.archive_import.specs.Streaming.{CrashImportsInput, ImportsInput, ResultHasReadFailures}
use Rattle.archive_args.specs.Values.{StoreCommand}
use Rattle.archive_args.specs.declared.orders.Order.{Order}
use Rattle.archive_args.specs.declared.orders.Order.TheVariants.{Sift, Table, Import, Get, Export, Check, Serve}
use Rattle.archive_commands.specs.Commands.{command_outcome}
use Rattle.sift_run.specs.declared.files.StreamedFiles.{Ghosts as Opens}
use Rattle.archive_run.specs.Crashing.{CrashCarriesOutCommand, CrashImportsFile, CrashLeavesSameArchive, CrashRunsOrder}
use Rattle.archive_run.specs.Environments.{DeviceContracts}
use Rattle.archive_run.specs.declared.world.Environment.{Environment}

module _ {S W : Type 0} (g : Ghosts S W) where
  pub crash_leaves_same : (store : S) → CrashLeavesSameArchive g store store
  crash_leaves_same store = λ clean rests safe db may. (archive_in g store, refl, safe db may)

  -- a question
  pub crash_of_question : (old new : S) → WritesNothing g old new → CrashLeavesSameArchive g old new
  crash_of_question old new quiet = λ clean rests safe db may. (archive_in g old, refl, safe db (quiet db (clean, may)).1)

  pub crash_of_command : (old new : S) (command : StoreCommand) → CrashSteps g old new (λ a. command_outcome a command)
      → CrashCarriesOutCommand g old new command
  crash_of_command old new command crash = λ clean rests safe db may. elim (crash rests clean db may) [
    | inl before ↦ (archive_in g old, inl refl, safe db before)
    | inr made ↦ ((command_outcome (archive_in g old) command).0, inr refl, made)
  ]

  -- what an import says of its input is said of the file that gave it
  pub crash_of_import : {F I : Type 0} (opens : Opens F I) (reads : Reads I) (files : F) (list mbox : List ℕ) (old new : S) (before after : I) (result : Result Report ImportStop)
      → opens.inputs files mbox (Ok before)
      → ((text : List ℕ) × (ends : ℕ) × (reads.told after ≡ reads.told before ++ text) × (reads.ends after ≡ reads.ends before + ends) × ImportsInput g old new list text ends result)
      → ((failed : ℕ) × (reads.failures after ≡ reads.failures before + failed) × ResultHasReadFailures result failed)
      → ((text : List ℕ) (ends : ℕ) → reads.told after ≡ reads.told before ++ text → reads.ends after ≡ reads.ends before + ends → CrashImportsInput g old new list text ends result)
      → CrashImportsFile g old new opens reads files list mbox
  crash_of_import opens reads files list mbox old new before after result opened read failures crash = inr (record {
    input_before = before;
    input_after = after;
    opens_input = opened;
    text = read.0;
    end_count = read.1;
    failure_count = failures.0;
    reads_text = read.2;
    adds_end_reads = read.3;
    adds_failed_reads = failures.1;
    input_becomes = (crash read.0 read.1 read.2 read.3).when_crashed;
  })

module _ {Y S F D C P T R O E W I L K A B M : Type 0} (dev : DeviceContracts S W F I D C P L T R O E) (old : Environment Y S F D C P T R O E W I L K A B M) where
  -- where there was no memory to read the words
  pub crash_of_unread : (new : Environment Y S F D C P T R O E W I L K A B M) → new.databases ≡ old.databases → (order : Order) → CrashRunsOrder dev old new order
  crash_of_unread new same (Sift order) = same
  crash_of_unread new same (Table order) = inl same
  crash_of_unread new same (Import order) = inl same
  crash_of_unread new same (Get order) = inl same
  crash_of_unread new same (Export order) = inl same
  crash_of_unread new same (Check order) = inl same
  crash_of_unread new same (Serve order) = inl same

  -- where a refusal was told, or not, behind the order
  pub crash_of_finished : (new : Environment Y S F D C P T R O E W I L K A B M) (faults : E) (order : Order) → CrashRunsOrder dev old new order
      → CrashRunsOrder dev old (record new { faults = faults }) order
  crash_of_finished new faults (Sift order) it = it
  crash_of_finished new faults (Table order) it = it
  crash_of_finished new faults (Import order) it = it
  crash_of_finished new faults (Get order) it = it
  crash_of_finished new faults (Export order) it = it
  crash_of_finished new faults (Check order) it = it
  crash_of_finished new faults (Serve order) it = it
