-- What a crash leaves of the archive in the database of an order, at each moment between the opening of the database and its close. A
-- crash within a call is the end of that call over a disk that fails from then on. So nothing here names what the call answers. A crash
-- within the opening is an opening that fails (`UnopenedDatabaseHoldsArchive`).
use Rattle.std.specs.Prelude.{◌≡◌, ◌⊎◌, ◌++◌, ℕ, List, []}
use Rattle.archive_port.specs.declared.state.ArchiveState.{Ghosts}
use Rattle.byte_device.specs.declared.devices.Source.{Ghosts as Reads}
use Rattle.archive_port.specs.Crashes.{CrashLeavesRelatedArchive, WritesNothing}
use Rattle.archive_import.specs.Streaming.{HasAddedReadAtLeast}
use Rattle.archive_args.specs.Values.{StoreCommand}
use Rattle.archive_args.specs.declared.orders.Order.{Order}
use Rattle.archive_args.specs.declared.orders.Order.TheVariants.{Sift, Table, Import, Get, Export, Check, Serve}
use Rattle.archive_commands.specs.Commands.{command_outcome}
use Rattle.sift_run.specs.declared.files.FileError.{FileError}
use Rattle.sift_run.specs.declared.files.StreamedFiles.{Ghosts as Opens}
use Rattle.archive_run.specs.Databases.{LeavesOrUsesDatabase}
use Rattle.archive_run.specs.Files.{ReadsOpenedFile, GivesNoInput}
use Rattle.archive_run.specs.Environments.{DeviceContracts}
use Rattle.archive_run.specs.declared.world.Environment.{Environment}

-- ---- an open store

module _ {S W : Type 0} (g : Ghosts S W) (old new : S) where
  -- A crash leaves the archive as it was.
  abbrev pub CrashLeavesSameArchive : Type 0
  CrashLeavesSameArchive = CrashLeavesRelatedArchive g old new (λ a b. b ≡ a)

  -- A command: the archive as it was, or the one that its step makes.
  abbrev pub CrashCarriesOutCommand : StoreCommand → Type 0
  CrashCarriesOutCommand command = CrashLeavesRelatedArchive g old new (λ a b. (b ≡ a) ⊎ (b ≡ (command_outcome a command).0))

  -- An import of the file of this name. It gave no input, and the archive is as it was. Or this text was read of it, and the archive has
  -- some first messages of the bytes that the input has. These begin with the text, and are the text if the end was met.
  abbrev pub CrashImportsFile : {F I : Type 0} → Opens F I → Reads I → F → (list mbox : List ℕ) → Type 0
  CrashImportsFile opens reads files list mbox = ((fault : FileError) × GivesNoInput opens reads files mbox fault × CrashLeavesSameArchive)
      ⊎ ReadsOpenedFile opens reads files mbox (λ text ended failed. (rest : List ℕ) → (ended ≡ 1 → rest ≡ [])
      → CrashLeavesRelatedArchive g old new (HasAddedReadAtLeast list (text ++ rest) 1 0))

-- ---- an order

module _ {Y S F D C P T R O E W I L K A B M : Type 0} (dev : DeviceContracts S W F I D C P L T R O E) (old new : Environment Y S F D C P T R O E W I L K A B M) where
  -- the databases before and after
  abbrev pub LeavesOrUses : (file : List ℕ) → (S → S → Type 0) → Type 0
  LeavesOrUses = LeavesOrUsesDatabase dev.databases old.databases new.databases

  -- At whatever status the run ends: what may be left of the store of the order, while that is open. A question and a server write nothing,
  -- and a sift has no database.
  abbrev pub CrashRunsOrder : Order → Type 0
  CrashRunsOrder (Sift order) = new.databases ≡ old.databases
  CrashRunsOrder (Table order) = LeavesOrUses order.file (λ o c. CrashCarriesOutCommand dev.archive o c order.command)
  CrashRunsOrder (Import order) = LeavesOrUses order.file (λ o c. CrashImportsFile dev.archive o c dev.opens dev.input_of old.files order.list order.mbox)
  CrashRunsOrder (Get order) = LeavesOrUses order.ask.file (WritesNothing dev.archive)
  CrashRunsOrder (Export order) = LeavesOrUses order.file (WritesNothing dev.archive)
  CrashRunsOrder (Check order) = LeavesOrUses order.file (WritesNothing dev.archive)
  CrashRunsOrder (Serve order) = LeavesOrUses order.file (WritesNothing dev.archive)
