-- What the database of an order holds when it is opened, and what it holds when it is closed.
use Rattle.std.specs.Prelude.{◌≡◌, ◌⊎◌, ◌<◌, ◌++◌, ℕ, ℤ, true, List, length, Some, Ok, Err, Vec, ⊤}
use Rattle.std.specs.declared.alloc.Global.{Global}
use Rattle.archive_port.specs.declared.state.ArchiveState.{Ghosts}
use Rattle.policy_core.specs.Rules.{Rule}
use Rattle.archive_model.specs.Records.{Archive}
use Rattle.archive_model.specs.Sound.{IsIndexedCorrectly}
use Rattle.archive_port.specs.Checking.{PassesCheck}
use Rattle.archive_port.specs.Told.{StoreHasCleanDisk, IsOpen}
use Rattle.archive_desk.specs.Exporting.{exported_text}
use Rattle.archive_desk.specs.Importing.{IsImported}
use Rattle.archive_desk.specs.declared.importing.Report.{Report}
use Rattle.archive_listen.specs.Connections.{WritesOutcomeLines, Exchange, ConnectionResult, error_stream_state}
use Rattle.archive_listen.specs.declared.connections.BoundListener.{BoundListener}
use Rattle.archive_listen.specs.declared.faults.ListenError.{ListenError}
use Rattle.archive_serve.specs.Announced.{WritesListeningLine}
use Rattle.archive_serve.specs.Runs.{ExchangesAreAnsweredWithCause}
use Rattle.archive_args.specs.Values.{AskValues, CheckValues, GetValues, ImportValues, ServeValues, StoreCommandValues}
use Rattle.archive_args.specs.declared.orders.Order.{Order}
use Rattle.archive_args.specs.declared.orders.Order.TheVariants.{Sift, Table, Import, Get, Export, Check, Serve}
use Rattle.archive_commands.specs.Commands.{answer_line, answer_to, command_outcome}
use Rattle.archive_commands.specs.Getting.{message_or_refusal}
use Rattle.archive_commands.specs.declared.commands.Answer.{Answer}
use Rattle.sift_run.specs.Running.{IsReadingDay, AreRulesOfPolicyFile}
use Rattle.sift_run.specs.Streams.{WritesAndFlushes, OutputStreamState, output_stream_state}
use Rattle.archive_run.specs.Databases.{UsesDatabase}
use Rattle.archive_run.specs.Files.{ReadsOpenedFile}
use Rattle.archive_run.specs.Orders.{RunsByPolicy, RunsOnDay, ask_of_values}
use Rattle.archive_run.specs.Working.{report_line}
use Rattle.archive_run.specs.Environments.{DeviceContracts}
use Rattle.archive_port.specs.declared.databases.Databases.{Ghosts as Keeps}
use Rattle.archive_run.specs.declared.faults.RunError.{RunError}
use Rattle.archive_run.specs.declared.faults.RunError.TheVariants.{Net}
use Rattle.archive_run.specs.declared.world.Environment.{Environment}

-- The database of this name was opened once and closed. Where it held an archive before, in which what is filed of each message is
-- what its text says, and the disk of its store has returned what was written to it, this is so of that archive and of the one
-- that it holds now, in which it is so, too.
abbrev pub RelatesHeldArchives : {S W D : Type 0} → Ghosts S W → Keeps D S → (old new : D) → (file : List ℕ) → (Archive → Archive → Type 0) → Type 0
RelatesHeldArchives g keeps old new file R = UsesDatabase keeps old new file (λ before after. StoreHasCleanDisk g after → (first : Archive) → keeps.holds old file first → IsIndexedCorrectly first
    → (last : Archive) × R first last × IsIndexedCorrectly last × keeps.holds new file last)

-- The same of one that leaves the archive, whatever is filed of a message: this is so of the archive that it held, and holds still.
abbrev pub KeepsHeldArchive : {S W D : Type 0} → Ghosts S W → Keeps D S → (old new : D) → (file : List ℕ) → (Archive → Type 0) → Type 0
KeepsHeldArchive g keeps old new file Says = UsesDatabase keeps old new file (λ before after. StoreHasCleanDisk g after → (archive : Archive) → keeps.holds old file archive
    → Says archive × keeps.holds new file archive)

module _ {Y S F D C P T R O E W I L K A B M : Type 0} (dev : DeviceContracts S W F I D C P L T R O E) (old new : Environment Y S F D C P T R O E W I L K A B M) where
  -- what the output told before and after
  abbrev pub before : OutputStreamState
  before = output_stream_state dev.takes dev.passes old.output

  abbrev pub after : OutputStreamState
  after = output_stream_state dev.takes dev.passes new.output

  abbrev pub RunRelatesArchives : (file : List ℕ) → (Archive → Archive → Type 0) → Type 0
  RunRelatesArchives = RelatesHeldArchives dev.archive dev.databases old.databases new.databases

  abbrev pub RunKeepsArchive : (file : List ℕ) → (Archive → Type 0) → Type 0
  RunKeepsArchive = KeepsHeldArchive dev.archive dev.databases old.databases new.databases

  -- The archive took the command's step, and its word went out.
  abbrev pub HasRunStoreCommand : StoreCommandValues → Type 0
  HasRunStoreCommand order = (answer : Answer) × WritesAndFlushes before after (answer_line answer)
      × RunRelatesArchives order.file (λ a b. (b ≡ (command_outcome a order.command).0) × (answer_to order.command (command_outcome a order.command).1 ≡ Some answer))

  -- All messages of the mbox, of which this text was read, were added to the list, as the report says that went out.
  abbrev pub HasImportedMbox : ImportValues → Type 0
  HasImportedMbox order = (report : Report) × WritesAndFlushes before after (report_line report)
      × RunRelatesArchives order.file (λ a b. ReadsOpenedFile dev.opens dev.input_of old.files order.mbox
      (λ text ended failed. (ended ≡ 1) × (failed ≡ 0) × IsImported order.list text a b report))

  -- The archive is as before, and it is whole.
  abbrev pub HasCheckedWhole : CheckValues → Type 0
  HasCheckedWhole order = RunKeepsArchive order.file PassesCheck

  -- What the definition gives the reader of the message went out, and the archive is as before.
  abbrev pub HasSentMessage : GetValues → Type 0
  HasSentMessage order = RunsByPolicy old new dev.gives (Some order.ask.policy) (λ rules. RunsOnDay old new dev.clock order.ask.day (λ asked day result.
      (text : Vec ℕ Global) × WritesAndFlushes before after text.items
      × RunKeepsArchive order.ask.file (λ a. message_or_refusal a (ask_of_values order.ask rules day) order.key ≡ Ok text.items))) (Ok tt)

  -- The messages that the reader may see went out as an mbox, and the archive is as before.
  abbrev pub HasExported : AskValues → Type 0
  HasExported order = RunsByPolicy old new dev.gives (Some order.policy) (λ rules. RunsOnDay old new dev.clock order.day (λ asked day result.
      RunKeepsArchive order.file (λ a. after.written ≡ before.written ++ exported_text a (ask_of_values order rules day)))) (Ok tt)

  -- An archive was served: by the rules that the policy writes, on the day that was given or that the clock told, once, so many
  -- connections were answered one after the other, and each fault was told in its line. These bytes went over them. Where the disk of
  -- the store has returned what was written to it, and the database held an archive, what went to each peer is the reply of the
  -- definition, of that archive, to what came of this peer, or 503, or a beginning of it. Each 503, and each mbox that broke off, has its
  -- cause: memory was refused, the disk failed, or what was asked for cannot be read, which no command writes. And the database holds the
  -- same archive when it is closed, unless its store was shut, as only a fault of the disk does.
  pub record HasServed (order : ServeValues) (Count : ℕ → Type 0) : Type 0 where
    pub rules : List Rule
    pub is_policy : AreRulesOfPolicyFile dev.gives old.files (Some order.policy) rules
    pub clock : C
    pub day : ℤ
    pub is_day : IsReadingDay dev.clock order.day true old.clock clock (Some day)
    pub listening : BoundListener L
    pub ports : P
    pub listens_on_port : dev.listens old.ports ports order.port (Ok listening)
    pub writes_listening_line : WritesListeningLine listening.port before.written after.written after.passed
    pub outcomes : List ConnectionResult
    pub count_is : Count (length outcomes)
    pub reports_outcomes : WritesOutcomeLines outcomes (error_stream_state dev.notes old.faults) (error_stream_state dev.notes new.faults)
    pub device : D
    pub store : S
    pub later : S
    pub opens_database : dev.databases.opens old.databases device order.file (Ok store)
    pub closes_database : dev.databases.closes device new.databases later
    pub exchanges : List Exchange
    pub went : dev.went new.ports ≡ dev.went old.ports ++ exchanges
    pub serves_held_archive : StoreHasCleanDisk dev.archive later → (archive : Archive) → dev.databases.holds old.databases order.file archive
        → ExchangesAreAnsweredWithCause dev.archive archive rules day store store later outcomes exchanges
        × (IsOpen dev.archive later → dev.databases.holds new.databases order.file archive)

  -- as many connections as were ordered
  abbrev pub HasServedAll : ServeValues → Type 0
  HasServedAll order = HasServed order (λ n. n ≡ order.count)

  -- fewer, since the listener gave no more
  abbrev pub HasServedFewer : ServeValues → Type 0
  HasServedFewer order = HasServed order (λ n. n < order.count)

  -- What becomes of the archive that the database of an order holds, where the order is carried out.
  abbrev pub RunsOrderOnArchive : Order → Type 0
  RunsOrderOnArchive (Sift order) = ⊤
  RunsOrderOnArchive (Table order) = HasRunStoreCommand order
  RunsOrderOnArchive (Import order) = HasImportedMbox order
  RunsOrderOnArchive (Get order) = HasSentMessage order
  RunsOrderOnArchive (Export order) = HasExported order
  RunsOrderOnArchive (Check order) = HasCheckedWhole order
  RunsOrderOnArchive (Serve order) = HasServedAll order

  -- The same where a server ends by F4: its port was not had, or those who came were served, fewer than were ordered.
  abbrev pub HasServedUntilF4 : Order → RunError → Type 0
  HasServedUntilF4 (Serve order) Net = ((fault : ListenError) × dev.listens old.ports new.ports order.port (Err fault)) ⊎ HasServedFewer order
  HasServedUntilF4 order refusal = ⊤
