-- One run of the program over one database: which commands its order means, what `run` says of it, and what the next run finds.
use Rattle.std.proofs.Common.{inl, inr}
use Rattle.std.specs.Prelude.{◌≡◌, ◌≢◌, ◌⊎◌, ◌++◌, ℕ, List, [], ◌∷◌, map, Option, Some, None, option_map, Ok, if◌then◌else◌, IfSome, MatchOption, ⊤}
use Rattle.byte_device.specs.declared.devices.Source.{Ghosts as Reads}
use Rattle.mbox_stream.specs.Stream.{file_items}
use Rattle.archive_model.specs.Records.{Archive}
use Rattle.archive_model.specs.Commands.{Command, add}
use Rattle.archive_model.specs.Runs.{taken, tally_replies}
use Rattle.archive_port.specs.Checking.{PassesCheck}
use Rattle.archive_port.specs.Crashes.{IsCrashSafe}
use Rattle.archive_port.specs.Told.{StoreHasCleanDisk, IsOpen}
use Rattle.archive_desk.specs.Exporting.{exported_text}
use Rattle.archive_desk.specs.Importing.{import_tally_of}
use Rattle.archive_serve.specs.Runs.{ExchangesAreAnsweredWithCause}
use Rattle.archive_args.specs.Values.{ServeValues}
use Rattle.archive_args.specs.declared.orders.Order.{Order}
use Rattle.archive_args.specs.declared.orders.Order.TheVariants.{Sift, Table, Import, Get, Export, Check, Serve}
use Rattle.archive_commands.specs.Commands.{answer_to, command_outcome, has_valid_key, model_command}
use Rattle.archive_commands.specs.Getting.{message_or_refusal}
use Rattle.sift_run.specs.declared.files.StreamedFiles.{Ghosts as Opens}
use Rattle.archive_run.specs.Databases.{UsesDatabase}
use Rattle.archive_run.specs.Files.{ReadsOpenedFile}
use Rattle.archive_run.specs.Crashing.{CrashRunsOrder}
use Rattle.archive_run.specs.Holding.{HasServed, HasServedFewer, HasServedUntilF4, after as output_after, before as output_before}
use Rattle.archive_run.specs.Orders.{ask_of_values}
use Rattle.archive_run.specs.Runs.{OrderIsCarriedOut, OrderIsRefused}
use Rattle.archive_run.specs.Environments.{DeviceContracts}
use Rattle.archive_run.specs.declared.faults.RunError.{RunError}
use Rattle.archive_run.specs.declared.faults.RunError.TheVariants.{Net}
use Rattle.archive_port.specs.declared.databases.Databases.{Ghosts as Keeps}
use Rattle.archive_run.specs.declared.world.Environment.{Environment}
use Rattle.archive_life.specs.Histories.{Ending, printed, cut_off}

-- ---- the commands of an order

-- The commands of the machine that an order means: of a command of the words its own, if the key that it has is valid; of an import one
-- `add` for each message of the mbox that it names, which has these bytes; of a question and of a server none.
abbrev pub commands_of_order : (mbox : List ℕ) → Order → List Command
commands_of_order mbox (Table order) = if has_valid_key order.command then model_command order.command ∷ [] else []
commands_of_order mbox (Import order) = map (add order.list) (file_items mbox)
commands_of_order mbox _ = []

-- the order is over the database of this name; a sift is over none
abbrev pub IsOverDatabase : (file : List ℕ) → Order → Type 0
IsOverDatabase file (Sift order) = ⊤
IsOverDatabase file (Table order) = order.file ≡ file
IsOverDatabase file (Import order) = order.file ≡ file
IsOverDatabase file (Get order) = order.ask.file ≡ file
IsOverDatabase file (Export order) = order.file ≡ file
IsOverDatabase file (Check order) = order.file ≡ file
IsOverDatabase file (Serve order) = order.file ≡ file

-- ---- the store of a run, and the text that an import read

-- the store of a database that was opened: as it was then, and as it was when it was closed, or when the run was cut off
pub record UsedStore (S : Type 0) : Type 0 where
  pub opened : S
  pub last : S

abbrev pub store_of_use : {S D : Type 0} {keeps : Keeps D S} {old new : D} {file : List ℕ} {Becomes : S → S → Type 0}
    → UsesDatabase keeps old new file Becomes → UsedStore S
store_of_use uses = record { opened = uses.store_before; last = uses.store_after }

-- none if the databases are as before, or if the database was not opened
abbrev pub store_if_used : {S D : Type 0} {keeps : Keeps D S} {old new : D} {file : List ℕ} {Becomes : S → S → Type 0} {Same Unopened : Type 0}
    → Same ⊎ (Unopened ⊎ UsesDatabase keeps old new file Becomes) → Option (UsedStore S)
store_if_used (inl same) = None
store_if_used (inr (inl unopened)) = None
store_if_used (inr (inr uses)) = Some (store_of_use uses)

-- What was read of an mbox of these bytes: first bytes of it, and all of them if its end was met.
abbrev pub IsReadOf : (mbox text : List ℕ) → (end_count : ℕ) → Type 0
IsReadOf mbox text end_count = (rest : List ℕ) × (mbox ≡ text ++ rest) × (end_count ≡ 1 → rest ≡ [])

abbrev pub IsReadOfIfOpened : (mbox : List ℕ) → {F I : Type 0} {opens : Opens F I} {reads : Reads I} {files : F} {name : List ℕ} {Becomes : List ℕ → ℕ → ℕ → Type 0} {Unread : Type 0}
    → Unread ⊎ ReadsOpenedFile opens reads files name Becomes → Type 0
IsReadOfIfOpened mbox (inl unread) = ⊤
IsReadOfIfOpened mbox (inr read) = IsReadOf mbox read.text read.end_count

module _ {Y S F D C P T R O E W I L K A B M : Type 0} (dev : DeviceContracts S W F I D C P L T R O E) where
  -- ---- a run

  -- What `run` says of a run, by how it ended. If it printed its word: the order was carried out (`done`). Of any other: what a crash leaves
  -- at each moment (`crash`); and of a server why it was refused, and what it answered before (`refused`). A server that is killed is a run
  -- whose listener gives no more connections.
  abbrev pub RunEnds : (old new : Environment Y S F D C P T R O E W I L K A B M) → Ending → Order → Type 0
  RunEnds old new printed order = OrderIsCarriedOut dev old new order
  RunEnds old new cut_off (Serve order) = CrashRunsOrder dev old new (Serve order) × OrderIsRefused dev old new (Serve order)
  RunEnds old new cut_off order = CrashRunsOrder dev old new order

  module _ (old new : Environment Y S F D C P T R O E W I L K A B M) where
    -- what a server answered until its listener gave no more connections, if it could listen on its port
    abbrev pub served_until_end : (order : ServeValues) (refusal : RunError) → HasServedUntilF4 dev old new (Serve order) refusal → Option (HasServedFewer dev old new order)
    served_until_end order Net (inl no_port) = None
    served_until_end order Net (inr served) = Some served
    served_until_end order refusal it = None

    abbrev pub store_of_server : {order : ServeValues} {Count : ℕ → Type 0} → HasServed dev old new order Count → UsedStore S
    store_of_server served = record { opened = served.store; last = served.later }

    -- Its connections were answered out of this archive, by the rules of its own policy and on its own day; and each 503 and each mbox that
    -- broke off has its cause.
    abbrev pub AnswersConnectionsFrom : Archive → {order : ServeValues} {Count : ℕ → Type 0} → HasServed dev old new order Count → Type 0
    AnswersConnectionsFrom archive served =
        ExchangesAreAnsweredWithCause dev.archive archive served.rules served.day served.store served.store served.later served.outcomes served.exchanges

  -- the store of a run, if its database was opened
  abbrev pub store_of_run : (old new : Environment Y S F D C P T R O E W I L K A B M) (ending : Ending) (order : Order) → RunEnds old new ending order → Option (UsedStore S)
  store_of_run old new printed (Sift order) ends = None
  store_of_run old new printed (Table order) ends = Some (store_of_use ends.runs_on_archive.2)
  store_of_run old new printed (Import order) ends = Some (store_of_use ends.runs_order.1)
  store_of_run old new printed (Get order) ends = Some (store_of_use ends.runs_on_archive.2.3.2)
  store_of_run old new printed (Export order) ends = Some (store_of_use ends.runs_on_archive.2.3)
  store_of_run old new printed (Check order) ends = Some (store_of_use ends.runs_on_archive)
  store_of_run old new printed (Serve order) ends = Some (store_of_server old new ends.runs_on_archive)
  store_of_run old new cut_off (Sift order) ends = None
  store_of_run old new cut_off (Table order) ends = store_if_used ends
  store_of_run old new cut_off (Import order) ends = store_if_used ends
  store_of_run old new cut_off (Get order) ends = store_if_used ends
  store_of_run old new cut_off (Export order) ends = store_if_used ends
  store_of_run old new cut_off (Check order) ends = store_if_used ends
  store_of_run old new cut_off (Serve order) ends = store_if_used ends.0

  -- the store of a server that was cut off, as it answered until then
  abbrev pub store_until_end : (old new : Environment Y S F D C P T R O E W I L K A B M) (ending : Ending) (order : Order) → RunEnds old new ending order → Option (UsedStore S)
  store_until_end old new cut_off (Serve order) (crash, refused) =
      option_map (λ served. store_of_server old refused.stopped served) (served_until_end old refused.stopped order refused.refusal refused.served_until_f4)
  store_until_end old new ending order ends = None

  -- What was printed is of this archive, and so is what a server sent, however it ended: the word is the machine's answer to the command,
  -- the report counts its answers to the messages, the message or the mbox is what the definition gives the reader, the database is whole,
  -- and each connection was answered. A server that was refused for another reason than F4 sent nothing.
  abbrev pub AnswersFrom : (old new : Environment Y S F D C P T R O E W I L K A B M) (ending : Ending) (order : Order) → RunEnds old new ending order → Archive → Type 0
  AnswersFrom old new printed (Table order) ends archive = answer_to order.command (command_outcome archive order.command).1 ≡ Some ends.runs_on_archive.0
  AnswersFrom old new printed (Import order) ends archive =
      import_tally_of ends.runs_order.0 ≡ tally_replies (taken archive order.list (file_items ends.runs_order.1.store_changes.text)).replies
  AnswersFrom old new printed (Get order) ends archive =
      message_or_refusal archive (ask_of_values order.ask ends.runs_on_archive.0 ends.runs_on_archive.2.1) order.key ≡ Ok ends.runs_on_archive.2.3.0.items
  AnswersFrom old new printed (Export order) ends archive =
      (output_after dev old new).written ≡ (output_before dev old new).written ++ exported_text archive (ask_of_values order ends.runs_on_archive.0 ends.runs_on_archive.2.1)
  AnswersFrom old new printed (Check order) ends archive = PassesCheck archive
  AnswersFrom old new printed (Serve order) ends archive = AnswersConnectionsFrom old new archive ends.runs_on_archive
  AnswersFrom old new cut_off (Serve order) (crash, refused) archive = MatchOption (served_until_end old refused.stopped order refused.refusal refused.served_until_f4)
      (refused.refusal ≢ Net → dev.went refused.stopped.ports ≡ dev.went old.ports) (λ served. AnswersConnectionsFrom old refused.stopped archive served)
  AnswersFrom old new ending order ends archive = ⊤

-- ---- what is trusted of a run

module _ {S F D C P T R O E W I L : Type 0} (dev : DeviceContracts S W F I D C P L T R O E) where
  -- What the next run finds under this name; `NextHolds` says which archive its databases hold there.
  module _ (file : List ℕ) (NextHolds : Archive → Type 0) where
    -- each archive that these databases held
    abbrev pub FindsHeld : (left : D) → Type 0
    FindsHeld left = (archive : Archive) → dev.databases.holds left file archive → NextHolds archive

    -- what a crash may leave of this store, and the archive that is stored in it
    pub record FindsCrashed (store : S) : Type 0 where
      pub left : dev.archive.Left
      pub may_be_left : dev.archive.may_leave store left
      pub holds_stored : (archive : Archive) → dev.archive.is_stored archive left → NextHolds archive

    -- After a run that printed its word, and so had closed its database, or that did not open it, the next run finds what these databases
    -- hold then, by their own word. A database that could not be opened holds what it held before (`unopened_held`). After any other run that
    -- opened its database, the next one finds what a crash may leave of the store as it was last; closing the database adds nothing to that.
    abbrev pub FindsAfter : (left : D) → Ending → Option (UsedStore S) → Type 0
    FindsAfter left printed store = FindsHeld left
    FindsAfter left cut_off store = MatchOption store (FindsHeld left) (λ s. FindsCrashed s.last)

  -- The disk of a store has returned what was written to it, and a crash right behind its opening would have left what it remembered.
  pub record IsSoundStore (store : UsedStore S) : Type 0 where
    pub was_clean : StoreHasCleanDisk dev.archive store.opened
    pub is_clean : StoreHasCleanDisk dev.archive store.last
    pub was_safe : IsCrashSafe dev.archive store.opened

module _ {Y S F D C P T R O E W I L K A B M : Type 0} (dev : DeviceContracts S W F I D C P L T R O E) where
  -- If a server printed its word, no fault of the disk had shut its store.
  abbrev pub ServerStaysOpen : (old new : Environment Y S F D C P T R O E W I L K A B M) (ending : Ending) (order : Order) → RunEnds dev old new ending order → Type 0
  ServerStaysOpen old new printed (Serve order) ends = IsOpen dev.archive ends.runs_on_archive.later
  ServerStaysOpen old new ending order ends = ⊤

  -- What an import read of its mbox is of these bytes.
  abbrev pub ReadsMbox : (old new : Environment Y S F D C P T R O E W I L K A B M) (ending : Ending) (order : Order) → RunEnds dev old new ending order → (mbox : List ℕ) → Type 0
  ReadsMbox old new printed (Import order) ends mbox = IsReadOf mbox ends.runs_order.1.store_changes.text ends.runs_order.1.store_changes.end_count
  ReadsMbox old new cut_off (Import order) (inl same) mbox = ⊤
  ReadsMbox old new cut_off (Import order) (inr (inl unopened)) mbox = ⊤
  ReadsMbox old new cut_off (Import order) (inr (inr uses)) mbox = IsReadOfIfOpened mbox uses.store_changes
  ReadsMbox old new ending order ends mbox = ⊤

-- ---- a run

module _ (Y K A B M : Type 0) {S F D C P T R O E W I L : Type 0} (dev : DeviceContracts S W F I D C P L T R O E) where
  -- One run of the program: what it was over before and after, its order, the bytes of the mbox that an import names, how it ended, and
  -- what `run` says then. Files, clock and ports may be others in each run.
  pub record ProgramRun : Type 0 where
    pub old : Environment Y S F D C P T R O E W I L K A B M
    pub new : Environment Y S F D C P T R O E W I L K A B M
    pub order : Order
    pub mbox : List ℕ
    pub ending : Ending
    pub ends : RunEnds dev old new ending order

module _ {Y S F D C P T R O E W I L K A B M : Type 0} (dev : DeviceContracts S W F I D C P L T R O E) where
  -- What is trusted of the system in a run over the database of this name.
  pub record IsTrustedRun (file : List ℕ) (r : ProgramRun Y K A B M dev) : Type 0 where
    pub is_over_database : IsOverDatabase file r.order
    pub store_is_sound : IfSome (store_of_run dev r.old r.new r.ending r.order r.ends) (IsSoundStore dev)
    pub store_was_sound : IfSome (store_until_end dev r.old r.new r.ending r.order r.ends) (IsSoundStore dev)
    pub server_stays_open : ServerStaysOpen dev r.old r.new r.ending r.order r.ends
    pub mbox_is_read : ReadsMbox dev r.old r.new r.ending r.order r.ends r.mbox
