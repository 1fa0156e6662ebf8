-- What a run of an order does, and why it is refused. Each relation holds of what a run is over before and after, of what the
-- traits of its devices say, of the order and of the result; and it says of all devices which were touched.
use Rattle.std.specs.Prelude.{◌≡◌, ◌⊎◌, ℕ, ℤ, true, List, codes, Option, Some, None, Result, Ok, Err, Vec, ⊤, MatchResult}
use Rattle.std.specs.declared.alloc.Global.{Global}
use Rattle.archive_port.specs.declared.state.ArchiveState.{Ghosts as StateOf}
use Rattle.byte_device.specs.declared.devices.Sink.{Ghosts as Takes}
use Rattle.byte_device.specs.declared.devices.Source.{Ghosts as Reads}
use Rattle.policy_core.specs.Rules.{Rule}
use Rattle.archive_port.specs.Checking.{ChecksArchive}
use Rattle.archive_results.specs.Access.{Ask}
use Rattle.archive_desk.specs.declared.importing.Report.{Report}
use Rattle.archive_listen.specs.declared.connections.BufferedSink.{Ghosts as Passes}
use Rattle.archive_args.specs.Values.{AskValues, CheckValues, GetValues, ImportValues, SiftValues, StoreCommandValues}
use Rattle.archive_commands.specs.Commands.{answer_line}
use Rattle.archive_commands.specs.Working.{CarriesOutCommand, GetsMessage}
use Rattle.archive_commands.specs.declared.commands.Answer.{Answer}
use Rattle.sift_run.specs.Running.{AreRulesOfPolicyFile, IsPolicyErrorCause, IsReadingDay, SiftEndsByPolicy}
use Rattle.sift_run.specs.Streams.{WritesAndFlushes, WritesPartAndFails, OutputStreamState, output_stream_state}
use Rattle.sift_run.specs.declared.clock.DayClock.{Ghosts as Tells}
use Rattle.sift_run.specs.declared.faults.CommandError.{CommandError}
use Rattle.sift_run.specs.declared.faults.CommandError.TheVariants.{Write, Clock}
use Rattle.sift_run.specs.declared.files.StreamedFiles.{Ghosts as Opens}
use Rattle.sift_run.specs.declared.files.ReadFiles.{Ghosts as Gives}
use Rattle.archive_run.specs.Databases.{UsesDatabase}
use Rattle.archive_run.specs.Refusals.{IsCommandErrorWith}
use Rattle.archive_run.specs.Working.{RefusesCommand, RefusesCheck, RefusesExport, FailsOnDatabase, RefusesGet, ImportsFile, RefusesImport, ExportsWholeList, RefusesOpening, report_line}
use Rattle.archive_port.specs.declared.databases.Databases.{Ghosts as Keeps}
use Rattle.archive_run.specs.declared.faults.RunError.{RunError}
use Rattle.archive_run.specs.declared.faults.RunError.TheVariants.{Run}
use Rattle.archive_run.specs.declared.world.Environment.{Environment}

-- what is asked under these rules on this day
abbrev pub ask_of_values : AskValues → List Rule → ℤ → Ask
ask_of_values order rules day = record { rules = rules; reader = order.person; list = order.list; day = day }

module _ {Y S F D C P T R O E W I L K A B M : Type 0} (old new : Environment Y S F D C P T R O E W I L K A B M) where
  -- ---- the policy and the day

  -- By the rules that the named policy writes this came of it. Or there are no rules, and nothing was touched.
  abbrev pub RunsByPolicy : Gives F → Option (List ℕ) → (List Rule → Result ⊤ RunError → Type 0) → Result ⊤ RunError → Type 0
  RunsByPolicy gives policy Runs (Ok done) = (rules : List Rule) × AreRulesOfPolicyFile gives old.files policy rules × Runs rules (Ok done)
  RunsByPolicy gives policy Runs (Err refusal) = (IsCommandErrorWith (IsPolicyErrorCause gives old.files policy) refusal × (new ≡ old))
      ⊎ ((rules : List Rule) × AreRulesOfPolicyFile gives old.files policy rules × Runs rules (Err refusal))

  -- On the day that was given, or that the clock told, this came of it from there on. Or there is no day (F3), and but for the clock
  -- nothing was touched.
  abbrev pub RunsOnDay : Tells C → Option ℤ → (Environment Y S F D C P T R O E W I L K A B M → ℤ → Result ⊤ RunError → Type 0) → Result ⊤ RunError → Type 0
  RunsOnDay tells given Runs (Ok done) = (clock : C) × (day : ℤ) × IsReadingDay tells given true old.clock clock (Some day)
      × Runs (record old { clock = clock }) day (Ok done)
  RunsOnDay tells given Runs (Err refusal) =
      ((refusal ≡ Run Clock) × IsReadingDay tells given true old.clock new.clock None × (new ≡ record old { clock = new.clock }))
      ⊎ ((clock : C) × (day : ℤ) × IsReadingDay tells given true old.clock clock (Some day)
      × Runs (record old { clock = clock }) day (Err refusal))

  module _ (takes : Takes O) (passes : Passes O) where
    -- what the output told before and after
    abbrev pub before : OutputStreamState
    before = output_stream_state takes passes old.output

    abbrev pub after : OutputStreamState
    after = output_stream_state takes passes new.output

    -- ---- a sift

    module _ (gives : Gives F) (tells : Tells C) (reads : Reads R) where
      abbrev Sifted : SiftValues → Result ⊤ CommandError → Type 0
      Sifted = SiftEndsByPolicy tells reads takes passes old.clock new.clock old.input new.input old.output new.output gives old.files

      -- It was carried out, or stopped for a cause, and nothing else was touched.
      abbrev pub RunsSift : SiftValues → Result ⊤ RunError → Type 0
      RunsSift order result = MatchResult result (λ done. Sifted order (Ok done)) (IsCommandErrorWith (λ fault. Sifted order (Err fault)))
          × (new ≡ record old { clock = new.clock; input = new.input; output = new.output })

    -- ---- orders over the database of a name

    module _ (pages : StateOf S W) (keeps : Keeps D S) where
      -- the database of the name was opened, this became of its store, and it was closed
      abbrev pub RunUsesDatabase : (file : List ℕ) → (S → S → Type 0) → Type 0
      RunUsesDatabase file Becomes = UsesDatabase keeps old.databases new.databases file Becomes

      -- it was not opened, or this became of its store; and nothing else was touched
      abbrev pub RunFailsOnDatabase : (file : List ℕ) → (S → S → RunError → Type 0) → RunError → Type 0
      RunFailsOnDatabase file Becomes refusal =
          FailsOnDatabase keeps old.databases new.databases file Becomes refusal × (new ≡ record old { databases = new.databases })

      -- this text went out, and nothing else was touched but for the databases
      abbrev pub RunWritesText : (text : List ℕ) → Type 0
      RunWritesText text = WritesAndFlushes before after text × (new ≡ record old { databases = new.databases; output = new.output })

      -- the output failed (F2) at this text, and nothing else was touched but for the databases
      abbrev pub RunWritesPartAndFails : (text : List ℕ) → RunError → Type 0
      RunWritesPartAndFails text refusal =
          (refusal ≡ Run Write) × WritesPartAndFails before after text × (new ≡ record old { databases = new.databases; output = new.output })

      -- The command was carried out, and its word went out as one line. Or it was refused, and nothing went out; or it was carried
      -- out, and the output failed.
      abbrev pub RunsStoreCommand : StoreCommandValues → Result ⊤ RunError → Type 0
      RunsStoreCommand order (Ok done) = (answer : Answer) × RunUsesDatabase order.file (λ o c. CarriesOutCommand pages o c order.command (Ok answer))
          × RunWritesText (answer_line answer)
      RunsStoreCommand order (Err refusal) = RunFailsOnDatabase order.file (λ o c. RefusesCommand pages o c order.command) refusal
          ⊎ ((answer : Answer) × RunUsesDatabase order.file (λ o c. CarriesOutCommand pages o c order.command (Ok answer))
          × RunWritesPartAndFails (answer_line answer) refusal)

      -- The database was found whole, and `ok` went out as one line. Or it was not, and nothing went out; or it was, and the output
      -- failed.
      abbrev pub RunsCheck : CheckValues → Result ⊤ RunError → Type 0
      RunsCheck order (Ok done) = RunUsesDatabase order.file (λ o c. ChecksArchive pages o c (Ok tt)) × RunWritesText (codes "ok\n")
      RunsCheck order (Err refusal) = RunFailsOnDatabase order.file (λ o c. RefusesCheck pages o c) refusal
          ⊎ (RunUsesDatabase order.file (λ o c. ChecksArchive pages o c (Ok tt)) × RunWritesPartAndFails (codes "ok\n") refusal)

      -- The messages of the named mbox were taken into the list, and the report went out as one line. Or it was refused, or
      -- stopped, and nothing went out; or it was carried out, and the output failed.
      module _ (opens : Opens F I) (reads : Reads I) where
        abbrev pub RunImportsFile : ImportValues → Report → Type 0
        RunImportsFile order report = RunUsesDatabase order.file (λ o c. ImportsFile pages o c opens reads old.files order.list order.mbox report)

        abbrev pub RunsImport : ImportValues → Result ⊤ RunError → Type 0
        RunsImport order (Ok done) = (report : Report) × RunImportsFile order report × RunWritesText (report_line report)
        RunsImport order (Err refusal) =
            RunFailsOnDatabase order.file (λ o c. RefusesImport pages o c opens reads old.files order.list order.mbox) refusal
            ⊎ ((report : Report) × RunImportsFile order report × RunWritesPartAndFails (report_line report) refusal)

      -- ---- questions of a reader

      -- What the reader gets of the message went out, whole. Or it was refused, and nothing went out; or the output failed.
      abbrev pub RunGetsMessage : (file : List ℕ) → Ask → (key : List ℕ) → Result ⊤ RunError → Type 0
      RunGetsMessage file ask key (Ok done) = (text : Vec ℕ Global) × RunUsesDatabase file (λ o c. GetsMessage pages o c ask key (Ok text)) × RunWritesText text.items
      RunGetsMessage file ask key (Err refusal) = RunFailsOnDatabase file (λ o c. RefusesGet pages o c ask key) refusal
          ⊎ ((text : Vec ℕ Global) × RunUsesDatabase file (λ o c. GetsMessage pages o c ask key (Ok text)) × RunWritesPartAndFails text.items refusal)

      -- The messages that the reader may see went out as an mbox, whole, and were passed on. Or the database was not opened, and
      -- nothing went out; or the export stopped.
      abbrev pub RunExportsList : (file : List ℕ) → Ask → Result ⊤ RunError → Type 0
      RunExportsList file ask (Ok done) = RunUsesDatabase file (λ o c. ExportsWholeList pages o c ask before after)
          × (new ≡ record old { databases = new.databases; output = new.output })
      RunExportsList file ask (Err refusal) =
          (RefusesOpening keeps old.databases new.databases file refusal × (new ≡ record old { databases = new.databases }))
          ⊎ (RunUsesDatabase file (λ o c. RefusesExport pages o c ask before after refusal)
          × (new ≡ record old { databases = new.databases; output = new.output }))

module _ {Y S F D C P T R O E W I L K A B M : Type 0} (old new : Environment Y S F D C P T R O E W I L K A B M) (takes : Takes O) (passes : Passes O)
    (pages : StateOf S W) (keeps : Keeps D S) (tells : Tells C) where
  -- by the rules of a policy, on the day of the order
  abbrev pub RunGetsMessageOnDay : GetValues → List Rule → Result ⊤ RunError → Type 0
  RunGetsMessageOnDay order rules = RunsOnDay old new tells order.ask.day
      (λ asked day. RunGetsMessage asked new takes passes pages keeps order.ask.file (ask_of_values order.ask rules day) order.key)

  abbrev pub RunExportsListOnDay : AskValues → List Rule → Result ⊤ RunError → Type 0
  RunExportsListOnDay order rules = RunsOnDay old new tells order.day
      (λ asked day. RunExportsList asked new takes passes pages keeps order.file (ask_of_values order rules day))

  -- by the rules of the named policy
  module _ (gives : Gives F) where
    abbrev pub RunsGet : GetValues → Result ⊤ RunError → Type 0
    RunsGet order = RunsByPolicy old new gives (Some order.ask.policy) (RunGetsMessageOnDay order)

    abbrev pub RunsExport : AskValues → Result ⊤ RunError → Type 0
    RunsExport order = RunsByPolicy old new gives (Some order.policy) (RunExportsListOnDay order)
