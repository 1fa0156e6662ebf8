-- Three orders over one database, one behind the other: an mbox is imported, a message is withdrawn, and so many peers are served.
use Rattle.std.specs.Prelude.{◌≡◌, ◌⊎◌, ℕ, ℤ, true, List, [], ◌∷◌, Option, Some, Ok}
use Rattle.policy_core.specs.Numbers.{withdrawn_by_number}
use Rattle.policy_core.specs.declared.access.WithdrawnBy.{WithdrawnBy}
use Rattle.archive_model.specs.Records.{Archive}
use Rattle.archive_model.specs.Commands.{done, withdraw as withdrawal}
use Rattle.archive_model.specs.Machine.{step}
use Rattle.archive_model.specs.Sound.{IsIndexedCorrectly}
use Rattle.archive_port.specs.Told.{StoreHasCleanDisk, IsOpen}
use Rattle.archive_desk.specs.Importing.{IsImported}
use Rattle.archive_desk.specs.declared.importing.Report.{Report}
use Rattle.archive_serve.specs.Runs.{ExchangesAreAnsweredWithCause}
use Rattle.archive_args.specs.Orders.{IsOrderStopOf}
use Rattle.archive_args.specs.Values.{ImportValues, ServeValues, StoreCommandValues, withdraw}
use Rattle.archive_args.specs.declared.orders.Order.{Order}
use Rattle.archive_args.specs.declared.orders.Order.TheVariants.{Table, Import, Serve}
use Rattle.archive_args.specs.declared.orders.OrderStop.{OrderStop}
use Rattle.sift_run.specs.Running.{ParseAsOrder, IsReadingDay, AreRulesOfPolicyFile}
use Rattle.archive_run.specs.Files.{ReadsOpenedFile}
use Rattle.archive_run.specs.Holding.{HasRunStoreCommand, HasImportedMbox, HasServedAll}
use Rattle.archive_run.specs.Runs.{OrderIsRefused, RunsOrder, RunReportsOrderStop}
use Rattle.archive_run.specs.Environments.{DeviceContracts}
use Rattle.archive_run.specs.declared.world.Environment.{Environment}

-- ---- the orders

-- The mbox that is imported into a list of the database of this name, the message of the list that is withdrawn, and for whom; and by
-- which policy, on which day and on which port so many peers are then served.
pub record Publishing : Type 0 where
  pub file : List ℕ
  pub list : List ℕ
  pub mbox : List ℕ
  pub key : List ℕ
  pub by : WithdrawnBy
  pub policy : List ℕ
  pub day : Option ℤ
  pub port : ℕ
  pub count : ℕ

abbrev pub import_args_of : Publishing → ImportValues
import_args_of it = record { file = it.file; list = it.list; mbox = it.mbox }

abbrev pub withdraw_args_of : Publishing → StoreCommandValues
withdraw_args_of it = record { file = it.file; command = withdraw it.list it.key it.by }

abbrev pub serve_args_of : Publishing → ServeValues
serve_args_of it = record { file = it.file; policy = it.policy; day = it.day; port = it.port; count = it.count }

-- the words of three commands, which order just this
pub record AreCommandLinesOf (first second third : List (List ℕ)) (it : Publishing) : Type 0 where
  pub imports : ParseAsOrder first (Import (import_args_of it))
  pub withdraws : ParseAsOrder second (Table (withdraw_args_of it))
  pub serves : ParseAsOrder third (Serve (serve_args_of it))

module _ {Y S F D C P T R O E W I L K A B M : Type 0} (dev : DeviceContracts S W F I D C P L T R O E) where
  -- ---- the theorem

  module _ (old new : Environment Y S F D C P T R O E W I L K A B M) (it : Publishing) where
    -- What the import and the withdrawal make of an archive, by the machine's own functions: the messages of the mbox were added to the
    -- list one after the other, and then this one was withdrawn.
    pub record MakesPublishedArchive (before after : Archive) : Type 0 where
      pub imported : Archive
      pub report : Report
      pub is_imported : ReadsOpenedFile dev.opens dev.input_of old.files it.mbox
          (λ text ended failed. (ended ≡ 1) × (failed ≡ 0) × IsImported it.list text before imported report)
      pub withdraws : (after, done) ≡ step imported (withdrawal it.list it.key (withdrawn_by_number it.by))

    -- All three were carried out, each in the world that the one before it had left. The peers were served by the rules that the policy
    -- writes, on the day that was given or that the clock told. Where the database held an archive before, in which what is filed of each
    -- message is what its text says, and the disk has returned what was written to it, there is one archive, which the import and the
    -- withdrawal made of that: what went to each peer is the reply of the definition, of this archive, to the head that its own bytes
    -- begin with, or 503, or a beginning of it; each 503 and each mbox that broke off has its cause; and the database holds this archive
    -- behind it all, unless a fault of the disk had shut it.
    pub record ImportsWithdrawsAndServes : Type 0 where
      pub after_import : Environment Y S F D C P T R O E W I L K A B M
      pub after_withdrawal : Environment Y S F D C P T R O E W I L K A B M
      pub imports : HasImportedMbox dev old after_import (import_args_of it)
      pub withdraws : HasRunStoreCommand dev after_import after_withdrawal (withdraw_args_of it)
      pub runs_serve : RunsOrder dev after_withdrawal new (Serve (serve_args_of it)) (Ok tt)
      pub serves_all : HasServedAll dev after_withdrawal new (serve_args_of it)
      pub rules_are_of_policy : AreRulesOfPolicyFile dev.gives old.files (Some it.policy) serves_all.rules
      pub day_is : IsReadingDay dev.clock it.day true old.clock serves_all.clock (Some serves_all.day)
      pub served_from_one_archive : StoreHasCleanDisk dev.archive imports.2.store_after → StoreHasCleanDisk dev.archive withdraws.2.store_after → StoreHasCleanDisk dev.archive serves_all.later
          → (before : Archive) → dev.databases.holds old.databases it.file before → IsIndexedCorrectly before
          → (archive : Archive) × MakesPublishedArchive before archive
          × ExchangesAreAnsweredWithCause dev.archive archive serves_all.rules serves_all.day serves_all.store serves_all.store serves_all.later serves_all.outcomes serves_all.exchanges
          × (IsOpen dev.archive serves_all.later → dev.databases.holds new.databases it.file archive)

  -- ---- where one of them was not carried out

  -- What these words order was carried out; or they order nothing, which ends with 0 where they ask for help, or for the version.
  abbrev pub CommandLineSucceeds : (old new : Environment Y S F D C P T R O E W I L K A B M) → (words : List (List ℕ)) → Type 0
  CommandLineSucceeds old new words = ((order : Order) × ParseAsOrder words order × RunsOrder dev old new order (Ok tt))
      ⊎ ((stop : OrderStop) × IsOrderStopOf words stop × RunReportsOrderStop dev old new stop 0)

  -- What these words order was refused, at 1, for a reason that holds; or they order nothing, which has a cause.
  abbrev pub CommandLineFails : (old new : Environment Y S F D C P T R O E W I L K A B M) → (words : List (List ℕ)) → (status : ℕ) → Type 0
  CommandLineFails old new words status = ((order : Order) × ParseAsOrder words order × (status ≡ 1) × OrderIsRefused dev old new order)
      ⊎ ((stop : OrderStop) × IsOrderStopOf words stop × RunReportsOrderStop dev old new stop status)

  -- The first of these words that were not carried out ended with this status, behind those that were; nothing else was begun.
  abbrev pub StopsAtFirstFailure : (old new : Environment Y S F D C P T R O E W I L K A B M) → List (List (List ℕ)) → (status : ℕ) → Type 0
  StopsAtFirstFailure old new [] status = ⊥
  StopsAtFirstFailure old new (words ∷ others) status = CommandLineFails old new words status
      ⊎ ((between : Environment Y S F D C P T R O E W I L K A B M) × CommandLineSucceeds old between words × StopsAtFirstFailure between new others status)
