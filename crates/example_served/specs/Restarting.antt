-- An import, a withdrawal, and two servers in turn, over one database. The second server is started when the first one ended, however that was.
use Rattle.std.proofs.Common.{inl, inr}
use Rattle.std.specs.Prelude.{◌≡◌, ◌≢◌, ◌⊎◌, ℕ, ℤ, List, Option, ⊤}
use Rattle.std.specs.List.{AllByRecursion}
use Rattle.policy_core.specs.Rules.{Rule}
use Rattle.policy_core.specs.declared.access.Withdrawn.{Withdrawn}
use Rattle.archive_model.specs.Records.{Archive}
use Rattle.archive_model.specs.Sound.{IsIndexedCorrectly}
use Rattle.archive_port.specs.declared.state.ArchiveState.{Ghosts}
use Rattle.archive_port.specs.Told.{StoreHasCleanDisk, IsOpen}
use Rattle.archive_results.specs.Promise.{DeniesWithdrawnBy, without_message}
use Rattle.archive_pages.specs.Laws.{IsHiddenInReplies}
use Rattle.archive_listen.specs.Connections.{ConnectionResult, Exchange}
use Rattle.archive_serve.specs.Pages.{OnlyCountsRefusal}
use Rattle.archive_serve.specs.Runs.{ExchangeIsAnswered}
use Rattle.archive_args.specs.Orders.{IsOrderStopOf}
use Rattle.archive_args.specs.Values.{ServeValues}
use Rattle.archive_args.specs.declared.orders.Order.{Order}
use Rattle.archive_args.specs.declared.orders.Order.TheVariants.{Serve}
use Rattle.archive_args.specs.declared.orders.OrderStop.{OrderStop}
use Rattle.sift_run.specs.Running.{ParseAsOrder}
use Rattle.archive_run.specs.Databases.{LeavesOrUsesDatabase}
use Rattle.archive_run.specs.Holding.{HasImportedMbox, HasRunStoreCommand, HasServed, HasServedFewer}
use Rattle.archive_run.specs.Runs.{OrderIsCarriedOut, OrderIsRefused, RunReportsOrderStop}
use Rattle.archive_run.specs.Environments.{DeviceContracts}
use Rattle.archive_run.specs.declared.faults.RunError.{RunError}
use Rattle.archive_run.specs.declared.faults.RunError.TheVariants.{Net}
use Rattle.archive_run.specs.declared.world.Environment.{Environment}
use Rattle.archive_life.specs.Peers.{IsSentByOthers}
use Rattle.archive_life.specs.Restarts.{AnswersConnectionsFrom}
use Rattle.archive_life.specs.Sequences.{state_withdrawn_by}
use Rattle.example_served.specs.Publishing.{AreCommandLinesOf, CommandLineSucceeds, MakesPublishedArchive, Publishing, import_args_of, serve_args_of, withdraw_args_of}

-- ---- the orders

-- An import, a withdrawal and a server; and by which policy, on which day, on which port and for how many clients a second server is started
-- over the same database.
pub record RestartedPublishing : Type 0 where
  pub publishing : Publishing
  pub policy : List ℕ
  pub day : Option ℤ
  pub port : ℕ
  pub count : ℕ

abbrev pub second_serve_args_of : RestartedPublishing → ServeValues
second_serve_args_of it = record { file = it.publishing.file; policy = it.policy; day = it.day; port = it.port; count = it.count }

-- the words of four commands, which order just this
pub record AreRestartedCommandLinesOf (first second third fourth : List (List ℕ)) (it : RestartedPublishing) : Type 0 where
  pub publish : AreCommandLinesOf first second third it.publishing
  pub serves_again : ParseAsOrder fourth (Serve (second_serve_args_of it))

-- ---- a client from whom a message is hidden

-- If a client asked for no message by its key, did not write this message, and is denied it, then the server answered this client out of the
-- archive in which the message never came: with the reply of that archive, 503, or a prefix of one of them.
abbrev pub HidesMessageFromClient : (by : Withdrawn) → Archive → List Rule → (day : ℤ) → (list key : List ℕ) → Exchange → Type 0
HidesMessageFromClient by archive rules day list key over = IsSentByOthers (DeniesWithdrawnBy by) archive rules day over.read list key
    → (outcome : ConnectionResult) × ExchangeIsAnswered (without_message archive list key) rules day outcome over

-- Nothing was done to what holds the archive, or one refusal of memory was counted.
abbrev pub IsLeftAlone : {S W : Type 0} → Ghosts S W → S → S → Type 0
IsLeftAlone g opened closed = (closed ≡ opened) ⊎ OnlyCountsRefusal g opened closed

module _ {Y S F D C P T R O E W I L K A B M : Type 0} (dev : DeviceContracts S W F I D C P L T R O E) where
  -- ---- one server

  module _ (old new : Environment Y S F D C P T R O E W I L K A B M) where
    -- A server that was refused before it had a connection. Nothing went over a connection, unless the reason is F4: then it had no port. The
    -- databases are as before; or the server could not open its own; or it opened and closed it, and left it alone.
    abbrev pub ServesNobody : ServeValues → RunError → Type 0
    ServesNobody order refusal = (refusal ≢ Net → dev.went new.ports ≡ dev.went old.ports)
        × LeavesOrUsesDatabase dev.databases old.databases new.databases order.file (IsLeftAlone dev.archive)

    -- How a server ended, by its status. At 0 it answered as many clients as were ordered. At 1 it was refused for a reason that holds: it
    -- had answered fewer clients when its listener gave no more (F4); or it had no connection.
    abbrev pub ServerEnds : ServeValues → (status : ℕ) → Type 0
    ServerEnds order status = ((status ≡ 0) × OrderIsCarriedOut dev old new (Serve order))
        ⊎ ((status ≡ 1) × (refused : OrderIsRefused dev old new (Serve order)) × (HasServedFewer dev old refused.stopped order ⊎ ServesNobody order refused.refusal))

    -- What is trusted of the system in a run of a server: the disk of the store returned what was written to it.
    abbrev pub IsTrustedServer : (order : ServeValues) (status : ℕ) → ServerEnds order status → Type 0
    IsTrustedServer order status (inl (zero_is, done)) = StoreHasCleanDisk dev.archive done.runs_on_archive.later
    IsTrustedServer order status (inr (one_is, refused, inl served)) = StoreHasCleanDisk dev.archive served.later
    IsTrustedServer order status (inr (one_is, refused, inr (sends, inl same))) = ⊤
    IsTrustedServer order status (inr (one_is, refused, inr (sends, inr (inl unopened)))) = ⊤
    IsTrustedServer order status (inr (one_is, refused, inr (sends, inr (inr uses)))) = StoreHasCleanDisk dev.archive uses.store_after

    -- No fault of the disk had shut the store of a server when it had answered its clients.
    abbrev pub ServerLeavesStoreOpen : (order : ServeValues) (status : ℕ) → ServerEnds order status → Type 0
    ServerLeavesStoreOpen order status (inl (zero_is, done)) = IsOpen dev.archive done.runs_on_archive.later
    ServerLeavesStoreOpen order status (inr (one_is, refused, inl served)) = IsOpen dev.archive served.later
    ServerLeavesStoreOpen order status (inr (one_is, refused, inr nobody)) = ⊤

  module _ (by : Withdrawn) (archive : Archive) (list key : List ℕ) where
    -- A server answered each client out of this archive, by the rules of its own policy and on its own day, and each 503 and each mbox that
    -- broke off has its cause. And it hid a message from each client who is denied it.
    pub record AnswersAndHidesMessage (old new : Environment Y S F D C P T R O E W I L K A B M) {order : ServeValues} {Count : ℕ → Type 0} (served : HasServed dev old new order Count) : Type 0 where
      pub answers_from_archive : AnswersConnectionsFrom dev old new archive served
      pub hides_message : AllByRecursion (HidesMessageFromClient by archive served.rules served.day list key) served.exchanges

    -- The same of a server that ended with a status, if it had a connection.
    abbrev pub ServerHidesMessage : (old new : Environment Y S F D C P T R O E W I L K A B M) (order : ServeValues) (status : ℕ) → ServerEnds old new order status → Type 0
    ServerHidesMessage old new order status (inl (zero_is, done)) = AnswersAndHidesMessage old new done.runs_on_archive
    ServerHidesMessage old new order status (inr (one_is, refused, inl served)) = AnswersAndHidesMessage old refused.stopped served
    ServerHidesMessage old new order status (inr (one_is, refused, inr nobody)) = ⊤

  -- ---- the theorem

  -- The import and the withdrawal were carried out, and each server ended with its status, each in the world that the one before it had left.
  -- All four met the same files. If the database held an archive before, in which what is filed of each message is what its text says, and
  -- what is trusted of each run is so, then both servers, however they ended, answered their clients out of one archive. The import and the
  -- withdrawal made it, and the withdrawn message is hidden in its replies to each reader who did not write it and to whom the policy denies
  -- what this party withdrew. The database holds this archive at the end, unless a fault of the disk shut the last store.
  pub record PublishesOverRestarts (old new : Environment Y S F D C P T R O E W I L K A B M) (it : RestartedPublishing) (first second : ℕ) : Type 0 where
    pub after_import : Environment Y S F D C P T R O E W I L K A B M
    pub after_withdrawal : Environment Y S F D C P T R O E W I L K A B M
    pub between : Environment Y S F D C P T R O E W I L K A B M
    pub imports : HasImportedMbox dev old after_import (import_args_of it.publishing)
    pub withdraws : HasRunStoreCommand dev after_import after_withdrawal (withdraw_args_of it.publishing)
    pub first_ends : ServerEnds after_withdrawal between (serve_args_of it.publishing) first
    pub second_ends : ServerEnds between new (second_serve_args_of it) second
    pub leaves_devices : after_withdrawal ≡ record old { databases = after_withdrawal.databases; output = after_withdrawal.output }
    pub leaves_files : between.files ≡ after_withdrawal.files
    pub hides_in_both : StoreHasCleanDisk dev.archive imports.2.store_after → StoreHasCleanDisk dev.archive withdraws.2.store_after
        → IsTrustedServer after_withdrawal between (serve_args_of it.publishing) first first_ends
        → ServerLeavesStoreOpen after_withdrawal between (serve_args_of it.publishing) first first_ends
        → IsTrustedServer between new (second_serve_args_of it) second second_ends
        → (before : Archive) → dev.databases.holds old.databases it.publishing.file before → IsIndexedCorrectly before
        → (archive : Archive) × MakesPublishedArchive dev old new it.publishing before archive
        × IsHiddenInReplies (DeniesWithdrawnBy (state_withdrawn_by it.publishing.by)) archive it.publishing.list it.publishing.key
        × ServerHidesMessage (state_withdrawn_by it.publishing.by) archive it.publishing.list it.publishing.key after_withdrawal between (serve_args_of it.publishing) first first_ends
        × ServerHidesMessage (state_withdrawn_by it.publishing.by) archive it.publishing.list it.publishing.key between new (second_serve_args_of it) second second_ends
        × (ServerLeavesStoreOpen between new (second_serve_args_of it) second second_ends → dev.databases.holds new.databases it.publishing.file archive)

  -- ---- whatever the words order

  -- What these words order was carried out, at 0, or refused for a reason that holds, at 1; or they order nothing, which has a cause.
  abbrev pub CommandLineEnds : (old new : Environment Y S F D C P T R O E W I L K A B M) → (words : List (List ℕ)) → (status : ℕ) → Type 0
  CommandLineEnds old new words status =
      ((order : Order) × ParseAsOrder words order × (((status ≡ 0) × OrderIsCarriedOut dev old new order) ⊎ ((status ≡ 1) × OrderIsRefused dev old new order)))
      ⊎ ((stop : OrderStop) × IsOrderStopOf words stop × RunReportsOrderStop dev old new stop status)

  -- The first two command lines were carried out. Then each of the other two was begun, and ended with its status. Each met what the one
  -- before it had left.
  pub record TwoSucceedAndTwoEnd (old new : Environment Y S F D C P T R O E W I L K A B M) (one two three four : List (List ℕ)) (first second : ℕ) : Type 0 where
    pub after_one : Environment Y S F D C P T R O E W I L K A B M
    pub after_two : Environment Y S F D C P T R O E W I L K A B M
    pub after_three : Environment Y S F D C P T R O E W I L K A B M
    pub one_succeeds : CommandLineSucceeds dev old after_one one
    pub two_succeeds : CommandLineSucceeds dev after_one after_two two
    pub three_ends : CommandLineEnds after_two after_three three first
    pub four_ends : CommandLineEnds after_three new four second
