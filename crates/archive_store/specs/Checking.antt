-- Whether a store is whole: what `check` answers, and what it does message by message.
use Rattle.std.specs.Prelude.{◌≡◌, ℤ, Option, None, Some, Result, Vec, IfErr, MatchResult}
use Rattle.std.specs.declared.alloc.Global.{Global}
use Rattle.sqlite.specs.Store.{Ghosts}
use Rattle.archive_model.specs.Filing.{IndexedMessage}
use Rattle.archive_model.specs.Damage.{IsFirstDamaged}
use Rattle.archive_tables.specs.Calls.{AnswersOnlyIfOpen}
use Rattle.archive_tables.specs.Listed.{all_rowids, filed_at}
use Rattle.archive_database.specs.Checking.{ReportsIfDamaged}
use Rattle.archive_database.specs.declared.checking.DamagedMessage.{DamagedMessage}
use Rattle.archive_store.specs.Held.{store_connection}
use Rattle.archive_store.specs.Told.{CountsRefusals, HoldsTables, IsOpen, StoreHasCleanDisk, HasNoStepLimit, DiskHasFailed, CallsStoreUnder}
use Rattle.archive_store.specs.Walking.{current_database, current_rows}
use Rattle.archive_store.specs.declared.store.Store.{Store}
use Rattle.archive_port.specs.declared.faults.StoreFault.{StoreFault}
use Rattle.archive_port.specs.declared.faults.StoreFault.TheVariants as faults
use Rattle.archive_port.specs.declared.checking.CheckError.{CheckError}
use Rattle.archive_port.specs.declared.checking.CheckError.TheVariants.{Failed}
use Rattle.archive_port.specs.Replies.{refusal_of_fault}
use Rattle.archive_port.specs.Checking.{damaged_list_and_key, PassesCheck}

module _ {S : Type 0} (g : Ghosts S) (old new : Store S) where
  -- It changes nothing. Ok where all messages are sound; else the list and the key of the first that is not, lists by name and then
  -- in mailbox order.
  abbrev pub ChecksArchive : Result (Unit {0}) CheckError → Type 0
  ChecksArchive result = CallsStoreUnder g (HoldsTables g) old new damaged_list_and_key result
      (λ a b _. (b ≡ a) × PassesCheck a) (λ a b d. (b ≡ a) × IsFirstDamaged a d.0 d.1) (λ a b _. b ≡ a)

  -- the rows are as they were
  abbrev pub RowsStay : Type 0
  RowsStay = (current_database g new ≡ current_database g old) × HoldsTables g new

  -- the numbers of all messages; after a fault the rows are as they were, if the connection is still open
  abbrev pub FindsAllMessageNumbers : Result (Vec ℤ Global) StoreFault → Type 0
  FindsAllMessageNumbers result = StoreHasCleanDisk g new → HoldsTables g old → MatchResult result
      (λ places. (places.items ≡ all_rowids (current_rows g old)) × RowsStay) (λ _. IsOpen g new → RowsStay)

  -- whether the message of a number is sound; after a fault the rows are as they were, if the connection is still open
  abbrev pub ChecksMessageAt : ℤ → Result (Option DamagedMessage) StoreFault → Type 0
  ChecksMessageAt place result = StoreHasCleanDisk g new → HoldsTables g old → (f : IndexedMessage) → filed_at (current_rows g old) place ≡ Some f
      → MatchResult result (λ found. ReportsIfDamaged f found × RowsStay) (λ _. IsOpen g new → RowsStay)

  -- what E15 means of a message that is there, where no limit is set: the disk failed
  abbrev pub CheckE15MeansDiskFailed : {A : Type 0} → ℤ → Result A StoreFault → Type 0
  CheckE15MeansDiskFailed place result = StoreHasCleanDisk g new → HoldsTables g old → HasNoStepLimit g old → (f : IndexedMessage) → filed_at (current_rows g old) place ≡ Some f
      → IfErr result (λ fault. fault ≡ faults.Store → DiskHasFailed g old new)

  -- How a check ends, whatever the tables hold and whatever it answers: that it asked an open store, that memory or the database is at
  -- fault where it fails, what its E15 means, where the tables are an archive's and no limit is set, and that want of memory is counted.
  pub record EndsCheck {A : Type 0} (result : Result A CheckError) : Type 0 where
    pub was_open : AnswersOnlyIfOpen g (store_connection old) (store_connection new) result
    pub fault_is_no_refusal : IfErr result (λ stop. (fault : StoreFault) → stop ≡ Failed fault → refusal_of_fault fault ≡ None)
    pub fault_has_cause : StoreHasCleanDisk g new → HoldsTables g old → HasNoStepLimit g old → IfErr result (λ stop. stop ≡ Failed faults.Store → DiskHasFailed g old new)
    pub refusals_counted : CountsRefusals (λ stop. stop ≡ Failed faults.Memory) old new result
