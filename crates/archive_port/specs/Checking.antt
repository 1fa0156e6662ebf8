-- Whether an archive is whole: what is told of it.
use Rattle.std.specs.Prelude.{◌≡◌, ℕ, List, Option, None, Some, Result, IfErr, OnOk}
use Rattle.archive_model.specs.Damage.{HasNoDamagedMessage, IsFirstDamaged}
use Rattle.archive_model.specs.Records.{Archive}
use Rattle.archive_model.specs.Sound.{IsIndexedCorrectly, HasSoundMessages}
use Rattle.archive_port.specs.Replies.{refusal_of_fault}
use Rattle.archive_port.specs.Told.{CallsStoreUnder, CountsRefusals, DiskHasFailed, HasNoStepLimit, HoldsTables, IsOpen, StoreHasCleanDisk}
use Rattle.archive_port.specs.declared.state.ArchiveState.{Ghosts}
use Rattle.archive_port.specs.declared.faults.StoreFault.{StoreFault}
use Rattle.archive_port.specs.declared.faults.StoreFault.TheVariants as faults
use Rattle.archive_port.specs.declared.checking.CheckError.{CheckError}
use Rattle.archive_port.specs.declared.checking.CheckError.TheVariants.{Damaged, Failed}

-- the list and the key of a message that is not sound; none where memory or the database was at fault
abbrev pub damaged_list_and_key : CheckError → Option (List ℕ × List ℕ)
damaged_list_and_key (Damaged list key) = Some (list.items, key.items)
damaged_list_and_key (Failed fault) = None

-- What Ok says of an archive: every message is undamaged. So each can be written to an mbox as it is, under the key of its text, and
-- what is filed of each is what its text says: a store that holds these tables is ready.
pub record PassesCheck (archive : Archive) : Type 0 where
  pub has_no_damage : HasNoDamagedMessage archive
  pub messages_are_sound : HasSoundMessages archive
  pub is_indexed_correctly : IsIndexedCorrectly archive

module _ {S W : Type 0} (g : Ghosts S W) (old new : S) where
  -- It changes nothing. Ok where all messages are sound; else the list and the key of the first that is not, lists by name and then
  -- in mailbox order.
  abbrev pub ChecksArchive : Result (Unit {0}) CheckError → Type 0
  ChecksArchive result = CallsStoreUnder g (HoldsTables g) old new damaged_list_and_key result
      (λ a b _. (b ≡ a) × PassesCheck a) (λ a b d. (b ≡ a) × IsFirstDamaged a d.0 d.1) (λ a b _. b ≡ a)

  -- How a check ends, whatever is held and whatever it answers: that it asked one that was open, that memory or the disk is at fault
  -- where it fails, what its E15 means, where it is at rest and no limit is set, and that want of memory is counted.
  pub record EndsCheck {A : Type 0} (result : Result A CheckError) : Type 0 where
    pub was_open : StoreHasCleanDisk g new → OnOk result (IsOpen g old)
    pub fault_is_no_refusal : IfErr result (λ stop. (fault : StoreFault) → stop ≡ Failed fault → refusal_of_fault fault ≡ None)
    pub fault_has_cause : StoreHasCleanDisk g new → HoldsTables g old → HasNoStepLimit g old → IfErr result (λ stop. stop ≡ Failed faults.Store → DiskHasFailed g old new)
    pub refusals_counted : CountsRefusals g (λ stop. stop ≡ Failed faults.Memory) old new result
