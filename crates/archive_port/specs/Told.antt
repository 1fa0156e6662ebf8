-- The words in which an archive's state is spoken of, whatever it lies in.
use Rattle.std.specs.Prelude.{IsTrue, ◌≡◌, ◌⊎◌, ◌<◌, ◌≤◌, ◌+◌, ◌-◌, ◌^◌, min, ℕ, ⊤, List, Option, None, Some, Result, IfErr, OnOk, MatchResult, MatchOption}
use Rattle.archive_model.specs.Records.{Archive}
use Rattle.archive_model.specs.Commands.{Command, CommandReply, Refusal}
use Rattle.archive_model.specs.Machine.{StepOutcome}
use Rattle.archive_model.specs.Sound.{IsIndexedCorrectly}
use Rattle.archive_port.specs.Replies.{refusal_of_fault, IsRefusedOnlyFor}
use Rattle.archive_port.specs.Wanting.{IsMemoryRefusal, RaisesRefusalCount}
use Rattle.archive_port.specs.declared.state.ArchiveState.{Ghosts}
use Rattle.archive_port.specs.declared.faults.StoreFault.{StoreFault}
use Rattle.archive_port.specs.declared.faults.StoreFault.TheVariants as faults

-- a count of failures rose, unless it is at the top of a `u64`
abbrev pub MoreFaults : ℕ → ℕ → Type 0
MoreFaults old new = min (old + 1) (2 ^ 64 - 1) ≤ new

module _ {S W : Type 0} (g : Ghosts S W) where
  -- the archive that it remembers
  abbrev pub archive_in : S → Archive
  archive_in store = g.archive store

  -- It is open, no change is under way, and what it holds is an archive, whatever is filed of a message.
  abbrev pub HoldsTables : S → Type 0
  HoldsTables store = g.is_at_rest store

  -- The premise of some calls: it is at rest, and what is filed of each message is what its text says.
  pub record IsReady (store : S) : Type 0 where
    pub is_archive_at_rest : g.is_at_rest store
    pub is_indexed_correctly : IsIndexedCorrectly (g.archive store)

  abbrev pub IsOpen : S → Type 0
  IsOpen store = IsTrue (g.is_open store)

  abbrev pub IsStoreClosed : S → Type 0
  IsStoreClosed store = ¬ IsOpen store

  -- its disk has returned what was written to it
  abbrev pub StoreHasCleanDisk : S → Type 0
  StoreHasCleanDisk store = g.has_clean_disk store

  -- how often its disk failed or refused
  abbrev pub faults_of : S → ℕ
  faults_of store = g.faults store

  -- how often memory was refused
  abbrev pub memory_refusal_count : S → ℕ
  memory_refusal_count store = g.refusals store

  -- no limit is set on the steps of a question
  abbrev pub HasNoStepLimit : S → Type 0
  HasNoStepLimit store = g.has_no_step_limit store

  -- What a call does to the count of refused memory, whatever it answers: it does not fall, and after a fault that is a want of memory it
  -- rose.
  abbrev pub CountsRefusals : {A F : Type 0} → (F → Type 0) → S → S → Result A F → Type 0
  CountsRefusals IsMemoryRefusal old new result = RaisesRefusalCount IsMemoryRefusal (g.refusals old) (g.refusals new) result

  module _ (old new : S) where
    -- in a call memory was refused once more
    abbrev pub MemoryWasRefused : Type 0
    MemoryWasRefused = g.refusals old < g.refusals new

    -- in a call its disk failed or refused once more
    abbrev pub DiskHasFailed : Type 0
    DiskHasFailed = MoreFaults (g.faults old) (g.faults new)

    -- what shuts it: nothing but a fault of its disk, and none is forgotten
    pub record ClosesOnlyByFault : Type 0 where
      pub faults_never_fall : g.faults old ≤ g.faults new
      pub stays_open : g.has_clean_disk new → IsTrue (g.is_open old) → IsTrue (g.is_open new) ⊎ DiskHasFailed

    -- What a call does, whatever is held and whatever it answers: only a fault of the disk shuts it, one that is shut stays shut, a
    -- disk that has returned what was written so far had done so before, and no limit is set.
    pub record StaysOpenUnlessDiskFails : Type 0 where
      pub disk_was_clean : g.has_clean_disk new → g.has_clean_disk old
      pub closes_only_by_fault : ClosesOnlyByFault
      pub closed_stays_closed : g.has_clean_disk new → IsTrue (g.is_open new) → IsTrue (g.is_open old)
      pub sets_no_limit : g.has_no_step_limit old → g.has_no_step_limit new

    -- a disk that has returned what was written so far had done so before
    abbrev pub HadCleanDisk : Type 0
    HadCleanDisk = g.has_clean_disk new → g.has_clean_disk old

    -- who was answered, or refused for a reason, asked one that was open
    abbrev pub WasOpen : {A F R : Type 0} → (F → Option R) → Result A F → Type 0
    WasOpen reason result = g.has_clean_disk new → MatchResult result (λ _. IsOpen old) (λ fault. MatchOption (reason fault) ⊤ (λ _. IsOpen old))

    -- it is at rest, and the archive is as it was
    abbrev pub ArchiveIsUnchanged : Type 0
    ArchiveIsUnchanged = g.is_at_rest new × (g.archive new ≡ g.archive old)

    -- the archive is as it was, if it was at rest
    pub record LeavesArchive : Type 0 where
      pub remains_open : StaysOpenUnlessDiskFails
      pub stays_at_rest : g.is_at_rest old → ArchiveIsUnchanged

    -- one refusal of memory more is counted, and the archive is as it was
    pub record CountsOneRefusal : Type 0 where
      pub refusals_are : g.refusals new ≡ g.refusals old + 1
      pub leaves_archive : LeavesArchive

    -- ---- what a call answers

    -- A question that is refused where this says so, and is else answered by a value of which this holds. It leaves the archive as it
    -- was; where memory or the disk was at fault, if it is still open.
    abbrev pub AnswersStoreQuestion : {A : Type 0} → Result A StoreFault → (Archive → Option Refusal) → (Archive → A → Type 0) → Type 0
    AnswersStoreQuestion result refuses Says = g.has_clean_disk new → g.is_at_rest old →
        MatchResult result
        (λ a. ArchiveIsUnchanged × (refuses (g.archive old) ≡ None) × Says (g.archive old) a)
        (λ fault. MatchOption (refusal_of_fault fault) (IsTrue (g.is_open new) → ArchiveIsUnchanged) (λ r. ArchiveIsUnchanged × (refuses (g.archive old) ≡ Some r)))

    -- Where there is an answer, the archive and the answer are what the machine says. Where memory or the disk was at fault, the archive
    -- is as it was, if it is still open.
    abbrev pub MatchesModelStep : (Archive → StepOutcome) → Option CommandReply → Type 0
    MatchesModelStep step None = IsTrue (g.is_open new) → ArchiveIsUnchanged
    MatchesModelStep step (Some reply) = g.is_at_rest new × ((g.archive new, reply) ≡ step (g.archive old))

    -- one step of the machine
    abbrev pub PerformsModelStep : (Archive → StepOutcome) → Option CommandReply → Type 0
    PerformsModelStep step reply = g.has_clean_disk new → g.is_at_rest old → MatchesModelStep step reply

    -- What E15 means, where it is at rest and no limit is set.
    abbrev pub E15MeansCause : Type 0 → {A : Type 0} → Result A StoreFault → Type 0
    E15MeansCause Cause result = g.has_clean_disk new → g.is_at_rest old → g.has_no_step_limit old → IfErr result (λ fault. fault ≡ faults.Store → Cause)

    -- of a question: the disk failed in that call
    abbrev pub E15MeansDiskFailed : {A : Type 0} → Result A StoreFault → Type 0
    E15MeansDiskFailed result = E15MeansCause DiskHasFailed result

    -- the same, or this is so of the archive, which holds what no command writes
    abbrev pub E15MeansDiskFailedOr : {A : Type 0} → Result A StoreFault → (Archive → Type 0) → Type 0
    E15MeansDiskFailedOr result Unread = E15MeansCause (DiskHasFailed ⊎ Unread (archive_in old)) result

    -- ---- how a call ends, whatever is held and whatever it answers

    -- A command or a question: what it does to the state, that who was answered asked one that was open, for which reasons it may be
    -- refused, that want of memory is counted, and what its E15 means, where it is at rest and no limit is set.
    pub record EndsWithCause (Cause : Type 0) {A : Type 0} (result : Result A StoreFault) (reasons : List Refusal) : Type 0 where
      pub remains_open : StaysOpenUnlessDiskFails
      pub was_open : g.has_clean_disk new → OnOk result (IsOpen old)
      pub refusal_is_possible : IsRefusedOnlyFor result reasons
      pub refusals_counted : CountsRefusals IsMemoryRefusal old new result
      pub fault_has_cause : E15MeansCause Cause result

    -- a question whose E15 means that the disk failed in that call
    abbrev pub EndsQuestion : {A : Type 0} → Result A StoreFault → List Refusal → Type 0
    EndsQuestion result reasons = EndsWithCause DiskHasFailed result reasons

    -- the same, or this is so of the archive, which holds what no command writes
    abbrev pub EndsQuestionOrUnreadable : {A : Type 0} → Result A StoreFault → List Refusal → (Archive → Type 0) → Type 0
    EndsQuestionOrUnreadable result reasons Unread = EndsWithCause (DiskHasFailed ⊎ Unread (archive_in old)) result reasons

    -- A command whose E15 means that the disk failed in that call, or that what was held refuses what the command writes.
    abbrev pub EndsWrite : {A : Type 0} → Result A StoreFault → List Refusal → Command → Type 0
    EndsWrite result reasons command = EndsWithCause (DiskHasFailed ⊎ g.refuses old command) result reasons

    -- A call that carries out as much as it can. Its E15 means that the disk failed in that call, or this of what is held then: that it
    -- refuses what the call writes next.
    abbrev pub EndsPartialWrite : {A : Type 0} → Result A StoreFault → List Refusal → (S → Type 0) → Type 0
    EndsPartialWrite result reasons Refused = EndsWithCause (DiskHasFailed ⊎ Refused new) result reasons

    -- A call that no reason of the archive's refuses, and that may answer without a look at what is held: memory or the disk is at fault
    -- where it fails.
    pub record EndsUnrefused {A : Type 0} (result : Result A StoreFault) : Type 0 where
      pub remains_open : StaysOpenUnlessDiskFails
      pub fault_is_no_refusal : IfErr result (λ fault. refusal_of_fault fault ≡ None)
      pub refusals_counted : CountsRefusals IsMemoryRefusal old new result

  -- ---- under a premise: `HoldsTables` or `IsReady`

  module _ (Premise : S → Type 0) (old new : S) where
    -- it lasts, and where the premise held of it it holds, and this of what it remembered and of what it remembers
    abbrev pub RelatesArchivesUnder : (Archive → Archive → Type 0) → Type 0
    RelatesArchivesUnder R = StaysOpenUnlessDiskFails old new × (StoreHasCleanDisk new → Premise old → Premise new × R (archive_in old) (archive_in new))

    -- the same, if it is still open
    abbrev pub RelatesArchivesUnderIfOpen : (Archive → Archive → Type 0) → Type 0
    RelatesArchivesUnderIfOpen R = StaysOpenUnlessDiskFails old new × (StoreHasCleanDisk new → Premise old → IsOpen new → Premise new × R (archive_in old) (archive_in new))

    -- A call, of whoever holds the archive or of a layer above, whose faults have a reason, or none where memory or the disk was at
    -- fault. `Says` holds of the archives before and after and of an answer, `Refuses` of a reason, and `Stops` of a fault
    -- that has none, if it is still open.
    abbrev pub CallsStoreUnder : {A F R : Type 0} → (F → Option R) → Result A F → (Archive → Archive → A → Type 0) → (Archive → Archive → R → Type 0)
        → (Archive → Archive → F → Type 0) → Type 0
    CallsStoreUnder reason result Says Refuses Stops = MatchResult result
        (λ answer. RelatesArchivesUnder (λ a b. Says a b answer))
        (λ fault. MatchOption (reason fault) (RelatesArchivesUnderIfOpen (λ a b. Stops a b fault)) (λ why. RelatesArchivesUnder (λ a b. Refuses a b why)))

    -- a question: it changes nothing, is refused where `refuses` says so, and is else answered by a value of which this holds
    abbrev pub AnswersFromStoreUnder : {A F R : Type 0} → (F → Option R) → Result A F → (Archive → Option R) → (Archive → A → Type 0) → Type 0
    AnswersFromStoreUnder reason result refuses Says = CallsStoreUnder reason result
        (λ a b answer. (b ≡ a) × (refuses a ≡ None) × Says a answer) (λ a b why. (b ≡ a) × (refuses a ≡ Some why)) (λ a b _. b ≡ a)

  -- ---- of one that is ready

  module _ (old new : S) where
    -- It lasts, and where it was ready it is ready, and this holds of the archives that it remembered and remembers.
    abbrev pub RelatesReadyArchives : (Archive → Archive → Type 0) → Type 0
    RelatesReadyArchives R = RelatesArchivesUnder IsReady old new R

    -- the same, if it is still open
    abbrev pub RelatesReadyArchivesIfOpen : (Archive → Archive → Type 0) → Type 0
    RelatesReadyArchivesIfOpen R = RelatesArchivesUnderIfOpen IsReady old new R

    -- a call to one that is ready: what its answers, its refusals and its faults say of the two archives
    abbrev pub CallsReadyStore : {A F R : Type 0} → (F → Option R) → Result A F → (Archive → Archive → A → Type 0) → (Archive → Archive → R → Type 0)
        → (Archive → Archive → F → Type 0) → Type 0
    CallsReadyStore reason result Says Refuses Stops = CallsStoreUnder IsReady old new reason result Says Refuses Stops

    -- a question to one that is ready, which leaves the archive
    abbrev pub AnswersFromReadyStore : {A F R : Type 0} → (F → Option R) → Result A F → (Archive → Option R) → (Archive → A → Type 0) → Type 0
    AnswersFromReadyStore reason result refuses Says = AnswersFromStoreUnder IsReady old new reason result refuses Says
