-- Walks over the messages of a list, one message at a time.
use Rattle.std.specs.Prelude.{◌≡◌, ◌⊎◌, ◌+◌, ◌≤◌, ◌<◌, ℕ, true, bytes_eq, List, [], ◌∷◌, ◌++◌, pos, Option}
use Rattle.std.specs.Prelude.{Some, None, Result, IfOk, IfErr, IfSome, MatchResult, MatchOption}
use Rattle.std.specs.List.{AllByRecursion}
use Rattle.archive_model.specs.Records.{Message as Remembered, Archive}
use Rattle.archive_model.specs.Questions.{list_refusal, messages_in}
use Rattle.archive_model.specs.Filing.{messages_in_month, messages_by_author}
use Rattle.archive_model.specs.Messages.{archived_message}
use Rattle.archive_model.specs.declared.messages.Message.{Message}
use Rattle.archive_port.specs.Messages.{IsReadable, AreDatedMarksOf}
use Rattle.archive_port.specs.Replies.{refusal_of_fault}
use Rattle.archive_port.specs.Wanting.{IsMemoryRefusal}
use Rattle.archive_port.specs.Told.{HoldsTables, IsOpen, StoreHasCleanDisk, HasNoStepLimit, DiskHasFailed}
use Rattle.archive_port.specs.Told.{StaysOpenUnlessDiskFails, E15MeansDiskFailed, CountsRefusals, archive_in, RelatesArchivesUnder, RelatesArchivesUnderIfOpen}
use Rattle.archive_port.specs.declared.state.ArchiveState.{Ghosts}
use Rattle.archive_port.specs.declared.faults.StoreFault.{StoreFault}
use Rattle.archive_port.specs.declared.faults.StoreFault.TheVariants as faults
use Rattle.archive_port.specs.declared.marks.DatedMarks.{DatedMarks}
use Rattle.archive_port.specs.declared.walking.Selection.{Selection}
use Rattle.archive_port.specs.declared.walking.Selection.TheVariants.{Every, InMonth, ByAuthor}

-- a walk, and the state that it is told
pub record Walk (S W : Type 0) : Type 0 where
  pub store : S
  pub walk : W

abbrev pub walk_over_store : {S W : Type 0} → S → W → Walk S W
walk_over_store store walk = record { store = store; walk = walk }

-- these of a list's messages: all in mailbox order, or those that are filed under a month or an author key
abbrev pub selected_messages : Archive → List ℕ → Selection → List Remembered
selected_messages a list Every = messages_in a list
selected_messages a list (InMonth month) = messages_in_month a list (pos month)
selected_messages a list (ByAuthor key) = messages_by_author a list key.now

module _ {S W : Type 0} (g : Ghosts S W) where
  -- how many messages a walk has not given yet
  abbrev pub remaining_count : W → ℕ
  remaining_count walk = g.remaining_count walk

  -- A walk over these messages of a list of this archive that gave some of them: the archive is held, whatever is filed in it, and the
  -- given messages and those that the walk gives next are all.
  pub record WalksOver (list : List ℕ) (all : List Remembered) (a : Archive) (given : List Remembered) (w : Walk S W) : Type 0 where
    pub is_archive_at_rest : g.is_at_rest w.store
    pub archive_is : g.archive w.store ≡ a
    pub remaining : List Remembered
    pub gives_remaining : g.gives w.store w.walk list remaining
    pub given_and_remaining : given ++ remaining ≡ all
    pub all_are_of_list : AllByRecursion (λ (m : Remembered). bytes_eq m.list list ≡ true) all

  -- A walk over these of a list's messages begins: what that did to the state, that it was open, that no want of memory is forgotten, and
  -- where an archive was held, the list is there and the walk gave nothing yet.
  pub record BeginsOver (old : S) (list : List ℕ) (which : Archive → List Remembered) (walk : Walk S W) : Type 0 where
    pub remains_open : StaysOpenUnlessDiskFails g old walk.store
    pub was_open : StoreHasCleanDisk g walk.store → IsOpen g old
    pub refusal_count_grows : g.refusals old ≤ g.refusals walk.store
    pub begins_over_archive : StoreHasCleanDisk g walk.store → HoldsTables g old
        → (list_refusal (archive_in g old) list ≡ None) × WalksOver list (which (archive_in g old)) (archive_in g old) [] walk

  -- what does not begin leaves the archive, and is refused where there is no such list
  abbrev pub IsWalkNotBegun : {A : Type 0} → S → List ℕ → Result A StoreFault → S → Type 0
  IsWalkNotBegun old list result last = IfErr result (λ fault. MatchOption (refusal_of_fault fault)
      (RelatesArchivesUnderIfOpen g (HoldsTables g) old last (λ a b. b ≡ a)) (λ why. RelatesArchivesUnder g (HoldsTables g) old last (λ a b. (b ≡ a) × (list_refusal a list ≡ Some why))))

  -- The walk is where it was, and this is of the message that is next, or all were given. After a fault it is where it was, if it is still
  -- open.
  abbrev pub ShowsNext : {X : Type 0} → (IsOf : (list : List ℕ) → X → Remembered → Type 0) → Walk S W → Walk S W → Result (Option X) StoreFault → Type 0
  ShowsNext IsOf old new result = StoreHasCleanDisk g new.store → (list : List ℕ) (all : List Remembered) (a : Archive) (given : List Remembered)
      → WalksOver list all a given old → MatchResult result
      (λ found. WalksOver list all a given new × MatchOption found (given ≡ all)
      (λ x. (next : Remembered) × (rest : List Remembered) × (given ++ next ∷ rest ≡ all) × IsOf list x next))
      (λ _. IsOpen g new.store → WalksOver list all a given new)

  -- One message more is given, or all were given. After a fault the walk is where it was, if it is still open.
  abbrev pub GivesNext : Walk S W → Walk S W → Result (Option Message) StoreFault → Type 0
  GivesNext old new result = StoreHasCleanDisk g new.store → (list : List ℕ) (all : List Remembered) (a : Archive) (given : List Remembered)
      → WalksOver list all a given old → MatchResult result
      (λ found. MatchOption found (WalksOver list all a given new × (given ≡ all)) (λ m. WalksOver list all a (given ++ archived_message list m ∷ []) new))
      (λ _. IsOpen g new.store → WalksOver list all a given new)

  -- One message fewer is left, unless all were given; after a fault as many are left as before.
  abbrev pub LeavesOneFewer : {A : Type 0} → W → W → Result (Option A) StoreFault → Type 0
  LeavesOneFewer old new result = MatchResult result
      (λ found. MatchOption found ((remaining_count old ≡ 0) × (remaining_count new ≡ 0)) (λ _. remaining_count old ≡ remaining_count new + 1))
      (λ _. remaining_count new ≡ remaining_count old)

  -- The arrival and the marks of the next message are shown.
  pub record PeeksNextMarks (old new : Walk S W) (result : Result (Option DatedMarks) StoreFault) : Type 0 where
    pub gives_next_marks : ShowsNext (λ list marks next. AreDatedMarksOf marks next) old new result
    pub remaining_is_same : remaining_count new.walk ≡ remaining_count old.walk
    pub some_means_remaining : IfOk result (λ found. IfSome found (λ _. 0 < remaining_count old.walk))
    pub fault_is_no_refusal : IfErr result (λ fault. refusal_of_fault fault ≡ None)

  -- The next message is passed by as if it were given, whatever state the walk is told.
  abbrev pub PassesNext : W → W → Type 0
  PassesNext old new = (store : S) (list : List ℕ) (all : List Remembered) (a : Archive) (given rest : List Remembered) (next : Remembered)
      → WalksOver list all a given (walk_over_store store old) → given ++ next ∷ rest ≡ all → WalksOver list all a (given ++ next ∷ []) (walk_over_store store new)

  -- ---- what E15 of a walk means, where no limit is set

  -- it does not begin, and the disk failed; or memory was refused, and that was counted
  abbrev pub WalkFailsToBegin : {A : Type 0} → S → List ℕ → Result A StoreFault → S → Type 0
  WalkFailsToBegin old list result last = IsWalkNotBegun old list result last × E15MeansDiskFailed g old last result × CountsRefusals g IsMemoryRefusal old last result

  -- the disk failed, or the next message cannot be read
  abbrev pub E15MeansNextUnreadable : {A : Type 0} → Walk S W → Walk S W → Result A StoreFault → Type 0
  E15MeansNextUnreadable old new result = StoreHasCleanDisk g new.store → (list : List ℕ) (all : List Remembered) (a : Archive) (given : List Remembered)
      → WalksOver list all a given old → HasNoStepLimit g old.store
      → IfErr result (λ fault. fault ≡ faults.Store → DiskHasFailed g old.store new.store
      ⊎ ((next : Remembered) × (rest : List Remembered) × (given ++ next ∷ rest ≡ all) × (¬ IsReadable next)))
