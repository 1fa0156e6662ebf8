-- Walks over the messages of a list, one message at a time.
use Rattle.std.specs.Prelude.{◌≡◌, ◌⊎◌, ◌-◌, ◌≤◌, ℕ, ℤ, true, bytes_eq, List, [], ◌∷◌, ◌++◌, length, drop, map, pos, Option}
use Rattle.std.specs.Prelude.{Some, None, Result, IfOk, IfErr, MatchResult, MatchOption, Vec, ◌<◌, IfSome}
use Rattle.std.specs.declared.alloc.Global.{Global}
use Rattle.std.specs.List.{All, AllByRecursion}
use Rattle.std.specs.Option.{IsSomeAnd}
use Rattle.sqlite.specs.Effect.{Database}
use Rattle.sqlite.specs.Tree.{Trees}
use Rattle.sqlite.specs.Store.{Ghosts}
use Rattle.sqlite.specs.Held.{Held, state}
use Rattle.archive_model.specs.Records.{Message as Remembered, Archive}
use Rattle.archive_model.specs.Questions.{list_refusal, messages_in}
use Rattle.archive_model.specs.Messages.{archived_message}
use Rattle.archive_model.specs.declared.messages.Message.{Message}
use Rattle.archive_tables.specs.Rows.{message_at, message_from_result_row, message_rowids_in, month_rowids, author_rowids}
use Rattle.archive_tables.specs.declared.rows.MessageRow.{MessageRow}
use Rattle.archive_tables.specs.Tables.{IsArchiveAtRest, archive_of}
use Rattle.archive_port.specs.Messages.{IsReadable, AreDatedMarksOf}
use Rattle.archive_store.specs.Held.{store_connection, memory_refusal_count}
use Rattle.archive_port.specs.declared.marks.DatedMarks.{DatedMarks}
use Rattle.archive_port.specs.Replies.{refusal_of_fault}
use Rattle.archive_port.specs.Wanting.{IsMemoryRefusal}
use Rattle.archive_store.specs.Told.{HoldsTables, IsOpen, StoreHasCleanDisk, HasNoStepLimit, DiskHasFailed}
use Rattle.archive_store.specs.Told.{StaysOpenUnlessDiskFails, E15MeansDiskFailed, CountsRefusals, archive_in, RelatesArchivesUnder, RelatesArchivesUnderIfOpen}
use Rattle.archive_store.specs.declared.store.Store.{Store}
use Rattle.archive_port.specs.declared.faults.StoreFault.{StoreFault}
use Rattle.archive_port.specs.declared.faults.StoreFault.TheVariants as faults
use Rattle.archive_store.specs.declared.walking.MessageWalk.{MessageWalk}
use Rattle.archive_port.specs.declared.walking.Selection.{Selection}
use Rattle.archive_port.specs.declared.walking.Selection.TheVariants.{Every, InMonth, ByAuthor}

-- a walk, and the store that it is told
pub record Walk (S : Type 0) : Type 0 where
  pub store : Store S
  pub walk : MessageWalk

abbrev pub walk_over_store : {S : Type 0} → Store S → MessageWalk → Walk S
walk_over_store store walk = record { store = store; walk = walk }

-- the numbers of these of a list's messages
abbrev pub selected_numbers : Trees → List ℕ → Selection → List ℤ
selected_numbers trees list Every = message_rowids_in trees list
selected_numbers trees list (InMonth month) = month_rowids trees list (pos month)
selected_numbers trees list (ByAuthor key) = author_rowids trees list key.now

-- the numbers of the messages that it has not given yet
abbrev pub remaining_numbers : MessageWalk → List ℤ
remaining_numbers walk = drop walk.at walk.places.items

-- how many these are
abbrev pub remaining_count : MessageWalk → ℕ
remaining_count walk = length walk.places.items - walk.at

-- a row is that of the first of these messages
abbrev pub IsRowOfFirst : (list : List ℕ) → MessageRow → List Remembered → Type 0
IsRowOfFirst list row [] = ⊥
IsRowOfFirst list row (m ∷ messages) = message_from_result_row list row ≡ m

-- The next message is given or passed by, and no row is held.
abbrev pub PassesNext : MessageWalk → MessageWalk → Type 0
PassesNext old new = (remaining_numbers new ≡ drop 1 (remaining_numbers old)) × (new.peeked ≡ None)

-- The walk is where it was, and holds no row. A row is taken if messages are left.
abbrev pub TakesRowIfLeft : MessageWalk → MessageWalk → Result (Option MessageRow) StoreFault → Type 0
TakesRowIfLeft old new result = (new ≡ record old { peeked = None }) × IfOk result (λ found. MatchOption found (remaining_count old ≡ 0) (λ _. 0 < remaining_count old))

module _ {S : Type 0} (g : Ghosts S) where
  -- what a store's database holds now, and its rows
  abbrev pub current_database : Store S → Database
  current_database store = (state g (store_connection store)).now

  abbrev pub current_rows : Store S → Trees
  current_rows store = (current_database store).trees

  -- A walk over these messages of a list of this archive that gave some of them: the store holds the archive's tables, whatever is
  -- filed in them, and the given messages and those that are left are all. It holds the numbers of those that are left, and perhaps the row
  -- of the first of them.
  pub record WalksOn (list : List ℕ) (all : List Remembered) (a : Archive) (given : List Remembered) (connection : Held S) (places : List ℤ)
      (peeked : Option MessageRow) : Type 0 where
    pub is_archive_at_rest : IsArchiveAtRest (state g connection)
    pub archive_is : archive_of (state g connection) ≡ a
    pub remaining : List Remembered
    pub numbers_give_remaining : map (message_at (state g connection).now.trees) places ≡ map Some remaining
    pub given_and_remaining : given ++ remaining ≡ all
    pub all_are_of_list : AllByRecursion (λ (m : Remembered). bytes_eq m.list list ≡ true) all
    pub peeked_is_of_next : IfSome peeked (λ row. IsRowOfFirst list row remaining)

  abbrev pub WalksOver : (list : List ℕ) (all : List Remembered) (a : Archive) (given : List Remembered) (walk : Walk S) → Type 0
  WalksOver list all a given w = WalksOn list all a given (store_connection w.store) (remaining_numbers w.walk) w.walk.peeked

  -- A walk over these of a list's messages begins: what that did to the store, that its connection was open, that no want of memory is
  -- forgotten, and where it held an archive's tables, the list is there and the walk gave nothing yet.
  pub record BeginsOver (old : Store S) (list : List ℕ) (which : Archive → List Remembered) (walk : Walk S) : Type 0 where
    pub remains_open : StaysOpenUnlessDiskFails g old walk.store
    pub was_open : StoreHasCleanDisk g walk.store → IsOpen g old
    pub refusal_count_grows : memory_refusal_count old ≤ memory_refusal_count walk.store
    pub begins_over_archive : StoreHasCleanDisk g walk.store → HoldsTables g old
        → (list_refusal (archive_in g old) list ≡ None) × WalksOver list (which (archive_in g old)) (archive_in g old) [] walk

  -- a walk over all messages of a list begins
  abbrev pub BeginsListWalk : Store S → List ℕ → Walk S → Type 0
  BeginsListWalk old list walk = BeginsOver old list (λ a. messages_in a list) walk

  -- what does not begin leaves the archive, and is refused where there is no such list
  abbrev pub IsWalkNotBegun : {A : Type 0} → Store S → List ℕ → Result A StoreFault → Store S → Type 0
  IsWalkNotBegun old list result last = IfErr result (λ fault. MatchOption (refusal_of_fault fault)
      (RelatesArchivesUnderIfOpen g (HoldsTables g) old last (λ a b. b ≡ a)) (λ why. RelatesArchivesUnder g (HoldsTables g) old last (λ a b. (b ≡ a) × (list_refusal a list ≡ Some why))))

  -- the numbers of these of the list's messages, where the store held an archive's tables
  abbrev pub FindsMessageNumbers : Store S → Store S → List ℕ → (Trees → List ℤ) → Result (Vec ℤ Global) StoreFault → Type 0
  FindsMessageNumbers old new list which result = StoreHasCleanDisk g new → HoldsTables g old → IfOk result (λ places.
      (list_refusal (archive_in g old) list ≡ None) × HoldsTables g new × (archive_in g new ≡ archive_in g old) × (places.items ≡ which (current_rows new)))

  -- The row of the message of a number, where the store held an archive's tables. It leaves the rows; after a fault so, if the connection is
  -- still open.
  abbrev pub ShowsRow : Store S → Store S → ℤ → Result MessageRow StoreFault → Type 0
  ShowsRow old new place result = StoreHasCleanDisk g new → HoldsTables g old → MatchResult result
      (λ row. ((it : Remembered) × (message_at (current_rows old) place ≡ Some it) × (message_from_result_row it.list row ≡ it)) × (current_database new ≡ current_database old) × HoldsTables g new)
      (λ _. IsOpen g new → (current_database new ≡ current_database old) × HoldsTables g new)

  -- The walk is where it was, and this is of the message that is next, or all were given. After a fault it is where it was, if the connection
  -- is still open.
  abbrev pub ShowsNext : {X : Type 0} → (IsOf : (list : List ℕ) → X → Remembered → Type 0) → Walk S → Walk S → Result (Option X) StoreFault → Type 0
  ShowsNext IsOf old new result = StoreHasCleanDisk g new.store → (list : List ℕ) (all : List Remembered) (a : Archive) (given : List Remembered)
      → WalksOver list all a given old → MatchResult result
      (λ found. WalksOver list all a given new × MatchOption found (given ≡ all)
      (λ x. (next : Remembered) × (rest : List Remembered) × (given ++ next ∷ rest ≡ all) × IsOf list x next))
      (λ _. IsOpen g new.store → WalksOver list all a given new)

  -- the row of the next message is taken
  abbrev pub TakesNextRow : Walk S → Walk S → Result (Option MessageRow) StoreFault → Type 0
  TakesNextRow = ShowsNext (λ list row next. message_from_result_row list row ≡ next)

  -- One message more is given, or all were given. After a fault the walk is where it was, if the connection is still open.
  abbrev pub GivesNext : Walk S → Walk S → Result (Option Message) StoreFault → Type 0
  GivesNext old new result = StoreHasCleanDisk g new.store → (list : List ℕ) (all : List Remembered) (a : Archive) (given : List Remembered)
      → WalksOver list all a given old → MatchResult result
      (λ found. MatchOption found (WalksOver list all a given new × (given ≡ all)) (λ m. WalksOver list all a (given ++ archived_message list m ∷ []) new))
      (λ _. IsOpen g new.store → WalksOver list all a given new)

  -- The arrival and the marks of the next message are shown.
  pub record PeeksNextMarks (old new : Walk S) (result : Result (Option DatedMarks) StoreFault) : Type 0 where
    pub gives_next_marks : ShowsNext (λ list marks next. AreDatedMarksOf marks next) old new result
    pub remaining_is_same : remaining_count new.walk ≡ remaining_count old.walk
    pub some_means_remaining : IfOk result (λ found. IfSome found (λ _. 0 < remaining_count old.walk))
    pub fault_is_no_refusal : IfErr result (λ fault. refusal_of_fault fault ≡ None)

  -- All messages that were left are given. A fault leaves the archive, if the connection is still open.
  abbrev pub GivesAll : Walk S → Walk S → Result (Vec Message Global) StoreFault → Type 0
  GivesAll old new result = StoreHasCleanDisk g new.store → (list : List ℕ) (all : List Remembered) (a : Archive) (given : List Remembered)
      → WalksOver list all a given old → MatchResult result
      (λ found. WalksOver list all a (given ++ map (archived_message list) found.items) new × (given ++ map (archived_message list) found.items ≡ all))
      (λ _. IsOpen g new.store → HoldsTables g new.store × (archive_in g new.store ≡ a))

  -- ---- what E15 of a walk means, where no limit is set

  -- it does not begin, and the disk failed; or memory was refused, and that was counted
  abbrev pub WalkFailsToBegin : {A : Type 0} → Store S → List ℕ → Result A StoreFault → Store S → Type 0
  WalkFailsToBegin old list result last = IsWalkNotBegun old list result last × E15MeansDiskFailed g old last result × CountsRefusals IsMemoryRefusal old last result

  -- the disk failed, or no message of the number can be read
  abbrev pub E15MeansMessageUnreadable : {A : Type 0} → Store S → Store S → ℤ → Result A StoreFault → Type 0
  E15MeansMessageUnreadable old new place result = StoreHasCleanDisk g new → HoldsTables g old → HasNoStepLimit g old
      → IfErr result (λ fault. fault ≡ faults.Store → DiskHasFailed g old new ⊎ (¬ IsSomeAnd (message_at (current_rows old) place) IsReadable))

  -- the disk failed, or the next message cannot be read
  abbrev pub E15MeansNextUnreadable : {A : Type 0} → Walk S → Walk S → Result A StoreFault → Type 0
  E15MeansNextUnreadable old new result = StoreHasCleanDisk g new.store → (list : List ℕ) (all : List Remembered) (a : Archive) (given : List Remembered)
      → WalksOver list all a given old → HasNoStepLimit g old.store
      → IfErr result (λ fault. fault ≡ faults.Store → DiskHasFailed g old.store new.store
      ⊎ ((next : Remembered) × (rest : List Remembered) × (given ++ next ∷ rest ≡ all) × (¬ IsReadable next)))

  -- the disk failed, or one of the messages cannot be read
  abbrev pub E15MeansSomeUnreadable : {A : Type 0} → Walk S → Walk S → Result A StoreFault → Type 0
  E15MeansSomeUnreadable old new result = StoreHasCleanDisk g new.store → (list : List ℕ) (all : List Remembered) (a : Archive) (given : List Remembered)
      → WalksOver list all a given old → HasNoStepLimit g old.store
      → IfErr result (λ fault. fault ≡ faults.Store → DiskHasFailed g old.store new.store ⊎ (¬ All IsReadable all))
