-- What a stop of the machine leaves of a store into which a file is taken: so many first messages of the file.
use Rattle.std.specs.Prelude.{◌≡◌, ◌⊎◌, ℕ, List, Result, MatchResult}
use Rattle.archive_port.specs.declared.state.ArchiveState.{Ghosts}
use Rattle.mbox_core.specs.Division.{Item, DividesIntoItems}
use Rattle.archive_model.specs.Records.{Archive}
use Rattle.archive_port.specs.Crashes.{CrashLeavesArchiveWhere, IsCrashSafe}
use Rattle.archive_port.specs.Adding.{HasAddedAtLeast}
use Rattle.archive_port.specs.Told.{StoreHasCleanDisk, HoldsTables, archive_in}

-- Nothing was added, and `done` is none, as where the file is no mbox; or so many first messages of the file, at least `done`.
abbrev pub HasImportedAtLeast : List ℕ → List ℕ → ℕ → Archive → Archive → Type 0
HasImportedAtLeast list text done a b = ((done ≡ 0) × (b ≡ a)) ⊎ ((items : List Item) × DividesIntoItems text items × HasAddedAtLeast list items done a b)

module _ {S W : Type 0} (g : Ghosts S W) where
  -- a stop of the machine leaves what the store remembers, and nothing else
  abbrev pub IsCrashSafeStore : S → Type 0
  IsCrashSafeStore store = IsCrashSafe g store

  -- A call that has returned, and a stop of the machine behind it, where before it a stop left what was remembered, and nothing else.
  -- Behind a call that was answered it is so again; and else an open finds an archive of which this holds, by the one before the call.
  abbrev pub CrashAfterCallUnder : (S → Type 0) → S → S → {A F : Type 0} → Result A F → (Archive → F → Archive → Type 0) → Type 0
  CrashAfterCallUnder Premise old new result Leaves = StoreHasCleanDisk g new → Premise old → IsCrashSafeStore old
      → MatchResult result (λ _. IsCrashSafeStore new) (λ fault. CrashLeavesArchiveWhere g new (Leaves (archive_in g old) fault))

  -- a call to a store whose tables are an archive's, whatever is filed of a message
  abbrev pub CrashAfterTablesCall : S → S → {A F : Type 0} → Result A F → (Archive → F → Archive → Type 0) → Type 0
  CrashAfterTablesCall old new result Leaves = CrashAfterCallUnder (HoldsTables g) old new result Leaves
