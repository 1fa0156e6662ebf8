-- What a system's device of a database does where it is opened: for the first time, or again.
use Rattle.std.specs.Prelude.{◌≡◌, ℕ, Bool, List, Option, None, Result, IsTrue, MatchOption, MatchResult}
use Rattle.sqlite_disk.specs.declared.Disk.{Ghosts}
use Rattle.sqlite_disk.specs.declared.Files.{Files}
use Rattle.sqlite_std_file.specs.declared.pair.OpenError.{OpenError}
use Rattle.sqlite_wal.specs.Recovery.{Image}
use Rattle.sqlite_store.specs.declared.store.FileStore.{FileStore}
use Rattle.archive_store.specs.declared.store.Store.{Store}
use Rattle.archive_port.specs.declared.faults.StoreFault.{StoreFault}
use Rattle.archive_files.specs.Leaving.{AreFilesLeft, MayBeNamed}
use Rattle.archive_files.specs.Opening.{IsOpenedFromFiles, IsOpenedFromImage}
use Rattle.archive_files.specs.Refusing.{is_known_as, FailsToOpenStore, FailsToReopenDatabase}
use Rattle.archive_files.specs.declared.databases.FilesLeft.{FilesLeft}

-- Files that were left were opened again by the name that they are known by, and the store comes of a connection that found what they held.
-- None is left while it is open.
pub record ReopensDatabase {D : Type 0} {g : Ghosts D} (known : Option (List ℕ)) (name : List ℕ) (before after : Option (FilesLeft D g)) (store : Store (FileStore D g)) : Type 0 where
  pub is_known : IsTrue (is_known_as known name)
  pub files : Files D
  pub were_left : AreFilesLeft before files
  pub is_opened_from_files : IsOpenedFromFiles files store
  pub none_is_left : after ≡ None

module _ {A R D : Type 0} (g : Ghosts D) (seeds : R → Bool → Type 0) (opens : R → List ℕ → Option OpenError → Type 0) (system : R) (name : List ℕ) (image : Image)
    (start : Option A) (known_before known_after : Option (List ℕ)) (before after : Option (FilesLeft D g)) (result : Result (Store (FileStore D g)) StoreFault) where
  -- The first opening: the system opened the files of this name, and the store comes of a connection that found what they held. Or it is
  -- said why there is none, and what is left of the files. Of the name nothing else is known then.
  pub record OpensFirst : Type 0 where
    pub may_be_named : MayBeNamed known_after name
    pub opens_or_fails : MatchResult result (λ store. IsOpenedFromImage image store × opens system name None)
        (λ fault. MatchOption after ⊥ (λ left. FailsToOpenStore g seeds opens system name image left fault))

  -- Each later opening: files that were left are opened again, and the store comes of a connection that found what they held. Or it is said
  -- why there is none, and what is left of them.
  pub record OpensAgain : Type 0 where
    pub known_is : known_after ≡ known_before
    pub reopens_or_fails : MatchResult result (λ store. ReopensDatabase known_before name before after store)
        (λ fault. FailsToReopenDatabase seeds system known_before name before after fault)

  -- A device that has not opened its file opens it; else it opens again what an earlier opening or a close left.
  abbrev pub OpensDatabase : Type 0
  OpensDatabase = MatchOption start OpensAgain (λ _. OpensFirst)
