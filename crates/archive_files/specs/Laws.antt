-- The laws of a system's device of databases.
use Rattle.std.proofs.Common.{◌≡◌, inl, inr, subst, sym, ℕ, Bool, List, Option, Some, None, Ok, Err}
use Rattle.sqlite_disk.specs.declared.Disk.{Ghosts}
use Rattle.sqlite_disk.specs.declared.Files.{Files}
use Rattle.sqlite_std_file.specs.declared.pair.OpenError.{OpenError}
use Rattle.sqlite_wal.specs.Recovery.{Image}
use Rattle.sqlite_wal.proofs.LogLemmas.{SeenMayStay}
use Rattle.sqlite_store.specs.declared.store.FileStore.{FileStore}
use Rattle.sqlite.specs.Files.{over_files, image_of}
use Rattle.archive_model.specs.Records.{Archive}
use Rattle.archive_store.specs.Told.{HasNoStepLimit, HoldsTables, archive_in}
use Rattle.archive_store.specs.State.{state_of}
use Rattle.archive_store.specs.declared.store.Store.{Store}
use Rattle.archive_port.specs.declared.faults.StoreFault.{StoreFault}
use Rattle.archive_port.specs.Remembering.{StoreHoldsArchive}
use Rattle.archive_files.specs.Closing.{close_result_holds_archive}
use Rattle.archive_files.specs.Leaving.{DatabaseHoldsArchive, FilesHoldArchive, IsLeftByClose, LeftFilesHoldArchive, LeftoverHoldsArchive, MayBeNamed}
use Rattle.archive_files.specs.Leaving.{leftover_holds, left_files_hold, refused_files_hold, seen_files_hold}
use Rattle.archive_files.specs.Opening.{FileHoldsArchive, IsOpenedFromFiles, opened_from_image, opened_store_holds_archive}
use Rattle.archive_files.specs.Refusing.{FailsToOpenStore, FailsToReopen, FailsToReopenDatabase}
use Rattle.archive_files.specs.Reopening.{OpensDatabase}
use Rattle.archive_files.specs.declared.databases.FilesLeft.{FilesLeft}
use Rattle.archive_files.specs.declared.databases.FilesLeft.TheVariants.{NotOpened, Unread, Reread, NotAdopted, Closed}

-- ---- a store that was opened from files that were left

module _ {D : Type 0} {g : Ghosts D} (stays : SeenMayStay g) where
  reopened_store_holds : (files : Files D) (store : Store (FileStore D g)) (archive : Archive) → IsOpenedFromFiles files store → FilesHoldArchive g files archive
      → StoreHoldsArchive (state_of over_files) store archive × HasNoStepLimit over_files store
  reopened_store_holds files store archive was held = (
    λ returned. (let honest = (was.finds_files (was.is_adopted.disk_was_clean returned)).honest in
        opened_store_holds_archive (image_of g files) store archive (opened_from_image files store was) (seen_files_hold g stays files archive held honest) returned),
    was.is_adopted.has_no_step_limit,
  )

-- ---- what a database that was not opened has of its files then

module _ {R D : Type 0} (g : Ghosts D) (stays : SeenMayStay g) (seeds : R → Bool → Type 0) (opens : R → List ℕ → Option OpenError → Type 0) (system : R) (name : List ℕ)
    (first : Image) where
  -- the first opening
  left_hold : (fault : StoreFault) (left : FilesLeft D g) → FailsToOpenStore g seeds opens system name first left fault → (archive : Archive) → FileHoldsArchive first archive
      → LeftFilesHoldArchive first left archive
  left_hold fault left (inl (inl (is, why))) archive held = subst (λ l. LeftFilesHoldArchive first l archive) (sym is) held
  left_hold fault left (inl (inr unread)) archive held =
      let was = subst (λ i. FileHoldsArchive i archive) (sym unread.image_is) held in
      subst (λ l. LeftFilesHoldArchive first l archive) (sym unread.left_is)
      (λ clean. subst (λ i. LeftoverHoldsArchive i unread.leftover archive) unread.image_is
      (leftover_holds archive unread.files unread.leaves_only_image unread.leftover (unread.leaves_files clean) was))
  left_hold fault left (inr refused) archive held =
      let it = refused.is_refused in
      subst (λ l. LeftFilesHoldArchive first l archive) (sym it.left_is)
      (refused_files_hold archive stays first refused.connection refused.is_opened refused.finds_image it.stop it.is_not_adopted it.closed it.closes (λ clean. held))

  -- another opening
  reopened_left_hold : (fault : StoreFault) (files : Files D) (left : FilesLeft D g) → FailsToReopen files left fault → (archive : Archive) → FilesHoldArchive g files archive
      → LeftFilesHoldArchive first left archive
  reopened_left_hold fault files left (inl unread) archive held =
      subst (λ l. LeftFilesHoldArchive first l archive) (sym unread.left_is) (record { files = files; held = held; leaves_files = unread.leaves_files })
  reopened_left_hold fault files left (inr refused) archive held =
      let it = refused.is_refused in
      subst (λ l. LeftFilesHoldArchive first l archive) (sym it.left_is)
      (refused_files_hold archive stays (image_of g files) refused.connection refused.is_opened
      (λ clean. record { holds = (refused.finds_files clean).holds; reads = (refused.finds_files clean).reads }) it.stop it.is_not_adopted it.closed it.closes
      (λ clean. seen_files_hold g stays files archive held (refused.finds_files clean).honest))

  -- each archive that it held before
  still_holds : (A : Type 0) (known_before known_after : Option (List ℕ)) (before after : Option (FilesLeft D g)) (fault : StoreFault)
      → FailsToReopenDatabase seeds system known_before name before after fault → (archive : Archive)
      → DatabaseHoldsArchive {A = A} first None known_before before name archive → DatabaseHoldsArchive {A = A} first None known_after before name archive
      → DatabaseHoldsArchive {A = A} first None known_after after name archive
  still_holds A known_before known_after before after fault (inl same) archive held named =
      subst (λ l. DatabaseHoldsArchive {A = A} first None known_after l name archive) (sym same.1) named
  still_holds A known_before known_after before None fault (inr again) archive held named = absurd again.2
  still_holds A known_before known_after (Some was) (Some left) fault (inr again) archive held named =
      (named.0, reopened_left_hold fault again.0 left again.2 archive (left_files_hold archive first was again.0 again.1 held.1))
  still_holds A known_before known_after None (Some left) fault (inr again) archive held named = absurd held

  -- ---- the laws

  module _ {A : Type 0} where
    -- a database that was opened
    pub opened_store_holds : (start : Option A) (known_before known_after : Option (List ℕ)) (before after : Option (FilesLeft D g)) (store : Store (FileStore D g)) (archive : Archive)
        → DatabaseHoldsArchive first start known_before before name archive
        → OpensDatabase g seeds opens system name first start known_before known_after before after (Ok store)
        → StoreHoldsArchive (state_of over_files) store archive × HasNoStepLimit over_files store
    opened_store_holds (Some s) known_before known_after before after store archive held opened =
        let was = opened.opens_or_fails.0 in
        (opened_store_holds_archive first store archive was held, was.is_adopted.has_no_step_limit)
    opened_store_holds None known_before known_after None after store archive held opened = absurd held
    opened_store_holds None known_before known_after (Some left) after store archive held opened =
        let was = opened.reopens_or_fails in
        reopened_store_holds stays was.files store archive was.is_opened_from_files (left_files_hold archive first left was.files was.were_left held.1)

    -- it is known by no other name then
    pub named_as_opened : (start : Option A) (known_before known_after : Option (List ℕ)) (before after : Option (FilesLeft D g)) (store : Store (FileStore D g)) (archive : Archive)
        → DatabaseHoldsArchive first start known_before before name archive
        → OpensDatabase g seeds opens system name first start known_before known_after before after (Ok store) → MayBeNamed known_after name
    named_as_opened (Some s) known_before known_after before after store archive held opened = opened.may_be_named
    named_as_opened None known_before known_after (Some left) after store archive held opened = subst (λ k. MayBeNamed k name) (sym opened.known_is) held.0
    named_as_opened None known_before known_after None after store archive held opened = absurd held

    -- a database that was not opened, or not again
    pub unopened_database_holds : (start last : Option A) (known_before known_after : Option (List ℕ)) (before after : Option (FilesLeft D g)) (fault : StoreFault) → last ≡ None
        → OpensDatabase g seeds opens system name first start known_before known_after before after (Err fault) → (archive : Archive)
        → DatabaseHoldsArchive first start known_before before name archive → DatabaseHoldsArchive first last known_after after name archive
    unopened_database_holds start (Some s) known_before known_after before after fault used fails archive held = absurd (cc)
    unopened_database_holds (Some s) None known_before known_after before None fault used fails archive held = absurd fails.opens_or_fails
    unopened_database_holds (Some s) None known_before known_after before (Some left) fault used fails archive held =
        (fails.may_be_named, left_hold fault left fails.opens_or_fails archive held)
    unopened_database_holds None None known_before known_after before after fault used fails archive held =
        let named = subst (λ k. DatabaseHoldsArchive {A = A} first None k before name archive) (sym fails.known_is) held in
        still_holds A known_before known_after before after fault fails.reopens_or_fails archive held named

-- a database that was closed
pub closed_database_holds : {A D : Type 0} {g : Ghosts D} (first : Image) (start : Option A) (known device_known : Option (List ℕ)) (name : List ℕ) (left : Option (FilesLeft D g))
    (store : Store (FileStore D g)) → start ≡ None → known ≡ device_known → MayBeNamed device_known name → IsLeftByClose left store → HoldsTables over_files store
    → DatabaseHoldsArchive first start known left name (archive_in over_files store)
closed_database_holds first None known device_known name (Some (Closed closed)) store used same named it tables =
    (subst (λ k. MayBeNamed k name) (sym same) named, close_result_holds_archive store closed it tables)
closed_database_holds first None known device_known name (Some NotOpened) store used same named it tables = absurd it
closed_database_holds first None known device_known name (Some (Unread leftover)) store used same named it tables = absurd it
closed_database_holds first None known device_known name (Some (Reread leftover)) store used same named it tables = absurd it
closed_database_holds first None known device_known name (Some (NotAdopted closed)) store used same named it tables = absurd it
closed_database_holds first None known device_known name None store used same named it tables = absurd it
closed_database_holds first (Some s) known device_known name left store used same named it tables = absurd (cc)
