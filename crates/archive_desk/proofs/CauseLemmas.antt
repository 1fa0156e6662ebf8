-- Why the database does not answer: causes, carried from call to call.
use Rattle.std.proofs.Common.{◌≡◌, ◌⊎◌, inl, inr, subst, List, [], Result, Ok, Err, IfErr, arith}
use Rattle.archive_port.specs.declared.state.ArchiveState.{Ghosts}
use Rattle.archive_model.specs.Records.{Archive, Message as Remembered}
use Rattle.archive_port.proofs.LastLemmas.{lasts_then, more_since}
use Rattle.archive_port.specs.Told.{E15MeansDiskFailedOr as StoreCausedOr, RelatesArchivesUnder, DiskHasFailed, StoreHasCleanDisk, HoldsTables, StaysOpenUnlessDiskFails, archive_in}
use Rattle.archive_port.specs.Walking.{BeginsOver, E15MeansNextUnreadable, Walk, WalksOver}
use Rattle.archive_port.specs.declared.faults.StoreFault.{StoreFault}
use Rattle.archive_port.specs.declared.faults.StoreFault.TheVariants as faults
use Rattle.archive_port.proofs.CauseLemmas.{stops_later}
use Rattle.archive_results.specs.Access.{Ask}
use Rattle.archive_desk.specs.Causes.{HasUnreadableMessage, HasCause, IsDeskDatabaseFault}
use Rattle.archive_desk.specs.Faults.{desk_error_of}
use Rattle.archive_desk.specs.Walking.{HasWalkCause, E15MeansDiskFailedOrMessageUnreadable}

-- ---- which faults are the database's

-- of those of the store E15 alone
pub broken_by : (fault : StoreFault) → IsDeskDatabaseFault (desk_error_of fault) → fault ≡ faults.Store
broken_by fault it = grind arith

-- of each fault of an answer
pub each_fault : {A F : Type 0} (P Q : F → Type 0) → ((fault : F) → P fault → Q fault) → (result : Result A F) → IfErr result P → IfErr result Q
each_fault P Q implies (Ok answer) it = tt
each_fault P Q implies (Err fault) it = implies fault it

module _ {S W : Type 0} (g : Ghosts S W) (old new : S) where
  -- a question of the store
  pub store_cause : (fault : StoreFault) (Unread : Archive → Type 0) → StoreCausedOr g old new {A = Unit {0}} (Err fault) Unread
      → IsDeskDatabaseFault (desk_error_of fault) → HasCause g old new Unread
  store_cause fault Unread why it = λ returned held free. why returned held free (broken_by fault it)

  -- a cause among others
  pub cause_among : (Unread Unread' : Archive → Type 0) → ((a : Archive) → Unread a → Unread' a) → HasCause g old new Unread → HasCause g old new Unread'
  cause_among Unread Unread' implies why = λ returned held free. elim (why returned held free) [ inl more ↦ inl more | inr bad ↦ inr (implies _ bad) ]

-- behind calls in which the disk may have failed
pub failed_since : {S W : Type 0} (g : Ghosts S W) (old mid new : S) (X : Type 0) → StaysOpenUnlessDiskFails g old mid → DiskHasFailed g mid new ⊎ X → DiskHasFailed g old new ⊎ X
failed_since g old mid new X lasts (inl more) = inl (more_since g old mid new lasts more)
failed_since g old mid new X lasts (inr bad) = inr bad

module _ {S W : Type 0} (g : Ghosts S W) (old mid new : S) (first : RelatesArchivesUnder g (HoldsTables g) old mid (λ a b. b ≡ a)) (last : StaysOpenUnlessDiskFails g mid new) where
  -- behind calls that left the archive: the faults of the disk never get fewer, and no limit was set
  pub cause_after : (Unread : Archive → Type 0) → HasCause g mid new Unread → HasCause g old new Unread
  cause_after Unread why = λ returned held free.
      let there = first.1 (last.disk_was_clean returned) held in
      failed_since g old mid new (Unread (archive_in g old)) first.0 (subst (λ a. DiskHasFailed g mid new ⊎ Unread a) there.1 (why returned there.0 (first.0.sets_no_limit free)))

-- ---- a walk

module _ {S W : Type 0} (g : Ghosts S W) (ask : Ask) (old mid new : Walk S W) {P : List Remembered → Type 0}
    (so_far : StoreHasCleanDisk g mid.store → (all : List Remembered) (a : Archive) → WalksOver g ask.list all a [] old → (given : List Remembered) × WalksOver g ask.list all a given mid × P given)
    (before : StaysOpenUnlessDiskFails g old.store mid.store) (last : StaysOpenUnlessDiskFails g mid.store new.store) (fault : StoreFault) where
  -- the next message cannot be read, or the disk failed
  pub next_cause : E15MeansNextUnreadable g {A = Unit {0}} mid new (Err fault) → IsDeskDatabaseFault (desk_error_of fault) → HasWalkCause g old new ask
  next_cause stops it = λ returned free all a w.
      let here = so_far (last.disk_was_clean returned) all a w in
      stops_later g old.store mid.store new.store here.0 all before (stops returned ask.list all a here.0 here.1 (before.sets_no_limit free) (broken_by fault it))

  -- the same behind the marks of messages that are passed by
  pub pass_cause : E15MeansDiskFailedOrMessageUnreadable g {A = Unit {0}} mid new ask (Err fault) → IsDeskDatabaseFault (desk_error_of fault) → HasWalkCause g old new ask
  pass_cause stops it = λ returned free all a w.
      let here = so_far (last.disk_was_clean returned) all a w in
      failed_since g old.store mid.store new.store (HasUnreadableMessage all) before (stops returned all a here.0 here.1 (before.sets_no_limit free) (broken_by fault it))

-- ---- a walk that begins behind calls that left the archive

module _ {S W : Type 0} (g : Ghosts S W) (ask : Ask) (which : Archive → List Remembered) (old mid : S) (walk new : Walk S W)
    (first : RelatesArchivesUnder g (HoldsTables g) old mid (λ a b. b ≡ a)) (begun : BeginsOver g mid ask.list which walk) (lasts : StaysOpenUnlessDiskFails g walk.store new.store) where
  pub walk_lasts : StaysOpenUnlessDiskFails g old new.store
  walk_lasts = lasts_then g _ _ _ (lasts_then g _ _ _ first.0 begun.remains_open) lasts

  pub clean_at_start : StoreHasCleanDisk g new.store → StoreHasCleanDisk g mid
  clean_at_start returned = begun.remains_open.disk_was_clean (lasts.disk_was_clean returned)

  -- it gave nothing yet
  pub walk_begins : StoreHasCleanDisk g new.store → HoldsTables g old → WalksOver g ask.list (which (archive_in g old)) (archive_in g old) [] walk
  walk_begins returned held =
      let there = first.1 (clean_at_start returned) held in
      subst (λ a. WalksOver g ask.list (which a) a [] walk) there.1 (begun.begins_over_archive (lasts.disk_was_clean returned) there.0).1

  pub walk_cause : HasWalkCause g walk new ask → HasCause g old new.store (λ a. HasUnreadableMessage (which a))
  walk_cause why = λ returned held free.
      failed_since g old walk.store new.store (HasUnreadableMessage (which (archive_in g old))) (lasts_then g _ _ _ first.0 begun.remains_open)
      (why returned (begun.remains_open.sets_no_limit (first.0.sets_no_limit free)) (which (archive_in g old)) (archive_in g old) (walk_begins returned held))
