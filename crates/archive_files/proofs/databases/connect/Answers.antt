use Rattle.std.proofs.Common.{◌≡◌, Bool, List, [], ◌∷◌, ℕ, ap₂, cond, subst, sym, inl, inr, refl}
use Rattle.sqlite_disk.specs.Events.{Event, replay, settled}
use Rattle.sqlite_disk.specs.History.{MayLeave}
use Rattle.sqlite_disk.specs.Modelled.{start_of}
use Rattle.sqlite_wal.specs.Recovery.{Image}
use Rattle.sqlite.specs.Files.{file_state}
use Rattle.sqlite.specs.Start.{FindsIn}
use Rattle.archive_files.proofs.databases.connect.Goals as goal

abbrev seen : List ℕ → List ℕ → Bool → List Event → List ℕ
seen log db is_log history = (replay (cond is_log log db) history).seen

abbrev image : List ℕ → List ℕ → Image
image log db = record { log = log; db = db }

-- a file that was just opened, as a crash leaves it
abbrev LeavesOnlySeen : Bool → List ℕ → List Event → Type 0
LeavesOnlySeen mixes start events =
    (c : List ℕ) → MayLeave mixes (replay start events).seen (replay start events).synced (replay start events).steps c → c ≡ (replay start events).seen

leaves_only_seen : (mixes : Bool) (start : List ℕ) (key : ℕ) (events : List Event) → events ≡ settled key ∷ [] → LeavesOnlySeen mixes start events
leaves_only_seen mixes start key events is = subst (LeavesOnlySeen mixes start) (sym is) (λ c may. elim may [ inl read ↦ read | inr synced ↦ synced ])

-- the files were just opened, so they hold what stands for them
pub returns-in-Ok-open_files-clause-found : goal.returns-in-Ok-open_files-clause-found
returns-in-Ok-open_files-clause-found g c = λ clean.
    let (log, db) = c.in-Ok-open_pair.ensures.fresh in
    let found = c.in-Ok-open_files.ensures.found clean in
    let same = ap₂ image (ap₂ (seen g.S.Start.log g.S.Start.db) log.0 log.1) (ap₂ (seen g.S.Start.log g.S.Start.db) db.0 db.1) in
    subst (λ i. FindsIn i (file_state c.in-Ok-open_files.connection)) same (record { holds = found.holds; reads = found.reads })

pub returns-in-Err-open_files-clause-cause : goal.returns-in-Err-open_files-clause-cause
returns-in-Err-open_files-clause-cause g c =
    let files = c.in-Ok-open_pair.files in
    let (log, db) = c.in-Ok-open_pair.ensures.fresh in
    inr (record {
      opens_name = c.in-Ok-open_pair.ensures.opened;
      files = files;
      image_is = ap₂ image (ap₂ (seen g.S.Start.log g.S.Start.db) log.0 log.1) (ap₂ (seen g.S.Start.log g.S.Start.db) db.0 db.1);
      leaves_only_image = λ other may. ap₂ image
          (leaves_only_seen g.S.Start.is_mixing (start_of g.S.Start files.log) files.log.key files.log.calls.log.events log.1 other.log may.0)
          (leaves_only_seen g.S.Start.is_mixing (start_of g.S.Start files.db) files.db.key files.db.calls.log.events db.1 other.db may.1);
      leftover = c.in-Err-open_files.left;
      error = c.in-Err-open_files.error;
      cause = c.in-Err-open_files.ensures.cause;
      leaves_files = c.in-Err-open_files.ensures.unharmed;
      left_is = refl;
      fault_is_of_error = c.database_fault.ensures.value;
    })
