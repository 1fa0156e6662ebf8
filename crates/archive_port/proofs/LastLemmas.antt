-- What calls do to the state, one after the other.
use Rattle.std.proofs.Common.{◌≡◌, ◌∙◌, inl, inr, sym, subst, arith, refl, Option, Some, None, Result, Ok, Err}
use Rattle.std.specs.Prelude.{IsTrue, MatchOption}
use Rattle.archive_model.specs.Records.{Archive}
use Rattle.archive_port.specs.Told.{CallsStoreUnder, DiskHasFailed, LeavesArchive, HoldsTables, RelatesArchivesUnder, RelatesArchivesUnderIfOpen, StaysOpenUnlessDiskFails}
use Rattle.archive_port.specs.declared.state.ArchiveState.{Ghosts}

module _ {S W : Type 0} (g : Ghosts S W) where
  pub more_since : (old mid new : S) → StaysOpenUnlessDiskFails g old mid → DiskHasFailed g mid new → DiskHasFailed g old new
  more_since old mid new lasts more = omega (arith, more, lasts.closes_only_by_fault.faults_never_fall)

  pub more_before : (old mid new : S) → StaysOpenUnlessDiskFails g mid new → DiskHasFailed g old mid → DiskHasFailed g old new
  more_before old mid new lasts more = omega (arith, more, lasts.closes_only_by_fault.faults_never_fall)

  pub lasts_then : (old mid new : S) → StaysOpenUnlessDiskFails g old mid → StaysOpenUnlessDiskFails g mid new → StaysOpenUnlessDiskFails g old new
  lasts_then old mid new p q = record {
    disk_was_clean = λ clean. p.disk_was_clean (q.disk_was_clean clean);
    closes_only_by_fault = record {
      faults_never_fall = omega (arith, p.closes_only_by_fault.faults_never_fall, q.closes_only_by_fault.faults_never_fall);
      stays_open = λ clean up. elim (p.closes_only_by_fault.stays_open (q.disk_was_clean clean) up) [
        | inl still ↦ elim (q.closes_only_by_fault.stays_open clean still) [ inl yet ↦ inl yet | inr more ↦ inr (more_since old mid new p more) ]
        | inr more ↦ inr (more_before old mid new q more)
      ];
    };
    closed_stays_closed = λ clean up. p.closed_stays_closed (q.disk_was_clean clean) (q.closed_stays_closed clean up);
    sets_no_limit = λ free. q.sets_no_limit (p.sets_no_limit free);
  }

  pub lasts_same : (store : S) → StaysOpenUnlessDiskFails g store store
  lasts_same store = record {
    disk_was_clean = λ clean. clean;
    closes_only_by_fault = record { faults_never_fall = omega arith; stays_open = λ clean up. inl up };
    closed_stays_closed = λ clean up. up;
    sets_no_limit = λ free. free;
  }

  pub leaves_same : (store : S) → LeavesArchive g store store
  leaves_same store = record { remains_open = lasts_same store; stays_at_rest = λ held. (held, refl) }

  -- ---- behind a call that leaves the archive as it was

  module _ (old mid new : S) (leaves : LeavesArchive g mid new) where
    pub left_holds : {R : Type 0} (reason : Option R) (a : Archive) → g.has_clean_disk new
        → MatchOption reason (IsTrue (g.is_open mid) → g.is_at_rest mid × (g.archive mid ≡ a)) (λ _. g.is_at_rest mid × (g.archive mid ≡ a))
        → MatchOption reason (IsTrue (g.is_open new) → g.is_at_rest new × (g.archive new ≡ a)) (λ _. g.is_at_rest new × (g.archive new ≡ a))
    left_holds None a clean it = λ up.
        let was = it (leaves.remains_open.closed_stays_closed clean up) in
        let now = leaves.stays_at_rest was.0 in
        (now.0, now.1 ∙ was.1)
    left_holds (Some why) a clean it = let now = leaves.stays_at_rest it.0 in (now.0, now.1 ∙ it.1)

    module _ (R : Archive → Archive → Type 0) where
      pub left_relates : RelatesArchivesUnder g (HoldsTables g) old mid R → RelatesArchivesUnder g (HoldsTables g) old new R
      left_relates goes = (
        lasts_then old mid new goes.0 leaves.remains_open,
        λ clean held.
            let was = goes.1 (leaves.remains_open.disk_was_clean clean) held in
            let now = leaves.stays_at_rest was.0 in
            (now.0, subst (R (g.archive old)) (sym now.1) was.1),
      )

      pub left_relates_if_open : RelatesArchivesUnderIfOpen g (HoldsTables g) old mid R → RelatesArchivesUnderIfOpen g (HoldsTables g) old new R
      left_relates_if_open goes = (
        lasts_then old mid new goes.0 leaves.remains_open,
        λ clean held up.
            let was = goes.1 (leaves.remains_open.disk_was_clean clean) held (leaves.remains_open.closed_stays_closed clean up) in
            let now = leaves.stays_at_rest was.0 in
            (now.0, subst (R (g.archive old)) (sym now.1) was.1),
      )

    module _ {A F R : Type 0} (reason : F → Option R) (Says : Archive → Archive → A → Type 0) (Refuses : Archive → Archive → R → Type 0) (Stops : Archive → Archive → F → Type 0) where
      by_reason : (fault : F) (why : Option R)
          → MatchOption why (RelatesArchivesUnderIfOpen g (HoldsTables g) old mid (λ a b. Stops a b fault)) (λ why. RelatesArchivesUnder g (HoldsTables g) old mid (λ a b. Refuses a b why))
          → MatchOption why (RelatesArchivesUnderIfOpen g (HoldsTables g) old new (λ a b. Stops a b fault)) (λ why. RelatesArchivesUnder g (HoldsTables g) old new (λ a b. Refuses a b why))
      by_reason fault None call = left_relates_if_open (λ a b. Stops a b fault) call
      by_reason fault (Some why) call = left_relates (λ a b. Refuses a b why) call

      pub left_calls : (result : Result A F) → CallsStoreUnder g (HoldsTables g) old mid reason result Says Refuses Stops → CallsStoreUnder g (HoldsTables g) old new reason result Says Refuses Stops
      left_calls (Ok answer) call = left_relates (λ a b. Says a b answer) call
      left_calls (Err fault) call = by_reason fault (reason fault) call
