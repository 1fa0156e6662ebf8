use Rattle.std.proofs.Common.{◌≡◌, ℕ, List, ◌++◌, length}
use Rattle.subject_core.specs.BaseSubject.{with_earlier_reply, after_all_removals}
use Rattle.subject_core.proofs.removal.without_trailers.Given as goal

abbrev pub invariant-loop-shorter : goal.invariant-loop-shorter
invariant-loop-shorter l = record {
  same : after_all_removals l.text ≡ with_earlier_reply l.reply (after_all_removals l.rest);
  within : (trailer : List ℕ) × (l.text ≡ l.rest ++ trailer);
}

abbrev pub decreases-loop-shorter : goal.decreases-loop-shorter
decreases-loop-shorter l = length l.rest
