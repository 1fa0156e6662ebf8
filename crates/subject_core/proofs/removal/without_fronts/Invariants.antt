use Rattle.std.proofs.Common.{◌≡◌, ℕ, List, ◌++◌, length, None}
use Rattle.subject_core.specs.Removal.{without_trailer}
use Rattle.subject_core.specs.BaseSubject.{with_earlier_reply, after_all_removals}
use Rattle.subject_core.proofs.removal.without_fronts.Given as goal

abbrev pub invariant-loop-shorter : goal.invariant-loop-shorter
invariant-loop-shorter l = record {
  same : after_all_removals l.text ≡ with_earlier_reply l.reply (after_all_removals l.rest);
  within : (leader : List ℕ) × (l.text ≡ leader ++ l.rest);
  no_trailer : without_trailer l.rest ≡ None;
}

abbrev pub decreases-loop-shorter : goal.decreases-loop-shorter
decreases-loop-shorter l = length l.rest
