use Rattle.std.proofs.Common.{◌≡◌, length}
use Rattle.subject_core.specs.BaseSubject.{with_earlier_reply, after_all_removals}
use Rattle.subject_core.proofs.Parts.{IsPart}
use Rattle.subject_core.proofs.removal.kept.Given as goal

abbrev pub invariant-loop-inner : goal.invariant-loop-inner
invariant-loop-inner l = record {
  same : after_all_removals l.text ≡ with_earlier_reply l.reply (after_all_removals l.rest);
  part : IsPart l.text l.from l.rest;
}

abbrev pub decreases-loop-inner : goal.decreases-loop-inner
decreases-loop-inner l = length l.rest
