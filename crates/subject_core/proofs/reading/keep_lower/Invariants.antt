use Rattle.std.proofs.Common.{◌≡◌, ℕ, ◌+◌, ◌<◌, ◌≤◌, get_or, length}
use Rattle.std.specs.Char.{to_ascii_lowercase}
use Rattle.subject_core.proofs.reading.keep_lower.Given as goal

abbrev pub invariant-loop-at : goal.invariant-loop-at
invariant-loop-at l = record {
  long : length l.text.items ≡ length l.initial.text.items;
  moved : (k : ℕ) → k < l.at → get_or l.text.items k 0 ≡ to_ascii_lowercase (get_or l.initial.text.items (l.from + k) 0);
  ahead : (k : ℕ) → l.at ≤ k → get_or l.text.items k 0 ≡ get_or l.initial.text.items k 0;
}
