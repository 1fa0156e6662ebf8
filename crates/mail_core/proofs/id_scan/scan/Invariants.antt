use Rattle.std.proofs.Common.{◌≡◌, ℕ, ◌-◌, ◌≤◌, ◌++◌, length, drop, false, None}
use Rattle.mail_core.specs.Quotes.{after_closing_quote}
use Rattle.mail_core.specs.MsgIds.{ids_of}
use Rattle.mail_core.proofs.id_scan.scan.Given as goal

abbrev pub invariant-loop-at : goal.invariant-loop-at
invariant-loop-at l = record {
  place : l.at ≤ length l.text;
  few : length l.found ≤ l.most;
  comments : l.comments ≡ l.text;
  told : l.found ++ ids_of (drop l.at l.text) ≡ ids_of l.text;
  open_quote : l.quotes_end ≡ false → (p : ℕ) × (p ≤ l.at) × (after_closing_quote false (drop p l.text) ≡ None);
}

abbrev pub decreases-loop-at : goal.decreases-loop-at
decreases-loop-at l = length l.text - l.at
