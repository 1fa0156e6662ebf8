use Rattle.std.proofs.Common.{◌≡◌, ◌-◌, ◌≤◌, length, drop, false}
use Rattle.mail_core.specs.Quotes.{after_closing_quote}
use Rattle.mail_core.proofs.quotes.quote_end.Given as goal

abbrev pub invariant-loop-at : goal.invariant-loop-at
invariant-loop-at l = record {
  begun : l.from ≤ l.at;
  place : l.at ≤ length l.text;
  same : after_closing_quote l.quoted (drop l.at l.text) ≡ after_closing_quote false (drop l.from l.text);
}

abbrev pub decreases-loop-at : goal.decreases-loop-at
decreases-loop-at l = length l.text - l.at
