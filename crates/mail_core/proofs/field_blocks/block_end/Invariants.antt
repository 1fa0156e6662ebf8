use Rattle.std.proofs.Common.{◌≡◌, ◌∷◌, ◌-◌, ◌≤◌, length, take, drop}
use Rattle.mail_core.specs.Lines.{lines}
use Rattle.mail_core.specs.Fields.{continued_blocks, header_lines}
use Rattle.mail_core.proofs.field_blocks.block_end.Given as goal

abbrev pub invariant-loop-end : goal.invariant-loop-end
invariant-loop-end l = record {
  begun : l.first ≤ l.end;
  place : l.end ≤ length l.text;
  same : continued_blocks (take l.first l.text ∷ header_lines (lines (drop l.first l.text))) ≡ continued_blocks (take l.end l.text ∷ header_lines (lines (drop l.end l.text)));
}

abbrev pub decreases-loop-end : goal.decreases-loop-end
decreases-loop-end l = length l.text - l.end
