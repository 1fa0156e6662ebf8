use Rattle.std.proofs.Common.{◌-◌, ◌≡◌, ◌≤◌, ◌++◌, take}
use Rattle.httparse.specs.Grammar.{HasNoRequest}
use Rattle.archive_requests.proofs.head_reading.read_head.Given as goal

-- so many bytes came, they are the first of the buffer, and no head is in them
abbrev pub invariant-loop-filled : goal.invariant-loop-filled
invariant-loop-filled g l = record {
  within : l.filled ≤ 8192;
  told : g.R.Source.told l.input ≡ g.R.Source.told l.initial.input ++ take l.filled l.buffer;
  no_head : HasNoRequest (take l.filled l.buffer);
  goes_on : g.R.Source.ends l.input ≡ g.R.Source.ends l.initial.input;
  quiet : g.R.Source.failures l.input ≡ g.R.Source.failures l.initial.input;
}

abbrev pub decreases-loop-filled : goal.decreases-loop-filled
decreases-loop-filled g l = 8192 - l.filled
