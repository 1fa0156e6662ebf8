use Rattle.std.proofs.Common.{◌≡◌, ◌≤◌, ◌++◌, length}
use Rattle.byte_device.proofs.reading.read_all.Given as goal

abbrev pub invariant-loop : goal.invariant-loop
invariant-loop g l = record {
  told : g.R.Source.told l.input ≡ g.R.Source.told l.initial.input ++ l.text.items;
  quiet : g.R.Source.failures l.input ≡ g.R.Source.failures l.initial.input;
  goes_on : g.R.Source.ends l.input ≡ g.R.Source.ends l.initial.input;
  each_gave : l.counter ≤ length l.text.items;
}
