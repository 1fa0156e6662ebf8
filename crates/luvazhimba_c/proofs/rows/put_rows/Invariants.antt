use Rattle.std.proofs.Common.{◌≡◌, take, length}
use Rattle.luvazhimba_c.specs.Rows.{rows_of_luv_rows}
use Rattle.luvazhimba_c.proofs.rows.put_rows.Given as goal

abbrev pub invariant-loop-at : goal.invariant-loop-at
invariant-loop-at l = record {
  long : length l.to ≡ length l.initial.to;
  written : rows_of_luv_rows l.at l.to ≡ take l.at l.rows;
}
