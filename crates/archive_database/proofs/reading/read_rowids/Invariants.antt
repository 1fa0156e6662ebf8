use Rattle.std.proofs.Common.{◌≡◌, ℤ, List, map, drop}
use Rattle.archive_tables.specs.Rows.{rowid_result_row}
use Rattle.archive_database.proofs.ReadingLemmas.{HasRead}
use Rattle.archive_database.proofs.reading.read_rowids.Given as goal

abbrev pub invariant-loop-row : goal.invariant-loop-row
invariant-loop-row l =
    (places : List ℤ) → l.fn.rows ≡ map rowid_result_row places → HasRead rowid_result_row l.found.items (drop l.row-index l.rows) places
