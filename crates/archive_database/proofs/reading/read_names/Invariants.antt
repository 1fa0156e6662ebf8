use Rattle.std.proofs.Common.{◌≡◌, ℕ, List, map, drop}
use Rattle.std.specs.Prelude.{string_bytes}
use Rattle.archive_tables.specs.Rows.{name_result_row}
use Rattle.archive_database.proofs.ReadingLemmas.{HasRead}
use Rattle.archive_database.proofs.reading.read_names.Given as goal

abbrev pub invariant-loop-row : goal.invariant-loop-row
invariant-loop-row l =
    (names : List (List ℕ)) → l.fn.rows ≡ map name_result_row names → HasRead name_result_row (map string_bytes l.found.items) (drop l.row-index l.rows) names
