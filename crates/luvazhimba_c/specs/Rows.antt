-- Rows of threads as C has them.
use Rattle.std.specs.Prelude.{ℕ, List, take, map, Option, Some, None, true, false}
use Rattle.thread_core.specs.declared.row.Row.{Row}
use Rattle.luvazhimba_c.specs.declared.rows.LuvRow.{LuvRow}

-- which message stands in a row, where one does
abbrev pub place_of_luv_row : LuvRow → Option ℕ
place_of_luv_row row = elim row.is_message [ true ↦ Some row.place | false ↦ None ]

-- the row that it stands for
abbrev pub row_of_luv_row : LuvRow → Row
row_of_luv_row row = record { depth = row.depth; place = place_of_luv_row row }

-- the first so many rows
abbrev pub rows_of_luv_rows : ℕ → List LuvRow → List Row
rows_of_luv_rows count rows = map row_of_luv_row (take count rows)
