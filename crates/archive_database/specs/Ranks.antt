-- The highest rank of some grants that hold on a day.
use Rattle.std.specs.Prelude.{ℤ, List, map, filter, if◌then◌else◌}
use Rattle.std.specs.Int.{int_max}
use Rattle.archive_model.specs.Records.{Grant}
use Rattle.archive_model.specs.Questions.{max_rank, grant_holds_on}

-- the highest rank of the grants that hold on a day, 0 where none does
abbrev pub highest_rank_on : ℤ → List Grant → ℤ
highest_rank_on day shown = max_rank (map (λ g. g.rank) (filter (grant_holds_on day) shown))

-- with one grant more
abbrev pub highest_rank_with_grant : ℤ → Grant → ℤ → ℤ
highest_rank_with_grant day g above = if grant_holds_on day g then int_max g.rank above else above
