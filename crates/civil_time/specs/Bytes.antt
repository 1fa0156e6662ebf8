-- The ASCII bytes that times and zones are written with.
use Rattle.std.specs.Prelude.{ℕ}

abbrev pub plus : ℕ
plus = 43

abbrev pub hyphen : ℕ
hyphen = 45
