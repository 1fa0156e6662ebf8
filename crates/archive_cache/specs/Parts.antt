-- What of a list is asked for: all that its reader is shown, with the threads, or the messages of a month or of an author key.
use Rattle.std.specs.Prelude.{◌==◌, ℕ, Bool, true, false, List, length, bytes_eq}
use Rattle.archive_cache.specs.declared.parts.ViewPart.{ViewPart as Named}
use Rattle.archive_cache.specs.declared.parts.ViewPart.TheVariants as named
use Rattle.archive_cache.specs.declared.parts.OwnPart.{OwnPart}
use Rattle.archive_cache.specs.declared.parts.OwnPart.TheVariants as own

pub data ViewPart : Type 0 where
  whole : ViewPart
  month : ℕ → ViewPart
  author : (key : List ℕ) → ViewPart

-- a part of the code, and one that a view has
abbrev pub model_part : Named → ViewPart
model_part named.Whole = whole
model_part (named.Month m) = month m
model_part (named.Author key) = author key.now

abbrev pub model_owned_part : OwnPart → ViewPart
model_owned_part own.Whole = whole
model_owned_part (own.Month m) = month m
model_owned_part (own.Author key) = author key.items

abbrev pub same_part : ViewPart → ViewPart → Bool
same_part whole whole = true
same_part whole (month n) = false
same_part whole (author l) = false
same_part (month m) whole = false
same_part (month m) (month n) = m == n
same_part (month m) (author l) = false
same_part (author k) whole = false
same_part (author k) (month n) = false
same_part (author k) (author l) = bytes_eq k l

-- how many bytes it takes
abbrev pub part_weight : ViewPart → ℕ
part_weight whole = 0
part_weight (month m) = 0
part_weight (author key) = length key
