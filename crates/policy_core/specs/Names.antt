-- The names of lists and of rules. (profile: a name stands in a path and in a policy as it is, without escapes)
use Rattle.std.specs.Prelude.{ℕ, List, [], ◌∷◌, length, nat_le, ◌==◌, Bool, false, ◌&&◌, ◌||◌}
use Rattle.std.specs.List.{list_all}

-- `a` to `z`
abbrev pub is_lowercase_letter : ℕ → Bool
is_lowercase_letter b = nat_le 97 b && nat_le b 122

-- `a` to `z`, `0` to `9`, `-`
abbrev pub is_name_byte : ℕ → Bool
is_name_byte b = is_lowercase_letter b || (nat_le 48 b && nat_le b 57) || (b == 45)

-- 1 to 40 such bytes, the first a letter
abbrev pub is_name : List ℕ → Bool
is_name [] = false
is_name (b ∷ bs) = is_lowercase_letter b && list_all is_name_byte bs && nat_le (length bs) 39
