-- Decimal digits in ASCII, read and written.
use Rattle.std.specs.Prelude.{ℕ, ◌+◌, ◌-◌, ◌*◌, ◌/◌, ◌%◌, nat_le, Bool, ◌&&◌, if◌then◌else◌, List, [], ◌∷◌, ◌++◌, Option, Some, None}

-- ---- read

-- an ASCII digit
abbrev pub is_digit : ℕ → Bool
is_digit b = nat_le 48 b && nat_le b 57

-- the number that two digits write
abbrev pub two_digit_number : ℕ → ℕ → Option ℕ
two_digit_number a b = if is_digit a && is_digit b then Some (10 * (a - 48) + (b - 48)) else None

-- the number that four digits write
abbrev pub four_digit_number : ℕ → ℕ → ℕ → ℕ → Option ℕ
four_digit_number a b c d =
    if (is_digit a && is_digit b) && (is_digit c && is_digit d)
    then Some (1000 * (a - 48) + 100 * (b - 48) + 10 * (c - 48) + (d - 48)) else None

-- the value of one ASCII digit, 0 to 9; None for any other byte
abbrev pub decimal_digit_value : ℕ → Option ℕ
decimal_digit_value a = if is_digit a then Some (a - 48) else None

-- a number of one digit or two
abbrev pub parsed_one_or_two_digits : List ℕ → Option ℕ
parsed_one_or_two_digits (a ∷ []) = decimal_digit_value a
parsed_one_or_two_digits (a ∷ b ∷ []) = two_digit_number a b
parsed_one_or_two_digits _ = None

-- a number of two digits
abbrev pub parsed_two_digits : List ℕ → Option ℕ
parsed_two_digits (a ∷ b ∷ []) = two_digit_number a b
parsed_two_digits _ = None

-- a number of four digits
abbrev pub parsed_four_digits : List ℕ → Option ℕ
parsed_four_digits (a ∷ b ∷ c ∷ d ∷ []) = four_digit_number a b c d
parsed_four_digits _ = None

-- ---- written

-- a number below 100 in two ASCII digits, with a leading 0 below 10 (`2DIGIT` in RFC 3339 section 5.6)
abbrev pub as_two_digits : ℕ → List ℕ
as_two_digits n = (48 + n / 10) ∷ (48 + n % 10) ∷ []

abbrev pub as_four_digits : ℕ → List ℕ
as_four_digits n = as_two_digits (n / 100) ++ as_two_digits (n % 100)
