-- Bearer tokens (RFC 6750, 2.1: `b64token`).
use Rattle.std.specs.Prelude.{ℕ, List, [], ◌∷◌, length, nat_le, ◌==◌, Bool, true, false, ◌&&◌, ◌||◌, if◌then◌else◌, codes}
use Rattle.std.specs.List.{list_any, list_all}

abbrev pub is_letter_or_digit : ℕ → Bool
is_letter_or_digit b = (nat_le 97 b && nat_le b 122) || (nat_le 65 b && nat_le b 90) || (nat_le 48 b && nat_le b 57)

-- ALPHA, DIGIT, and `-`, `.`, `_`, `~`, `+`, `/`
abbrev pub is_token_byte : ℕ → Bool
is_token_byte b = is_letter_or_digit b || list_any (λ c. c == b) (codes "-._~+/")

abbrev pub is_padding : List ℕ → Bool
is_padding text = list_all (λ b. b == 61) text

-- any number of those bytes, and then any number of `=`
abbrev pub is_token_bytes_then_padding : List ℕ → Bool
is_token_bytes_then_padding [] = true
is_token_bytes_then_padding (b ∷ bs) = if is_token_byte b then is_token_bytes_then_padding bs else is_padding (b ∷ bs)

-- one or more of those bytes, and then any number of `=`
abbrev pub is_b64token : List ℕ → Bool
is_b64token [] = false
is_b64token (b ∷ bs) = is_token_byte b && is_token_bytes_then_padding bs

-- profile: 16 to 64 bytes, since a shorter one can be guessed and a longer one fills a request's head
abbrev pub is_token : List ℕ → Bool
is_token text = nat_le 16 (length text) && nat_le (length text) 64 && is_b64token text
