-- The addresses of persons, by which a message is known as its reader's own. (profile: an address is compared with author keys,
-- so it is kept as they are, and its grammar is not read)
use Rattle.std.specs.Prelude.{ℕ, List, length, map, nat_le, Bool, ◌&&◌}
use Rattle.std.specs.List.{list_all}
use Rattle.std.specs.Char.{to_ascii_lowercase}

-- `!` to `~`
abbrev pub is_address_byte : ℕ → Bool
is_address_byte b = nat_le 33 b && nat_le b 126

-- 1 to 254 such bytes (RFC 5321, 4.5.3.1.3: 256 octets with the brackets of a path)
abbrev pub is_address : List ℕ → Bool
is_address text = nat_le 1 (length text) && nat_le (length text) 254 && list_all is_address_byte text

-- in ASCII lower case
abbrev pub normalize_address : List ℕ → List ℕ
normalize_address text = map to_ascii_lowercase text
