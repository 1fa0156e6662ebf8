-- The keys of messages: SHA-256 (FIPS 180-4) of the whole text, in lower-case hexadecimal digits.
use Rattle.std.specs.Prelude.{ℕ, List, length, nat_le, ◌==◌, Bool, ◌&&◌, ◌||◌}
use Rattle.std.specs.List.{list_all}
use Rattle.sha2.specs.Sha256.{sha256}
use Rattle.hex.specs.Hex.{encode_lower}
use Rattle.mbox_items.specs.Division.{Item, whole}

abbrev pub key_of : List ℕ → List ℕ
key_of text = encode_lower (sha256 text)

-- the key of a message
abbrev pub item_key : Item → List ℕ
item_key item = key_of (whole item.text)

-- `0` to `9`, `a` to `f`
abbrev pub is_key_digit : ℕ → Bool
is_key_digit b = (nat_le 48 b && nat_le b 57) || (nat_le 97 b && nat_le b 102)

-- 64 such digits
abbrev pub is_key : List ℕ → Bool
is_key text = length text == 64 && list_all is_key_digit text
