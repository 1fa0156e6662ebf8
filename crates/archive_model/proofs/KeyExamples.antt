-- Worked examples of keys, and of messages that are added.
use Rattle.std.proofs.Common.{◌≡◌, ℕ, pos, List, [], ◌∷◌, refl, codes}
use Rattle.sha2.specs.Sha256.{sha256, digest_bytes, hash_after, compress, rounds, schedule, first_words}
use Rattle.hex.proofs.OnLiterals.{hex_on_literals}
use Rattle.mbox_items.specs.Division.{Item}
use Rattle.archive_model.specs.Records.{Archive}
use Rattle.archive_model.specs.Commands.{no_list, list_full, taken_in, already_known, refused}
use Rattle.archive_model.specs.Filing.{item_index_columns}
use Rattle.archive_model.specs.Keys.{key_of, item_key}
use Rattle.archive_model.specs.Machine.{StepOutcome, new_message, is_too_large, add_within_limit}

of_nothing : key_of [] ≡ codes "e3b0c44298fc1c149afbf4c8996fb92427ae41e4649b934ca495991b7852b855"
unfolding hex_on_literals sha256 digest_bytes hash_after compress rounds schedule first_words
of_nothing = refl

-- the message of FIPS 180-4's first example
of_abc : key_of (codes "abc") ≡ codes "ba7816bf8f01cfea414140de5dae2223b00361a396177a9cb410ff61f20015ad"
unfolding hex_on_literals sha256 digest_bytes hash_after compress rounds schedule first_words
of_abc = refl

-- a message of this sender and text
abbrev item : List ℕ → List ℕ → Item
item sender text = record { envelope = record { sender = sender; arrival = pos 0 }; text = text }

-- the whole text ends in LF
of_hello : item_key (item (codes "a@b") (codes "hello")) ≡ codes "5891b5b522d5df086d0ff0b110fbd9d21bb4fc7163af34d08286a2e846f6be03"
unfolding hex_on_literals sha256 digest_bytes hash_after compress rounds schedule first_words
of_hello = refl

-- ---- messages that are added to a list which takes two

abbrev with_one : Archive
with_one = record {
  lists = codes "soc" ∷ [];
  persons = [];
  grants = [];
  messages = new_message (codes "soc") (item (codes "a@b") (codes "one")) ∷ [];
  index_columns = item_index_columns (item (codes "a@b") (codes "one")) ∷ [];
  options = [];
  addresses = [];
}

-- the answer to a message, and the archive afterwards
abbrev added : Archive → List ℕ → List ℕ → StepOutcome
added archive list text = add_within_limit 2 archive list (item (codes "c@d") text)

a_second : (added with_one (codes "soc") (codes "two")).1 ≡ taken_in
unfolding hex_on_literals sha256 digest_bytes hash_after compress rounds schedule first_words is_too_large
a_second = refl

a_third : (added (added with_one (codes "soc") (codes "two")).0 (codes "soc") (codes "three")).1 ≡ refused list_full
unfolding hex_on_literals sha256 digest_bytes hash_after compress rounds schedule first_words is_too_large
a_third = refl

-- a message that comes again is known also where the list is full, and the first sender stays
the_first_again : added (added with_one (codes "soc") (codes "two")).0 (codes "soc") (codes "one\n") ≡ ((added with_one (codes "soc") (codes "two")).0, already_known)
unfolding hex_on_literals sha256 digest_bytes hash_after compress rounds schedule first_words is_too_large
the_first_again = refl

to_no_list : (added with_one (codes "xyz") (codes "two")).1 ≡ refused no_list
to_no_list = refl
