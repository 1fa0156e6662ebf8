-- Worked examples of tokens and of the form of keys.
use Rattle.std.proofs.Common.{◌≡◌, true, false, refl, codes}
use Rattle.archive_model.specs.BearerTokens.{is_token}
use Rattle.archive_model.specs.Keys.{is_key}

-- 16 to 64 bytes
of_sixteen : is_token (codes "0123456789abcdef") ≡ true
of_sixteen = refl

of_fifteen : is_token (codes "0123456789abcde") ≡ false
of_fifteen = refl

of_sixty_four : is_token (codes "0123456789abcdef0123456789ABCDEF-._~+/0123456789abcdef0123456789") ≡ true
of_sixty_four = refl

of_sixty_five : is_token (codes "0123456789abcdef0123456789ABCDEF-._~+/0123456789abcdef01234567890") ≡ false
of_sixty_five = refl

-- `=` at the end alone, and after some byte
padded_at_its_end : is_token (codes "0123456789abcd==") ≡ true
padded_at_its_end = refl

padded_in_its_midst : is_token (codes "0123456=89abcdef") ≡ false
padded_in_its_midst = refl

padding_alone : is_token (codes "================") ≡ false
padding_alone = refl

with_a_space : is_token (codes "0123456789 abcdef") ≡ false
with_a_space = refl

-- 64 digits, in lower case
a_key : is_key (codes "e3b0c44298fc1c149afbf4c8996fb92427ae41e4649b934ca495991b7852b855") ≡ true
a_key = refl

in_capitals : is_key (codes "E3B0C44298FC1C149AFBF4C8996FB92427AE41E4649B934CA495991B7852B855") ≡ false
in_capitals = refl

a_digit_too_few : is_key (codes "e3b0c44298fc1c149afbf4c8996fb92427ae41e4649b934ca495991b7852b85") ≡ false
a_digit_too_few = refl
