-- Worked examples of heads.
use Rattle.std.proofs.Common.{◌≡◌, ℕ, zero, suc, List, [], ◌∷◌, ◌++◌, refl, codes, arith, rules}
use Rattle.std.specs.Prelude.{All, flat_map}
use Rattle.std.proofs.lemmas.List.Elements.{All-nil, All-cons}
use Rattle.std.proofs.lemmas.Str.{IsUtf8-from_ascii}
use Rattle.httparse.specs.Grammar.{RequestHead, Field, IsField, crlf, lf, print_request, print_field, is_token_byte, ReadsRequest}
use Rattle.archive_requests.specs.Heads.{BeginsWithHead, BeginsWithTooManyFields}

abbrev host : Field
host = record { name = codes "Host"; raw = codes " a"; end = lf }

abbrev hosts : ℕ → List Field
hosts zero = []
hosts (suc n) = host ∷ hosts n

abbrev head : List Field → RequestHead
head fields =
    record { blank = lf ∷ []; method = codes "GET"; target = codes "/"; minor = 1; line_end = crlf; fields = fields; last = crlf }

is_field : IsField host
unfolding is_token_byte
is_field = search rules

are_fields : (n : ℕ) → All IsField (hosts n)
are_fields zero = All-nil IsField
are_fields (suc n) = All-cons IsField host (hosts n) is_field (are_fields n)

abbrev with_hosts : ℕ → (rest : List ℕ) → List ℕ
with_hosts n rest = codes "\nGET / HTTP/1.1\r\n" ++ flat_map print_field (hosts n) ++ codes "\r\n" ++ rest

reads : (n : ℕ) (rest : List ℕ) → with_hosts n rest ≡ print_request (head (hosts n)) ++ rest → ReadsRequest (with_hosts n rest) (head (hosts n)) rest
unfolding is_token_byte
reads n rest same = (
  record {
    method = (omega arith, search rules);
    target = (omega arith, search rules);
    target_text = IsUtf8-from_ascii (codes "/") (search rules);
    minor = omega arith;
    fields = are_fields n;
  },
  same,
)

-- lines end with CR LF or LF, an empty line may stand before the head, and what follows the head is no part of it
a_head : BeginsWithHead (codes "\nGET / HTTP/1.1\r\nHost: a\n\r\nGET /x HTTP/1.1\r\n\r\n") (head (host ∷ []))
unfolding print_request
a_head = record { after_head = codes "GET /x HTTP/1.1\r\n\r\n"; reads_head = reads 1 _ refl; at_most_8192 = omega arith; at_most_64_fields = omega arith }

sixty_four_fields : BeginsWithHead (with_hosts 64 []) (head (hosts 64))
unfolding print_request
sixty_four_fields = record { after_head = []; reads_head = reads 64 [] refl; at_most_8192 = omega arith; at_most_64_fields = omega arith }

sixty_five_fields : BeginsWithTooManyFields (with_hosts 65 []) (head (hosts 65))
unfolding print_request
sixty_five_fields = record { after_head = []; reads_head = reads 65 [] refl; at_most_8192 = omega arith; over_64_fields = omega arith }
