-- A request by hand can be sent.
use Rattle.std.proofs.Common.{◌≡◌, ℕ, ◌<◌, ◌≤◌, ◌+◌, ◌==◌, nat_le, List, [], ◌∷◌, ◌++◌, length, Bool, true, ◌&&◌, Option, Some, None, IsTrue, refl, sym, arith, codes, append-nil}
use Rattle.std.specs.List.{All, list_all}
use Rattle.std.specs.Str.{IsAscii, IsUtf8}
use Rattle.std.proofs.lemmas.Bool.{and_parts}
use Rattle.std.proofs.lemmas.Bool.Decides.{nat_tests}
use Rattle.std.proofs.lemmas.List.{length-append}
use Rattle.std.proofs.lemmas.List.Elements.{All-nil, All-cons}
use Rattle.std.proofs.lemmas.Str.{IsUtf8-from_ascii}
use Rattle.std.proofs.lemmas.Str.Ascii.{IsAscii-nil, IsAscii-cons}
use Rattle.httparse.specs.Grammar.{AllPass, Field, IsField, is_token_byte, is_uri_byte, is_value_byte, print_request}
use Rattle.policy_core.specs.Names.{is_lowercase_letter, is_name, is_name_byte}
use Rattle.archive_model.specs.Keys.{is_key, is_key_digit}
use Rattle.archive_model.specs.BearerTokens.{is_token, is_b64token}
use Rattle.archive_requests.specs.Heads.{BeginsWithHead}
use Rattle.archive_laws.specs.Telling.{authorization_fields, get_request}
use Rattle.archive_laws.proofs.ByteLemmas.{both, weaker}
use Rattle.archive_laws.proofs.AskingLemmas.{IsAsking, is_visible, visible_token, name_bytes, key_bytes}

-- ---- bytes of a head

passes : (p test : ℕ → Bool) → ((b : ℕ) → p b ≡ true → test b ≡ true) → (bs : List ℕ) → list_all p bs ≡ true → AllPass test bs
passes p test says [] h = All-nil (λ b. IsTrue (test b))
passes p test says (b ∷ bs) h =
    let parts = and_parts (p b) (list_all p bs) h in
    All-cons (λ b. IsTrue (test b)) b bs (says b parts.0) (passes p test says bs parts.1)

uri_byte : (b : ℕ) → is_visible b ≡ true → is_uri_byte b ≡ true
unfolding is_visible
uri_byte b h = grind (arith, nat_tests, h)

value_byte : (b : ℕ) → is_visible b ≡ true → is_value_byte b ≡ true
unfolding is_visible
value_byte b h = grind (arith, nat_tests, h)

ascii_byte : (b : ℕ) → is_visible b ≡ true → b < 128
unfolding is_visible
ascii_byte b h = grind (arith, nat_tests, h)

visible_ascii : (bs : List ℕ) → list_all is_visible bs ≡ true → IsAscii bs
visible_ascii [] h = IsAscii-nil
visible_ascii (b ∷ bs) h =
    let parts = and_parts (is_visible b) (list_all is_visible bs) h in
    IsAscii-cons b bs (ascii_byte b parts.0) (visible_ascii bs parts.1)

name_visible : (b : ℕ) → is_name_byte b ≡ true → is_visible b ≡ true
unfolding is_visible
name_visible b h = grind (arith, nat_tests, h)

-- ---- a head

get_token : AllPass is_token_byte (codes "GET")
unfolding is_token_byte
get_token = passes is_token_byte is_token_byte (λ b h. h) (codes "GET") refl

field_token : AllPass is_token_byte (codes "Authorization")
unfolding is_token_byte
field_token = passes is_token_byte is_token_byte (λ b h. h) (codes "Authorization") refl

raw_bytes : (t : List ℕ) → list_all is_value_byte t ≡ true → list_all is_value_byte (codes " Bearer " ++ t) ≡ true
raw_bytes t h = both is_value_byte (codes " Bearer ") t refl h

fields : (token : Option (List ℕ)) → IsAsking token → All IsField (authorization_fields token)
fields None is = All-nil IsField
fields (Some t) is = All-cons IsField _ [] (record {
  name = (omega arith, field_token);
  raw = passes is_value_byte is_value_byte (λ b h. h) (codes " Bearer " ++ t) (raw_bytes t (weaker is_visible is_value_byte value_byte t (visible_token t is)));
}) (All-nil IsField)

few : (token : Option (List ℕ)) → length (authorization_fields token) ≤ 64
few None = omega arith
few (Some t) = omega arith

token_short : (t : List ℕ) → is_token t ≡ true → length t ≤ 64
token_short t h =
    let low = (and_parts (nat_le 16 (length t)) (nat_le (length t) 64) (and_parts (nat_le 16 (length t) && nat_le (length t) 64) (is_b64token t) h).0).1 in
    grind (arith, nat_tests, low)

short : (token : Option (List ℕ)) → IsAsking token → (path : List ℕ) → length path ≤ 200 → length (print_request (get_request token (47 ∷ path))) ≤ 8192
unfolding print_request
short None is path h = simp length-append (omega (arith, h))
short (Some t) is path h = let low = token_short t is in simp length-append (omega (arith, h, low))

slash_visible : is_visible 47 ≡ true
unfolding is_visible
slash_visible = refl

-- a path behind its first slash
pub record IsSendable (path : List ℕ) : Type 0 where
  pub visible : list_all is_visible path ≡ true
  pub low : length path ≤ 200

pub sent : (token : Option (List ℕ)) → IsAsking token → (path : List ℕ) → IsSendable path
    → BeginsWithHead (print_request (get_request token (47 ∷ path))) (get_request token (47 ∷ path))
sent token is path can =
    let all : list_all is_visible (47 ∷ path) ≡ true = rw (slash_visible, can.visible) refl in
    record {
      after_head = [];
      reads_head = (
        record {
          method = (omega arith, get_token);
          target = (omega arith, passes is_visible is_uri_byte uri_byte (47 ∷ path) all);
          target_text = IsUtf8-from_ascii (47 ∷ path) (visible_ascii (47 ∷ path) all);
          minor = omega arith;
          fields = fields token is;
        },
        sym (append-nil (print_request (get_request token (47 ∷ path)))),
      );
      at_most_8192 = short token is path can.low;
      at_most_64_fields = few token;
    }

-- ---- the paths of a list and of a message

visible_word : (w : List ℕ) → list_all is_name_byte w ≡ true → list_all is_visible w ≡ true
visible_word w h = weaker is_name_byte is_visible name_visible w h

name_short : (name : List ℕ) → is_name name ≡ true → length name ≤ 40
name_short [] h = omega arith
name_short (b ∷ bs) h = let low = (and_parts (is_lowercase_letter b && list_all is_name_byte bs) (nat_le (length bs) 39) h).1 in grind (arith, nat_tests, low)

key_short : (key : List ℕ) → is_key key ≡ true → length key ≤ 64
key_short key h = let long = (and_parts (length key == 64) (list_all is_key_digit key) h).0 in grind (arith, nat_tests, long)

-- what follows the name of a list
pub record IsSendableRest (rest : List ℕ) : Type 0 where
  pub visible : list_all is_visible rest ≡ true
  pub low : length rest ≤ 100

pub root_sendable : IsSendable []
root_sendable = record { visible = refl; low = omega arith }

pub path_sendable : (name : List ℕ) → is_name name ≡ true → (rest : List ℕ) → IsSendableRest rest → IsSendable (codes "l/" ++ (name ++ rest))
unfolding is_visible
path_sendable name is rest can =
    let all = both is_visible name rest (visible_word name (name_bytes name is)) can.visible in
    let few = name_short name is in
    let more = can.low in
    let long = length-append name rest in
    record { visible = both is_visible (codes "l/") (name ++ rest) refl all; low = omega (arith, few, more, long) }

pub mbox_sendable : IsSendableRest (codes "/mbox")
unfolding is_visible
mbox_sendable = record { visible = refl; low = omega arith }

pub threads_sendable : IsSendableRest (codes "/threads")
unfolding is_visible
threads_sendable = record { visible = refl; low = omega arith }

pub key_sendable : (key : List ℕ) → is_key key ≡ true → IsSendableRest (codes "/m/" ++ key)
unfolding is_visible
key_sendable key h =
    let most = key_short key h in
    record { visible = both is_visible (codes "/m/") key refl (visible_word key (key_bytes key h)); low = omega (arith, most) }
