-- What a request by hand asks for.
use Rattle.std.proofs.Common.{◌≡◌, ◌∙◌, ℕ, ◌<◌, ◌==◌, nat_lt, nat_le, List, [], ◌∷◌, ◌++◌, length, reverse, Bool}
use Rattle.std.proofs.Common.{true, false, ◌&&◌, cond, Option, Some, None, refl, sym, ap, arith, codes, append-nil}
use Rattle.std.specs.Prelude.{⊤}
use Rattle.std.specs.List.{list_all}
use Rattle.std.proofs.lemmas.Bool.{and_parts, true≢false}
use Rattle.std.proofs.lemmas.Bool.Decides.{nat_tests}
use Rattle.std.proofs.lemmas.List.{reverse-append, reverse-reverse, length-reverse}
use Rattle.httparse.specs.Grammar.{is_ows, skip_ows, trim_ows}
use Rattle.matchit.specs.Seek.{has_slash}
use Rattle.policy_core.specs.Names.{is_lowercase_letter, is_name, is_name_byte}
use Rattle.archive_model.specs.BearerTokens.{is_token, is_b64token, is_token_bytes_then_padding, is_padding, is_token_byte}
use Rattle.archive_model.specs.Keys.{is_key, is_key_digit}
use Rattle.archive_requests.specs.Bearer.{token, bearer_in_field_value, token_if_valid, skip_spaces}
use Rattle.archive_requests.specs.Requests.{asks, request_of, path_of, request_by_bearer}
use Rattle.archive_requests.specs.Routes.{message, threads, mbox, segments, some_if_nonempty, list_route, route_of_segments, route_of}
use Rattle.archive_requests.proofs.SegmentLemmas.{segments-whole, segments-parted}
use Rattle.archive_html.specs.Links.{list_path}
use Rattle.archive_laws.specs.Telling.{get_request}
use Rattle.archive_laws.proofs.ByteLemmas.{weaker, backwards}

-- ---- tokens

unfoldable pub is_visible : ℕ → Bool
is_visible b = nat_lt 32 b && nat_lt b 127

token_byte : (b : ℕ) → is_token_byte b ≡ true → is_visible b ≡ true
unfolding is_visible
token_byte b h = grind (arith, nat_tests, h)

padding_byte : (b : ℕ) → (b == 61) ≡ true → is_visible b ≡ true
unfolding is_visible
padding_byte b h = grind (arith, nat_tests, h)

padded : (bs : List ℕ) → is_token_bytes_then_padding bs ≡ true → list_all is_visible bs ≡ true
padded [] h = refl
padded (b ∷ bs) h = by (is_token_byte b) refl h (padded bs)
  where
    by : (t : Bool) → is_token_byte b ≡ t → cond t (is_token_bytes_then_padding bs) (is_padding (b ∷ bs)) ≡ true → (is_token_bytes_then_padding bs ≡ true → list_all is_visible bs ≡ true)
        → list_all is_visible (b ∷ bs) ≡ true
    by true e h rest = rw (token_byte b e, rest h) refl
    by false e h rest = weaker (λ c. c == 61) is_visible padding_byte (b ∷ bs) h

pub visible_token : (t : List ℕ) → is_token t ≡ true → list_all is_visible t ≡ true
visible_token [] h = refl
visible_token (b ∷ bs) h =
    let parts = and_parts (is_token_byte b) (is_token_bytes_then_padding bs) (and_parts (nat_le 16 (length (b ∷ bs)) && nat_le (length (b ∷ bs)) 64) (is_b64token (b ∷ bs)) h).1 in
    rw (token_byte b parts.0, padded bs parts.1) refl

some_bytes : (t : List ℕ) → is_token t ≡ true → 0 < length t
some_bytes t h =
    let long = (and_parts (nat_le 16 (length t)) (nat_le (length t) 64) (and_parts (nat_le 16 (length t) && nat_le (length t) 64) (is_b64token t) h).0).0 in
    grind (arith, nat_tests, long)

no_space : (b : ℕ) → is_visible b ≡ true → is_ows b ≡ false
unfolding is_visible
no_space b h = grind (arith, nat_tests, h)

skips_none : (ys zs : List ℕ) → list_all is_visible ys ≡ true → 0 < length ys → skip_ows (ys ++ zs) ≡ ys ++ zs
skips_none [] zs h long = absurd (omega (arith, long))
skips_none (y ∷ ys) zs h long = rw (no_space y (and_parts (is_visible y) (list_all is_visible ys) h).0) refl

trimmed : (t : List ℕ) → list_all is_visible t ≡ true → 0 < length t → trim_ows (codes " Bearer " ++ t) ≡ codes "Bearer " ++ t
unfolding trim_ows
trimmed t h long =
    let back : reverse (codes "Bearer " ++ t) ≡ reverse t ++ reverse (codes "Bearer ") = reverse-append (codes "Bearer ") t in
    let some : 0 < length (reverse t) = rw (length-reverse t) long in
    ap (λ l. reverse (skip_ows l)) back
    ∙ ap (λ (l : List ℕ). reverse l) (skips_none (reverse t) (reverse (codes "Bearer ")) (backwards is_visible t h) some ∙ sym back)
    ∙ reverse-reverse (codes "Bearer " ++ t)

not_space : (b : ℕ) → is_visible b ≡ true → (b == 32) ≡ false
unfolding is_visible
not_space b h = grind (arith, nat_tests, h)

no_space_first : (t : List ℕ) → list_all is_visible t ≡ true → skip_spaces t ≡ t
no_space_first [] h = refl
no_space_first (b ∷ bs) h = rw (not_space b (and_parts (is_visible b) (list_all is_visible bs) h).0) refl

borne : (t : List ℕ) → is_token t ≡ true → bearer_in_field_value (trim_ows (codes " Bearer " ++ t)) ≡ token t
borne t h =
    ap bearer_in_field_value (trimmed t (visible_token t h) (some_bytes t h))
    ∙ ap token_if_valid (no_space_first t (visible_token t h))
    ∙ rw h refl

-- ---- paths

-- a token that a request can have
abbrev pub IsAsking : Option (List ℕ) → Type 0
IsAsking None = ⊤
IsAsking (Some t) = is_token t ≡ true

pub asked : (o : Option (List ℕ)) → IsAsking o → (path : List ℕ) → path_of (47 ∷ path) ≡ 47 ∷ path → request_of (get_request o (47 ∷ path)) ≡ asks o (47 ∷ path)
asked None is path plain = ap (asks None) plain
asked (Some t) is path plain = ap (λ b. request_by_bearer b (path_of (47 ∷ path))) (borne t is) ∙ ap (asks (Some t)) plain

letter_byte : (b : ℕ) → is_lowercase_letter b ≡ true → is_name_byte b ≡ true
letter_byte b h = rw h refl

pub name_bytes : (name : List ℕ) → is_name name ≡ true → list_all is_name_byte name ≡ true
name_bytes [] h = absurd (true≢false (sym h))
name_bytes (b ∷ bs) h =
    let parts = and_parts (is_lowercase_letter b && list_all is_name_byte bs) (nat_le (length bs) 39) h in
    let front = and_parts (is_lowercase_letter b) (list_all is_name_byte bs) parts.0 in
    rw (letter_byte b front.0, front.1) refl

key_digit : (b : ℕ) → is_key_digit b ≡ true → is_name_byte b ≡ true
key_digit b h = grind (arith, nat_tests, h)

pub key_bytes : (key : List ℕ) → is_key key ≡ true → list_all is_name_byte key ≡ true
key_bytes key h = weaker is_key_digit is_name_byte key_digit key (and_parts (length key == 64) (list_all is_key_digit key) h).1

byte_no_slash : (b : ℕ) → is_name_byte b ≡ true → (b == 47) ≡ false
byte_no_slash b h = grind (arith, nat_tests, h)

byte_no_query : (b : ℕ) → is_name_byte b ≡ true → (b == 63) ≡ false
byte_no_query b h = grind (arith, nat_tests, h)

no_slash : (w : List ℕ) → list_all is_name_byte w ≡ true → has_slash w ≡ false
no_slash [] h = refl
no_slash (b ∷ bs) h =
    let parts = and_parts (is_name_byte b) (list_all is_name_byte bs) h in
    rw (byte_no_slash b parts.0) (no_slash bs parts.1)

path_on : (w rest : List ℕ) → list_all is_name_byte w ≡ true → path_of (w ++ rest) ≡ w ++ path_of rest
path_on [] rest h = refl
path_on (b ∷ bs) rest h =
    let parts = and_parts (is_name_byte b) (list_all is_name_byte bs) h in
    rw (byte_no_query b parts.0) (ap (λ (more : List ℕ). b ∷ more) (path_on bs rest parts.1))

-- ---- the path of a list, and of a message

module _ (name : List ℕ) (is : is_name name ≡ true) where
  plain_path : (rest : List ℕ) → path_of (47 ∷ rest) ≡ 47 ∷ rest → path_of (list_path name (47 ∷ rest)) ≡ list_path name (47 ∷ rest)
  plain_path rest plain =
      ap (λ (l : List ℕ). codes "/l/" ++ l) (path_on name (47 ∷ rest) (name_bytes name is) ∙ ap (λ (l : List ℕ). name ++ l) plain)

  listed : (n : List ℕ) (rest : List (List ℕ)) → is_name n ≡ true → route_of_segments ([] ∷ codes "l" ∷ n ∷ rest) ≡ list_route n rest
  listed [] rest h = absurd (true≢false (sym h))
  listed (b ∷ bs) rest h = refl

  routed : (rest : List ℕ) → route_of (list_path name (47 ∷ rest)) ≡ list_route name (segments rest)
  routed rest = ap (λ (parts : List (List ℕ)). route_of_segments ([] ∷ codes "l" ∷ parts)) (segments-parted name rest (no_slash name (name_bytes name is)))
      ∙ listed name (segments rest) is

  pub mbox_routed : route_of (list_path name (codes "/mbox")) ≡ Some (mbox name)
  mbox_routed = routed (codes "mbox")

  pub threads_routed : route_of (list_path name (codes "/threads")) ≡ Some (threads name)
  threads_routed = routed (codes "threads")

  module _ (key : List ℕ) (keyed : is_key key ≡ true) where
    given_key : (k : List ℕ) → is_key k ≡ true → some_if_nonempty k (message name k) ≡ Some (message name k)
    given_key [] h = absurd (true≢false (sym h))
    given_key (b ∷ bs) h = refl

    pub message_routed : route_of (list_path name (codes "/m/" ++ key)) ≡ Some (message name key)
    message_routed = routed (codes "m/" ++ key)
        ∙ ap (λ (parts : List (List ℕ)). list_route name (codes "m" ∷ parts)) (segments-whole key (no_slash key (key_bytes key keyed)))
        ∙ given_key key keyed

    key_path : path_of (codes "/m/" ++ key) ≡ codes "/m/" ++ key
    key_path = ap (λ (l : List ℕ). codes "/m/" ++ l) (ap path_of (sym (append-nil key)) ∙ path_on key [] (key_bytes key keyed) ∙ append-nil key)

    pub message_path : path_of (list_path name (codes "/m/" ++ key)) ≡ list_path name (codes "/m/" ++ key)
    message_path = plain_path (codes "m/" ++ key) key_path

  pub mbox_path : path_of (list_path name (codes "/mbox")) ≡ list_path name (codes "/mbox")
  mbox_path = plain_path (codes "mbox") refl

  pub threads_path : path_of (list_path name (codes "/threads")) ≡ list_path name (codes "/threads")
  threads_path = plain_path (codes "threads") refl
