-- Bearer tokens in the fields of a head.
use Rattle.std.proofs.Common.{◌≡◌, ℕ, ◌<◌, ◌==◌, Bool, true, false, ◌&&◌, ◌+◌, Option, Some, None, List, [], ◌∷◌, ◌++◌, length, map, get_or, take, drop, refl, sym, ap, subst, ◌∙◌, arith, nat_le}
use Rattle.std.specs.List.{list_all, filter}
use Rattle.std.specs.Option.{is_some}
use Rattle.std.proofs.lemmas.List.{take_more, drop_more, map-append, append-nil, take-append-drop}
use Rattle.std.proofs.lemmas.List.Elements.{filter-append}
use Rattle.std.specs.Str.{IsAscii, IsUtf8}
use Rattle.std.proofs.lemmas.Bool.{and_parts, true≢false, false≢true}
use Rattle.std.proofs.lemmas.Bool.Decides.{nat_tests}
use Rattle.std.proofs.lemmas.Str.{IsUtf8-from_ascii}
use Rattle.std.proofs.lemmas.Str.Ascii.{IsAscii-nil, IsAscii-cons}
use Rattle.archive_model.specs.BearerTokens.{is_token, is_b64token, is_token_bytes_then_padding, is_padding, is_token_byte}
use Rattle.httparse.specs.Spans.{IsWithin, span_bytes, header_bytes}
use Rattle.httparse.specs.declared.spans.Span.{Span}
use Rattle.httparse.specs.declared.spans.HeaderSpan.{HeaderSpan}
use Rattle.archive_requests.specs.Bearer.{NamedValue, is_authorization, doubled, bearer_in_auth_fields, bearer_in_fields}

-- ---- tokens are ASCII

ascii_byte : (b : ℕ) → is_token_byte b ≡ true → b < 128
ascii_byte b h = grind (arith, nat_tests, h)

ascii_padding : (bs : List ℕ) → is_padding bs ≡ true → IsAscii bs
ascii_padding [] h = IsAscii-nil
ascii_padding (b ∷ bs) h =
    let parts = and_parts (b == 61) (list_all (λ c. c == 61) bs) h in
    let first = parts.0 in
    IsAscii-cons b bs (grind (arith, nat_tests, first)) (ascii_padding bs parts.1)

passed : (b : ℕ) (bs : List ℕ) → is_token_byte b ≡ true → is_token_bytes_then_padding (b ∷ bs) ≡ is_token_bytes_then_padding bs
passed b bs e = rw e refl

ended : (b : ℕ) (bs : List ℕ) → is_token_byte b ≡ false → is_token_bytes_then_padding (b ∷ bs) ≡ is_padding (b ∷ bs)
ended b bs e = rw e refl

ascii_padded : (bs : List ℕ) → is_token_bytes_then_padding bs ≡ true → IsAscii bs
ascii_padded [] h = IsAscii-nil
ascii_padded (b ∷ bs) h = by (is_token_byte b) refl (ascii_padded bs)
  where
    by : (t : Bool) → is_token_byte b ≡ t → (is_token_bytes_then_padding bs ≡ true → IsAscii bs) → IsAscii (b ∷ bs)
    by true e rest = IsAscii-cons b bs (ascii_byte b e) (rest (sym (passed b bs e) ∙ h))
    by false e rest = ascii_padding (b ∷ bs) (sym (ended b bs e) ∙ h)

ascii_b64token : (bs : List ℕ) → is_b64token bs ≡ true → IsAscii bs
ascii_b64token [] h = IsAscii-nil
ascii_b64token (b ∷ bs) h =
    let parts = and_parts (is_token_byte b) (is_token_bytes_then_padding bs) h in
    IsAscii-cons b bs (ascii_byte b parts.0) (ascii_padded bs parts.1)

pub IsUtf8-token : (bs : List ℕ) → is_token bs ≡ true → IsUtf8 bs
IsUtf8-token bs h =
    IsUtf8-from_ascii bs (ascii_b64token bs (and_parts (nat_le 16 (length bs) && nat_le (length bs) 64) (is_b64token bs) h).1)

-- ---- the fields

-- the span of the value of the only field so far
abbrev pub IsFound : List ℕ → Option Span → List NamedValue → Type 0
IsFound bytes None fields = fields ≡ []
IsFound bytes (Some span) fields = IsWithin (length bytes) span × (name : List ℕ) × (fields ≡ (name, span_bytes bytes span) ∷ [])

abbrev pub nowhere : HeaderSpan
nowhere = record { name = record { start = 0; end = 0 }; value = record { start = 0; end = 0 } }

-- the Authorization fields among some spans
abbrev pub found_in : List ℕ → List HeaderSpan → List NamedValue
found_in bytes fields = filter is_authorization (map (header_bytes bytes) fields)

found-append : (bytes : List ℕ) (xs ys : List HeaderSpan) → found_in bytes (xs ++ ys) ≡ found_in bytes xs ++ found_in bytes ys
found-append bytes xs ys =
    ap (filter is_authorization) (map-append (header_bytes bytes) xs ys)
    ∙ filter-append is_authorization (map (header_bytes bytes) xs) (map (header_bytes bytes) ys)

none_more : (bytes : List ℕ) (h : HeaderSpan) → is_authorization (header_bytes bytes h) ≡ false → found_in bytes (h ∷ []) ≡ []
none_more bytes h no_match = rw no_match refl

one_more : (bytes : List ℕ) (h : HeaderSpan) → is_authorization (header_bytes bytes h) ≡ true → found_in bytes (h ∷ []) ≡ header_bytes bytes h ∷ []
one_more bytes h match = rw match refl

more : (bytes : List ℕ) (fields : List HeaderSpan) (i : ℕ) (d : HeaderSpan) → i < length fields
    → found_in bytes (take (i + 1) fields) ≡ found_in bytes (take i fields) ++ found_in bytes (get_or fields i d ∷ [])
more bytes fields i d lt =
    ap (found_in bytes) (take_more fields i d lt) ∙ found-append bytes (take i fields) (get_or fields i d ∷ [])

-- another field changes nothing
pub IsFound-kept : (bytes : List ℕ) (fields : List HeaderSpan) (i : ℕ) (d : HeaderSpan) (found : Option Span) → i < length fields
    → is_authorization (header_bytes bytes (get_or fields i d)) ≡ false
    → IsFound bytes found (found_in bytes (take i fields)) → IsFound bytes found (found_in bytes (take (i + 1) fields))
IsFound-kept bytes fields i d found lt no_match so_far =
    let same : found_in bytes (take (i + 1) fields) ≡ found_in bytes (take i fields) =
    more bytes fields i d lt ∙ ap (λ t. found_in bytes (take i fields) ++ t) (none_more bytes (get_or fields i d) no_match) ∙ append-nil _ in
    subst (IsFound bytes found) (sym same) so_far

-- the first one is found
pub IsFound-first : (bytes : List ℕ) (fields : List HeaderSpan) (i : ℕ) (d : HeaderSpan) (found : Option Span) → i < length fields
    → is_authorization (header_bytes bytes (get_or fields i d)) ≡ true → IsWithin (length bytes) (get_or fields i d).value
    → is_some found ≡ false → IsFound bytes found (found_in bytes (take i fields))
    → IsFound bytes (Some (get_or fields i d).value) (found_in bytes (take (i + 1) fields))
IsFound-first bytes fields i d (Some span) lt match inside other so_far = absurd (true≢false other)
IsFound-first bytes fields i d None lt match inside none so_far = (
  inside,
  span_bytes bytes (get_or fields i d).name,
  more bytes fields i d lt ∙ ap (λ t. t ++ found_in bytes (get_or fields i d ∷ [])) so_far ∙ one_more bytes (get_or fields i d) match,
)

two_more : (a : NamedValue) (b : NamedValue) (xs fs more : List NamedValue) → xs ≡ a ∷ [] → fs ≡ xs ++ b ∷ more → doubled ≡ bearer_in_auth_fields fs
two_more a b xs fs more e f = rw (f, e) refl

-- a second one makes it two
pub found_twice : (bytes : List ℕ) (fields : List HeaderSpan) (i : ℕ) (d : HeaderSpan) (found : Option Span) → i < length fields
    → is_authorization (header_bytes bytes (get_or fields i d)) ≡ true → is_some found ≡ true
    → IsFound bytes found (found_in bytes (take i fields)) → doubled ≡ bearer_in_fields (map (header_bytes bytes) fields)
found_twice bytes fields i d None lt match other so_far = absurd (false≢true other)
found_twice bytes fields i d (Some span) lt match some so_far =
    let cut = ap (found_in bytes) (sym (take-append-drop i fields)) ∙ found-append bytes (take i fields) (drop i fields) in
    let next = ap (found_in bytes) (drop_more fields i d lt) ∙ found-append bytes (get_or fields i d ∷ []) (drop (i + 1) fields)
    ∙ ap (λ t. t ++ found_in bytes (drop (i + 1) fields)) (one_more bytes (get_or fields i d) match) in
    two_more _ (header_bytes bytes (get_or fields i d)) (found_in bytes (take i fields)) (found_in bytes fields) (found_in bytes (drop (i + 1) fields))
    so_far.2 (cut ∙ ap (λ t. found_in bytes (take i fields) ++ t) next)
