-- Worked examples of requests and of bearer tokens.
use Rattle.std.proofs.Common.{◌≡◌, ℕ, List, [], ◌∷◌, Some, None, refl, codes}
use Rattle.httparse.specs.Grammar.{RequestHead, Field, crlf, trim_ows}
use Rattle.archive_requests.specs.Requests.{bad, other_method, unauthorized, asks, request_of}

abbrev head : (method target : List ℕ) → List Field → RequestHead
head method target fields =
    record { blank = []; method = method; target = target; minor = 1; line_end = crlf; fields = fields; last = crlf }

abbrev field : (name value : List ℕ) → Field
field name value = record { name = name; raw = value; end = crlf }

abbrev get : (target : List ℕ) → RequestHead
get target = head (codes "GET") target []

-- GET / with one Authorization field
abbrev by : (value : List ℕ) → RequestHead
by value = head (codes "GET") (codes "/") (field (codes "Authorization") value ∷ [])

-- ---- the target

of_all_lists : request_of (get (codes "/")) ≡ asks None (codes "/")
of_all_lists = refl

-- `?` and what follows it are dropped, and nothing else
with_a_query : request_of (get (codes "/l/soc/mbox?a=/b?c#d")) ≡ asks None (codes "/l/soc/mbox")
with_a_query = refl

with_a_fragment : request_of (get (codes "/#top")) ≡ asks None (codes "/#top")
with_a_fragment = refl

-- escapes stay
with_an_escape : request_of (get (codes "/l/%73oc/mbox")) ≡ asks None (codes "/l/%73oc/mbox")
with_an_escape = refl

of_a_whole_server : request_of (get (codes "*")) ≡ bad
of_a_whole_server = refl

in_absolute_form : request_of (get (codes "http://localhost/")) ≡ bad
in_absolute_form = refl

a_query_alone : request_of (get (codes "?/")) ≡ bad
a_query_alone = refl

-- ---- the method

a_post : request_of (head (codes "POST") (codes "/") []) ≡ other_method
a_post = refl

in_small_letters : request_of (head (codes "get") (codes "/") []) ≡ other_method
in_small_letters = refl

a_longer_method : request_of (head (codes "GETS") (codes "/") []) ≡ other_method
a_longer_method = refl

-- the target is looked at before the method, and the method before the token
options_of_the_server : request_of (head (codes "OPTIONS") (codes "*") []) ≡ bad
options_of_the_server = refl

a_post_by_nobody_known : request_of (head (codes "POST") (codes "/") (field (codes "Authorization") [] ∷ [])) ≡ other_method
a_post_by_nobody_known = refl

-- ---- who asks

by_a_token : request_of (by (codes " Bearer 0123456789abcdef")) ≡ asks (Some (codes "0123456789abcdef")) (codes "/")
unfolding trim_ows
by_a_token = refl

-- in any case, after spaces, and with white space around the value
in_any_case : request_of (by (codes "  bEARER   0123456789abcdef \t")) ≡ asks (Some (codes "0123456789abcdef")) (codes "/")
unfolding trim_ows
in_any_case = refl

a_field_in_any_case : request_of (head (codes "GET") (codes "/") (field (codes "host") (codes "x") ∷ field (codes "aUTHORIZATION") (codes "Bearer 0123456789abcdef") ∷ []))
    ≡ asks (Some (codes "0123456789abcdef")) (codes "/")
unfolding trim_ows
a_field_in_any_case = refl

another_field : request_of (head (codes "GET") (codes "/") (field (codes "Proxy-Authorization") (codes "Bearer 0123456789abcdef") ∷ [])) ≡ asks None (codes "/")
unfolding trim_ows
another_field = refl

no_space : request_of (by (codes "Bearer0123456789abcdef")) ≡ unauthorized
unfolding trim_ows
no_space = refl

a_tab : request_of (by (codes "Bearer\t0123456789abcdef")) ≡ unauthorized
unfolding trim_ows
a_tab = refl

a_tab_after_a_space : request_of (by (codes "Bearer \t0123456789abcdef")) ≡ unauthorized
unfolding trim_ows
a_tab_after_a_space = refl

no_value : request_of (by []) ≡ unauthorized
unfolding trim_ows
no_value = refl

no_token_at_all : request_of (by (codes "Bearer ")) ≡ unauthorized
unfolding trim_ows
no_token_at_all = refl

another_scheme : request_of (by (codes "Basic bW86MDEyMzQ1Njc4OQ==")) ≡ unauthorized
unfolding trim_ows
another_scheme = refl

-- what no person can have as a token
a_short_text : request_of (by (codes "Bearer 0123456789abcde")) ≡ unauthorized
unfolding trim_ows
a_short_text = refl

two_tokens : request_of (by (codes "Bearer 0123456789abcdef 0123456789abcdef")) ≡ unauthorized
unfolding trim_ows
two_tokens = refl

two_fields : request_of (head (codes "GET") (codes "/") (field (codes "Authorization") (codes "Bearer 0123456789abcdef") ∷ field (codes "authorization") (codes "Bearer 0123456789abcdef") ∷ [])) ≡ bad
unfolding trim_ows
two_fields = refl

two_fields_without_a_token : request_of (head (codes "GET") (codes "/") (field (codes "Authorization") [] ∷ field (codes "Authorization") [] ∷ [])) ≡ bad
unfolding trim_ows
two_fields_without_a_token = refl
