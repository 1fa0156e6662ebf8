-- What a request asks for, as a function of its head alone (RFC 9110, sections 7.1, 9.3.1 and 11.6.2).
use Rattle.std.specs.Prelude.{ℕ, ◌==◌, Bool, false, not, if◌then◌else◌, List, [], ◌∷◌, map, bytes_eq, codes, Option, Some, None}
use Rattle.httparse.specs.Grammar.{RequestHead}
use Rattle.httparse.specs.Spans.{name_and_value}
use Rattle.archive_requests.specs.Bearer.{NamedValue, Bearer, nobody, token, no_token, doubled, bearer_in_fields}

-- `bad`: 400, the target begins with no slash, or more than one Authorization field; `other_method`: 405, not GET;
-- `unauthorized`: 401, an Authorization field that holds no token; `asks`: for a path, as nobody or by a token
pub data Request : Type 0 where
  bad : Request
  other_method : Request
  unauthorized : Request
  asks : (token : Option (List ℕ)) → (path : List ℕ) → Request

-- what stands before the first `?` of a target (RFC 3986, section 3.4)
abbrev pub path_of : List ℕ → List ℕ
path_of [] = []
path_of (b ∷ bs) = if b == 63 then [] else b ∷ path_of bs

abbrev pub begins_with_slash : List ℕ → Bool
begins_with_slash [] = false
begins_with_slash (b ∷ bs) = b == 47

abbrev pub request_by_bearer : Bearer → (path : List ℕ) → Request
request_by_bearer nobody path = asks None path
request_by_bearer (token text) path = asks (Some text) path
request_by_bearer no_token path = unauthorized
request_by_bearer doubled path = bad

-- the target, then the method, then who asks
abbrev pub request_of_parts : (method target : List ℕ) → List NamedValue → Request
request_of_parts method target fields =
    if not (begins_with_slash target) then bad
    else if not (bytes_eq method (codes "GET")) then other_method
    else request_by_bearer (bearer_in_fields fields) (path_of target)

abbrev pub request_of : RequestHead → Request
request_of h = request_of_parts h.method h.target (map name_and_value h.fields)
