-- Who asks: the bearer token of a request (RFC 6750, section 2.1; RFC 9110, section 11.6.2).
use Rattle.std.specs.Prelude.{ℕ, ◌==◌, Bool, false, ◌&&◌, if◌then◌else◌, List, [], ◌∷◌, take, drop, codes}
use Rattle.std.specs.List.{filter}
use Rattle.std.specs.Str.{str_eq_ignore_ascii_case}
use Rattle.archive_model.specs.BearerTokens.{is_token}

-- `nobody`: no Authorization field; `token`: one that holds a token; `no_token`: one that holds none; `doubled`: more than one
pub data Bearer : Type 0 where
  nobody : Bearer
  token : (text : List ℕ) → Bearer
  no_token : Bearer
  doubled : Bearer

-- a field as its name and its value, without the white space around the value
abbrev pub NamedValue : Type 0
NamedValue = List ℕ × List ℕ

-- the name in any case
abbrev pub is_authorization : NamedValue → Bool
is_authorization field = str_eq_ignore_ascii_case field.0 (codes "authorization")

abbrev pub skip_spaces : List ℕ → List ℕ
skip_spaces [] = []
skip_spaces (b ∷ bs) = if b == 32 then skip_spaces bs else b ∷ bs

abbrev pub begins_with_space : List ℕ → Bool
begins_with_space [] = false
begins_with_space (b ∷ bs) = b == 32

-- `Bearer` in any case, and a space
abbrev pub begins_with_bearer : List ℕ → Bool
begins_with_bearer value = str_eq_ignore_ascii_case (take 6 value) (codes "bearer") && begins_with_space (drop 6 value)

-- profile: a text that no person can have as a token is none
abbrev pub token_if_valid : List ℕ → Bearer
token_if_valid text = if is_token text then token text else no_token

-- the value of an Authorization field: the token is what follows `Bearer` and one space or more
abbrev pub bearer_in_field_value : (value : List ℕ) → Bearer
bearer_in_field_value value = if begins_with_bearer value then token_if_valid (skip_spaces (drop 6 value)) else no_token

-- of the Authorization fields
abbrev pub bearer_in_auth_fields : List NamedValue → Bearer
bearer_in_auth_fields [] = nobody
bearer_in_auth_fields (field ∷ []) = bearer_in_field_value field.1
bearer_in_auth_fields (field ∷ other ∷ fields) = doubled

-- of all fields
abbrev pub bearer_in_fields : List NamedValue → Bearer
bearer_in_fields fields = bearer_in_auth_fields (filter is_authorization fields)
