-- What is read of a request, as a function of the bytes that come (RFC 9112, section 3; RFC 6585, section 5).
use Rattle.std.specs.Prelude.{◌≡◌, ◌≤◌, ◌++◌, ◌⊎◌, ℕ, List, length, take, ⊤}
use Rattle.httparse.specs.Grammar.{RequestHead, HasNoRequest}
use Rattle.httparse.specs.Spans.{RequestExceeds}
use Rattle.archive_requests.specs.Asked.{model_request}
use Rattle.archive_requests.specs.Heads.{BeginsWithHead, BeginsWithTooManyFields, CanBecomeHead}
use Rattle.archive_requests.specs.Requests.{request_of}
use Rattle.archive_requests.specs.declared.reading.RequestRead.{RequestRead}
use Rattle.archive_requests.specs.declared.reading.RequestRead.TheVariants.{Whole, Malformed, TooLarge}

-- it is what this head asks for
abbrev pub IsRequestOfHead : RequestHead → RequestRead → Type 0
IsRequestOfHead h (Whole request) = model_request request ≡ request_of h
IsRequestOfHead h Malformed = ⊥
IsRequestOfHead h TooLarge = ⊥

-- a whole head was read only where the bytes begin with one
abbrev pub IsRequestOfGivenHead : List ℕ → RequestRead → Type 0
IsRequestOfGivenHead given (Whole request) = (h : RequestHead) × BeginsWithHead given h × (model_request request ≡ request_of h)
IsRequestOfGivenHead given Malformed = ⊤
IsRequestOfGivenHead given TooLarge = ⊤

-- What was read of an input whose bytes are all of these, of which the given ones came.
pub record IsRequestReadOfInput (given all : List ℕ) (read : RequestRead) : Type 0 where
  -- what the head that the input begins with asks for, and else no request
  pub when_head : (h : RequestHead) → BeginsWithHead all h → IsRequestOfHead h read
  pub when_read : IsRequestOfGivenHead given read
  -- too large where it begins with a head of more fields
  pub when_too_many_fields : (h : RequestHead) → BeginsWithTooManyFields all h → read ≡ TooLarge
  -- too large where its first 8,192 bytes hold no head and could still become one
  pub when_too_long : 8192 ≤ length all → HasNoRequest (take 8192 all) → CanBecomeHead (take 8192 all) → read ≡ TooLarge
  -- and else only where so many bytes came, or more than 64 whole fields
  pub too_large_means_too_long : read ≡ TooLarge → (8192 ≤ length given) ⊎ RequestExceeds 64 given

-- Whatever bytes follow, it is what is read of the whole input.
abbrev pub IsRequestReadFinal : List ℕ → RequestRead → Type 0
IsRequestReadFinal given read = (more : List ℕ) → IsRequestReadOfInput given (given ++ more) read
