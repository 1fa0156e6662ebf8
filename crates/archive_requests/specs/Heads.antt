-- The head that some bytes begin with, within 8,192 bytes and 64 fields (RFC 9112, sections 2 to 5; RFC 6585, section 5, for
-- 431; profile: the two bounds).
use Rattle.std.specs.Prelude.{◌≡◌, ◌≢◌, ◌≤◌, ◌<◌, ◌++◌, ◌⊎◌, ℕ, List, length, take, slice_index, ⊤}
use Rattle.httparse.specs.Grammar.{RequestHead, ReadsRequest, print_request, HasNoRequest}
use Rattle.httparse.specs.Spans.{IsRequestAt, IsRequestWithin, RequestExceeds}
use Rattle.archive_requests.specs.declared.heads.Head.{Head}
use Rattle.archive_requests.specs.declared.heads.HeadRead.{HeadRead}
use Rattle.archive_requests.specs.declared.heads.HeadRead.TheVariants.{Whole, Bad, TooLarge}

-- the bytes begin with this head, of at most 8,192 bytes and 64 fields
pub record BeginsWithHead (given : List ℕ) (head : RequestHead) : Type 0 where
  pub after_head : List ℕ
  pub reads_head : ReadsRequest given head after_head
  pub at_most_8192 : length (print_request head) ≤ 8192
  pub at_most_64_fields : length head.fields ≤ 64

-- the bytes begin with a head of at most 8,192 bytes, but of more than 64 fields
pub record BeginsWithTooManyFields (given : List ℕ) (head : RequestHead) : Type 0 where
  pub after_head : List ℕ
  pub reads_head : ReadsRequest given head after_head
  pub at_most_8192 : length (print_request head) ≤ 8192
  pub over_64_fields : 64 < length head.fields

-- some bytes can follow that make the bytes begin with a head
abbrev pub CanBecomeHead : List ℕ → Type 0
CanBecomeHead given = (more : List ℕ) × (h : RequestHead) × (rest : List ℕ) × ReadsRequest (given ++ more) h rest

-- the spans are those of this head in the bytes
pub record HasSpansOfHead (given : List ℕ) (h : RequestHead) (head : Head) : Type 0 where
  pub filled_is_length : head.filled ≡ length given
  pub spans_in_range : IsRequestWithin given head.fields head.spans
  pub spans_give_head : IsRequestAt given head.fields head.spans h

-- no line feed is among the bytes
abbrev pub HasNoLineFeed : List ℕ → Type 0
HasNoLineFeed bytes = (k : ℕ) → k < length bytes → slice_index bytes k ≢ 10

-- it is the head h
abbrev pub IsReadOfHead : List ℕ → RequestHead → HeadRead → Type 0
IsReadOfHead given h (Whole head) = HasSpansOfHead given h head
IsReadOfHead given h Bad = ⊥
IsReadOfHead given h TooLarge = ⊥

-- P of a head that was read
abbrev pub IfHeadRead : HeadRead → (Head → Type 0) → Type 0
IfHeadRead (Whole head) P = P head
IfHeadRead Bad P = ⊤
IfHeadRead TooLarge P = ⊤

-- What was read of an input whose bytes are all of these, of which the given ones came.
pub record IsHeadReadOfInput (given all : List ℕ) (read : HeadRead) : Type 0 where
  -- the head that the input begins with, and no other
  pub when_head : (h : RequestHead) → BeginsWithHead all h → IsReadOfHead given h read
  pub when_read : IfHeadRead read (λ head. (h : RequestHead) × BeginsWithHead given h × HasSpansOfHead given h head)
  -- too large where it begins with a head of more fields
  pub when_too_many_fields : (h : RequestHead) → BeginsWithTooManyFields all h → read ≡ TooLarge
  -- too large where its first 8,192 bytes hold no head and could still become one
  pub when_too_long : 8192 ≤ length all → HasNoRequest (take 8192 all) → CanBecomeHead (take 8192 all) → read ≡ TooLarge
  -- and else only where so many bytes came, or more than 64 whole fields
  pub too_large_means_too_long : read ≡ TooLarge → (8192 ≤ length given) ⊎ RequestExceeds 64 given

-- Whatever bytes follow, it is what the whole input is read as.
abbrev pub IsHeadReadFinal : List ℕ → HeadRead → Type 0
IsHeadReadFinal given read = (more : List ℕ) → IsHeadReadOfInput given (given ++ more) read
