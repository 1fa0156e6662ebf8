-- From the head that was read to the request.
use Rattle.std.proofs.Common.{◌≡◌, ◌≤◌, ◌+◌, ◌++◌, ◌⊎◌, ◌∙◌, inl, inr, ℕ, List, [], length, take, refl, sym, ap, subst, arith}
use Rattle.std.proofs.lemmas.List.{length-take}
use Rattle.httparse.specs.Grammar.{RequestHead, HasNoRequest}
use Rattle.httparse.specs.Spans.{IsRequestWithin}
use Rattle.archive_requests.specs.Asked.{model_request}
use Rattle.archive_requests.specs.Heads.{BeginsWithHead, HasSpansOfHead, IsHeadReadOfInput, IsHeadReadFinal}
use Rattle.archive_requests.specs.Reading.{IsRequestReadOfInput, IsRequestReadFinal}
use Rattle.archive_requests.specs.Requests.{request_of}
use Rattle.archive_requests.specs.declared.heads.Head.{Head}
use Rattle.archive_requests.specs.declared.heads.HeadRead.{HeadRead}
use Rattle.archive_requests.specs.declared.heads.HeadRead.TheVariants as heads
use Rattle.archive_requests.specs.declared.requests.Request.{Request}
use Rattle.archive_requests.specs.declared.reading.RequestRead.{RequestRead}
use Rattle.archive_requests.specs.declared.reading.RequestRead.TheVariants as requests

-- the request is what the head that was read asks for
pub data Carries (given : List ℕ) : HeadRead → RequestRead → Type 0 where
  whole : (head : Head) (request : Request) → ((h : RequestHead) → HasSpansOfHead given h head → model_request request ≡ request_of h)
      → Carries given (heads.Whole head) (requests.Whole request)
  bad : Carries given heads.Bad requests.Malformed
  large : Carries given heads.TooLarge requests.TooLarge

request_as : (given all : List ℕ) (read : HeadRead) (request : RequestRead) → Carries given read request
    → IsHeadReadOfInput given all read → IsRequestReadOfInput given all request
request_as given all _ _ (whole head request says) x = record {
  when_head = λ h b. says h (x.when_head h b);
  when_read = (x.when_read.0, x.when_read.1, says x.when_read.0 x.when_read.2);
  when_too_many_fields = λ h e. absurd (let no : heads.Whole head ≡ heads.TooLarge = x.when_too_many_fields h e in cc);
  when_too_long = λ l n c. absurd (let no : heads.Whole head ≡ heads.TooLarge = x.when_too_long l n c in cc);
  too_large_means_too_long = λ e. absurd (let no : requests.Whole request ≡ requests.TooLarge = e in cc);
}
request_as given all _ _ bad x = record {
  when_head = λ h b. x.when_head h b;
  when_read = tt;
  when_too_many_fields = λ h e. absurd (let no : heads.Bad ≡ heads.TooLarge = x.when_too_many_fields h e in cc);
  when_too_long = λ l n c. absurd (let no : heads.Bad ≡ heads.TooLarge = x.when_too_long l n c in cc);
  too_large_means_too_long = λ e. absurd (let no : requests.Malformed ≡ requests.TooLarge = e in cc);
}
request_as given all _ _ large x = record {
  when_head = λ h b. x.when_head h b;
  when_read = tt;
  when_too_many_fields = λ h e. refl;
  when_too_long = λ l n c. refl;
  too_large_means_too_long = λ e. x.too_large_means_too_long refl;
}

module _ (before after : List ℕ) (met meets : ℕ) where
  -- what `read_head` says of its answer
  abbrev pub Came : List ℕ → HeadRead → Type 0
  Came buffer read = (given : List ℕ) × (after ≡ before ++ given) × (given ≡ take (length given) buffer)
      × (((meets ≡ met + 1) × HasNoRequest given × IsHeadReadOfInput given given read) ⊎ ((meets ≡ met) × IsHeadReadFinal given read))

  -- what `read_request` says of its answer
  abbrev pub Asked : RequestRead → Type 0
  Asked request = (given : List ℕ) × (after ≡ before ++ given)
      × (((meets ≡ met + 1) × HasNoRequest given × IsRequestReadOfInput given given request) ⊎ ((meets ≡ met) × IsRequestReadFinal given request))

  -- the head that was read
  pub came_whole : (buffer : List ℕ) (head : Head) (c : Came buffer (heads.Whole head))
      → (h : RequestHead) × BeginsWithHead c.0 h × HasSpansOfHead c.0 h head
  came_whole buffer head c =
      elim c.3 [
        | inl ended ↦ ended.2.when_read
        | inr settled ↦ (settled.1 []).when_read
      ]

  -- the bytes that came are the front of the buffer
  pub came_front : (buffer : List ℕ) (head : Head) (c : Came buffer (heads.Whole head)) → take head.filled buffer ≡ c.0
  came_front buffer head c = ap (λ n. take n buffer) (came_whole buffer head c).2.filled_is_length ∙ sym c.2

  pub came_fits : (buffer : List ℕ) (head : Head) → Came buffer (heads.Whole head) → head.filled ≤ length buffer
  came_fits buffer head c =
      let size = ap length c.2 ∙ length-take (length c.0) buffer in
      let filled = (came_whole buffer head c).2.filled_is_length in
      omega (arith, size, filled)

  pub came_within : (buffer : List ℕ) (head : Head) → Came buffer (heads.Whole head)
      → IsRequestWithin (take head.filled buffer) head.fields head.spans
  came_within buffer head c =
      subst (λ bytes. IsRequestWithin bytes head.fields head.spans) (sym (came_front buffer head c)) (came_whole buffer head c).2.spans_in_range

  pub asked : (buffer : List ℕ) (read : HeadRead) (request : RequestRead) (c : Came buffer read) → Carries c.0 read request → Asked request
  asked buffer read request c carries =
      elim c.3 [
        | inl ended ↦ (c.0, c.1, inl (ended.0, ended.1, request_as c.0 c.0 read request carries ended.2))
        | inr settled ↦ (c.0, c.1, inr (settled.0, λ more. request_as c.0 (c.0 ++ more) read request carries (settled.1 more)))
      ]

  pub asked_whole : (buffer : List ℕ) (head : Head) (request : Request) (c : Came buffer (heads.Whole head))
      → ((h : RequestHead) → HasSpansOfHead (take head.filled buffer) h head → model_request request ≡ request_of h) → Asked (requests.Whole request)
  asked_whole buffer head request c says =
      asked buffer (heads.Whole head) (requests.Whole request) c (whole head request (rw (came_front buffer head c) at says))
