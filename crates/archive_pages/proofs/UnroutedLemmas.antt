-- What is answered to nobody who asks for a path that no route fits.
use Rattle.std.proofs.Common.{◌≡◌, ◌++◌, refl, subst, ℕ, true, false, List, Result, Option, Some, None}
use Rattle.std.specs.Prelude.{IfSome, if◌then◌else◌}
use Rattle.std.specs.Option.{is_none}
use Rattle.archive_requests.specs.Asked.{model_request}
use Rattle.archive_requests.specs.Reading.{IsRequestReadOfInput}
use Rattle.archive_requests.specs.Requests.{asks}
use Rattle.archive_requests.specs.Routes.{Route, route_of}
use Rattle.archive_requests.specs.declared.requests.Request.{Request as Asked}
use Rattle.archive_requests.specs.declared.reading.RequestRead.TheVariants.{Whole, Malformed, TooLarge}
use Rattle.archive_pages.specs.Replies.{Reply, SendsReply, not_found}
use Rattle.archive_pages.specs.Answers.{unrouted_reply}
use Rattle.archive_pages.specs.Answered.{Sends404IfUnrouted}
use Rattle.archive_pages.specs.declared.faults.ServeFault.{ServeFault}

-- ---- where routes are given

-- whatever they are
pub with_any : {A : Type 0} (routes : Option A) {X : Type 0} → X → IfSome routes (λ _. X)
with_any (Some routes) x = x
with_any None x = tt

pub with_same : {A : Type 0} (routes : Option A) {X Y : Type 0} → (X → Y) → IfSome routes (λ _. X) → IfSome routes (λ _. Y)
with_same (Some routes) f x = f x
with_same None f x = tt

-- where they refuse nothing
pub with_none : {A : Type 0} (routes : Option A) (X : Type 0) → IfSome routes (λ _. false ≡ true) → IfSome routes (λ _. X)
with_none (Some routes) X made = absurd (cc)
with_none None X made = tt

-- ---- a path that no route fits

pub with_route : {A R : Type 0} (routes : Option A) (route : R) (fits : Option R) (X : Type 0) → Some route ≡ fits → IfSome routes (λ _. fits ≡ None → X)
with_route routes route fits X is = with_any routes (λ none. absurd (cc))

by_route : (P : Reply → Type 0) (route : Option Route) → (route ≡ None → P not_found) → IfSome (if is_none route then Some not_found else None) P
by_route P None says = says refl
by_route P (Some route) says = tt

pub unrouted_nobody : (P : Reply → Type 0) (path : List ℕ) → (route_of path ≡ None → P not_found) → IfSome (unrouted_reply (asks None path)) P
unrouted_nobody P path says = by_route P (route_of path) says

-- ---- what was read of a head

module _ (given more before after : List ℕ) (result : Result ℕ ServeFault) where
  pub unrouted_whole : (request : Asked) → IsRequestReadOfInput given (given ++ more) (Whole request)
      → IfSome (unrouted_reply (model_request request)) (λ wanted. SendsReply (λ reply. reply ≡ wanted) before after result) → Sends404IfUnrouted (given ++ more) before after result
  unrouted_whole request is sent =
      λ h begins. subst (λ q. IfSome (unrouted_reply q) (λ wanted. SendsReply (λ reply. reply ≡ wanted) before after result)) (is.when_head h begins) sent

  pub unrouted_bad : IsRequestReadOfInput given (given ++ more) Malformed → Sends404IfUnrouted (given ++ more) before after result
  unrouted_bad is = λ h begins. absurd (is.when_head h begins)

  pub unrouted_large : IsRequestReadOfInput given (given ++ more) TooLarge → Sends404IfUnrouted (given ++ more) before after result
  unrouted_large is = λ h begins. absurd (is.when_head h begins)
