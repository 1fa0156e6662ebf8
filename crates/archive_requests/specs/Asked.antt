-- A request of the code, as the definitions name it.
use Rattle.std.specs.Prelude.{option_map}
use Rattle.archive_requests.specs.Bearer.{Bearer, nobody, token, no_token, doubled}
use Rattle.archive_requests.specs.Requests.{Request, bad, other_method, unauthorized, asks}
use Rattle.archive_requests.specs.declared.bearer.Bearer.{Bearer as FoundBearer}
use Rattle.archive_requests.specs.declared.bearer.Bearer.TheVariants as found
use Rattle.archive_requests.specs.declared.requests.Request.{Request as FoundRequest}
use Rattle.archive_requests.specs.declared.requests.Request.TheVariants as read

abbrev pub model_bearer : FoundBearer → Bearer
model_bearer found.Nobody = nobody
model_bearer (found.Token text) = token text.now
model_bearer found.NoToken = no_token
model_bearer found.Doubled = doubled

abbrev pub model_request : FoundRequest → Request
model_request read.Bad = bad
model_request read.OtherMethod = other_method
model_request read.Unauthorized = unauthorized
model_request (read.Asks by path) = asks (option_map (λ t. t.now) by) path.now
