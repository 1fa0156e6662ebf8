-- What becomes of the connections that the system gives.
use Rattle.std.specs.Prelude.{◌≡◌, ◌+◌, ℕ, List, length}
use Rattle.archive_listen.specs.Connections.{ConnectionTranscript, ConnectionResult}
use Rattle.archive_listen.specs.Serving.{ServerState, ServesEachConnection}
use Rattle.archive_listen.specs.Sockets.{CallsAcceptOnce, ClosesConnection, LoopbackState}

-- Each time that a listener asked the system between these states, it was given a connection, whose exchange it wrote down when it took it back, or
-- an error.
pub record AccountsForAcceptCalls (before after : LoopbackState) : Type 0 where
  pub answer_count : ℕ
  pub error_count : ℕ
  pub calls_are_counted : after.asked.times ≡ before.asked.times + answer_count + error_count
  pub exchanges_are_counted : length after.exchanges ≡ length before.exchanges + answer_count
  pub errors_are_counted : length after.asked.errors ≡ length before.asked.errors + error_count

-- so it is in each run of connections, whatever answers them: no connection that the system gave is dropped unanswered
abbrev pub EachAcceptedIsAnswered : {St : Type 0} → (answers : St → St → ConnectionTranscript → ConnectionTranscript → ConnectionResult → Type 0) → Type 0
EachAcceptedIsAnswered {St} answers = (outcomes : List ConnectionResult) (first last : ServerState LoopbackState St)
    → ServesEachConnection answers CallsAcceptOnce ClosesConnection outcomes first last → AccountsForAcceptCalls first.listener last.listener
