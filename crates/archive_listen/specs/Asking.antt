-- What the system was asked for where connections come from, and who is at fault where it gave none.
use Rattle.std.specs.Prelude.{ℕ, ◌+◌, List, [], ◌++◌, ◌∷◌, Option, Some, None, Result, Ok, Err}
use Rattle.std.specs.declared.time.Instant.{Instant}
use Rattle.std_io.specs.declared.io.kind.ErrorKind.{ErrorKind}
use Rattle.std_io.specs.declared.io.kind.ErrorKind.TheVariants.{ConnectionAborted, ConnectionReset, HostUnreachable, Interrupted, NetworkDown, NetworkUnreachable, TimedOut}
use Rattle.archive_listen.specs.declared.faults.AcceptError.{AcceptError}
use Rattle.archive_listen.specs.declared.faults.AcceptError.TheVariants.{Peer, Listener}

-- how often the system was asked for a connection, the kinds of the errors that it gave in place of one, in their order, and when it last gave one
pub record AcceptState : Type 0 where
  pub times : ℕ
  pub errors : List ErrorKind
  pub at : Option Instant

abbrev pub no_accept_calls : AcceptState
no_accept_calls = record { times = 0; errors = []; at = None }

-- It was asked once more, and gave a connection at this time, or an error of this kind.
abbrev pub after_accept_call : Result Instant ErrorKind → AcceptState → AcceptState
after_accept_call (Ok at) asked = record asked { times = asked.times + 1; at = Some at }
after_accept_call (Err kind) asked = record asked { times = asked.times + 1; errors = asked.errors ++ kind ∷ [] }

-- What an error in place of a connection stands for (accept(2)): these are of one connection, whose peer or network was gone, or of a signal, and the
-- next call may give another; after all others it could fail for ever.
abbrev pub accept_error_of_kind : ErrorKind → AcceptError
accept_error_of_kind ConnectionAborted = Peer
accept_error_of_kind ConnectionReset = Peer
accept_error_of_kind HostUnreachable = Peer
accept_error_of_kind Interrupted = Peer
accept_error_of_kind NetworkDown = Peer
accept_error_of_kind NetworkUnreachable = Peer
accept_error_of_kind TimedOut = Peer
accept_error_of_kind _ = Listener

-- why no connection is given, if none is
abbrev pub accept_error_of_result : Result Instant ErrorKind → Option AcceptError
accept_error_of_result (Ok at) = None
accept_error_of_result (Err kind) = Some (accept_error_of_kind kind)
