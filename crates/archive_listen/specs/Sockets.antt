-- Sockets of the loopback interface, and the times that a peer has.
use Rattle.std.proofs.Common.{ap}
use Rattle.std.specs.Prelude.{◌≡◌, ◌<◌, ◌+◌, ◌*◌, ◌/◌, ◌⊎◌, ◌≤◌, ◌++◌, ℕ, length, Bool, true, false, List, [], ◌∷◌, Option, Some, Result, Ok, Err}
use Rattle.std.specs.Duration.{as_nanos}
use Rattle.std.specs.Net.Addr.{ipv4_octets}
use Rattle.std.specs.Net.Socket.{socket_ip, socket_port}
use Rattle.std.specs.declared.net.ip_addr.IpAddr.{IpAddr}
use Rattle.std.specs.declared.time.Instant.{Instant}
use Rattle.std_io.specs.declared.io.kind.ErrorKind.{ErrorKind}
use Rattle.std.specs.declared.net.ip_addr.IpAddr.TheVariants.{V4, V6}
use Rattle.std.specs.declared.net.socket_addr.SocketAddr.{SocketAddr}
use Rattle.archive_listen.specs.Asking.{AcceptState, after_accept_call, accept_error_of_result}
use Rattle.archive_listen.specs.Connections.{Exchange}
use Rattle.archive_listen.specs.declared.connections.BoundListener.{BoundListener}
use Rattle.archive_listen.specs.declared.faults.AcceptError.{AcceptError}
use Rattle.archive_listen.specs.declared.waiting.Span.{Span}
use Rattle.archive_listen.specs.declared.waiting.Waited.{Waited}

-- ---- what is read of a socket, and what is written to it

-- The bytes that it told, how often a read failed or met the end, when its time began, and how long after it the last wait could end, in
-- nanoseconds.
pub record InputState : Type 0 where
  pub since : Option Instant
  pub told : List ℕ
  pub failures : ℕ
  pub ends : ℕ
  pub latest : ℕ

-- its time began, and nothing was read of it
abbrev pub nothing_read : Instant → InputState
nothing_read at = record { since = Some at; told = []; failures = 0; ends = 0; latest = 0 }

-- the bytes that it took, how often a write failed, and how long after the first one the last wait could end, in nanoseconds
pub record OutputState : Type 0 where
  pub told : List ℕ
  pub failures : ℕ
  pub latest : ℕ

abbrev pub nothing_written : OutputState
nothing_written = record { told = []; failures = 0; latest = 0 }

-- ---- where it is listened

-- 127.0.0.1 (RFC 1122, section 3.2.1.3), which no other machine reaches
abbrev pub IsLocalhost : IpAddr → Type 0
IsLocalhost (V4 ip) = ipv4_octets ip ≡ 127 ∷ 0 ∷ 0 ∷ 1 ∷ []
IsLocalhost (V6 ip) = ⊥

-- An address that was had is the one that was asked for; but the system picks a port where port 0 was. No port that is had is 0.
pub record IsBoundAddress (asked had : SocketAddr) : Type 0 where
  pub ip_is_asked : socket_ip had ≡ socket_ip asked
  pub port_is_asked : (socket_port asked ≡ 0) ⊎ (socket_port had ≡ socket_port asked)
  pub port_is_positive : 0 < socket_port had

-- What listens: its address, as the system tells it, what went over the connections that it took back, in their order, and what it asked the
-- system for. How many it ended in order, and how long it could wait for the peer of the last one.
pub record LoopbackState : Type 0 where
  pub address : SocketAddr
  pub exchanges : List Exchange
  pub asked : AcceptState
  pub ended : ℕ
  pub waited : Waited

-- It listens on 127.0.0.1 alone, on the port that was asked for, or on one that the system picked where port 0 was. It took no
-- connection back yet.
pub record ListensOnLoopback (asked : ℕ) (loopback : LoopbackState) : Type 0 where
  pub is_localhost : IsLocalhost (socket_ip loopback.address)
  pub port_is_asked : (asked ≡ 0) ⊎ (socket_port loopback.address ≡ asked)
  pub port_is_positive : 0 < socket_port loopback.address
  pub no_exchange_yet : loopback.exchanges ≡ []

-- it does, and the port that is told is the one that it listens on
pub record ListensOnReportedPort (asked : ℕ) (listening : BoundListener LoopbackState) : Type 0 where
  pub listens_on_loopback : ListensOnLoopback asked listening.listener
  pub port_is_reported : listening.port ≡ socket_port listening.listener.address

-- `binds` holds of an address that a system was asked for, and of the address that it gave, or of the error in its place.
module _ (binds : SocketAddr → Result SocketAddr ErrorKind → Type 0) where
  -- The system was asked for an address, and gave an error, or another address.
  abbrev pub RefusesAddress : SocketAddr → Type 0
  RefusesAddress asked =
      ((kind : ErrorKind) × binds asked (Err kind)) ⊎ ((had : SocketAddr) × binds asked (Ok had) × (¬ IsBoundAddress asked had))

  -- It was asked for this port of 127.0.0.1, and refused it.
  pub record RefusesPort (port : ℕ) : Type 0 where
    pub asked : SocketAddr
    pub is_localhost : IsLocalhost (socket_ip asked)
    pub port_is_asked : socket_port asked ≡ port
    pub is_refused : RefusesAddress asked

-- the ports of a system: the system, and what went over each connection of the listeners that were ended, in their order
pub record PortsState (R : Type 0) : Type 0 where
  pub system : R
  pub exchanges : List Exchange

-- It asked the system once. It gives the connection that the system gave, or none, for what the error of the system stands for.
pub record CallsAcceptOnce (before after : LoopbackState) (fault : Option AcceptError) : Type 0 where
  pub answer : Result Instant ErrorKind
  pub state_is_after_call : after ≡ record before { asked = after_accept_call answer before.asked }
  pub fault_is_of_answer : fault ≡ accept_error_of_result answer

-- what stood written down stands
pub accept_keeps_exchanges : (before after : LoopbackState) (fault : Option AcceptError) → CallsAcceptOnce before after fault → after.exchanges ≡ before.exchanges
accept_keeps_exchanges before after fault accepted = ap (λ (l : LoopbackState). l.exchanges) accepted.state_is_after_call

-- one more that is ended in order, unless its reply broke off
abbrev pub graceful_closes_after : (broke_off : Bool) → ℕ → ℕ
graceful_closes_after true ended = ended
graceful_closes_after false ended = ended + 1

-- how many seconds a whole reply may take, from its first write on, where so many bytes of it were written: thirty, and one more for each
-- megabyte (profile)
abbrev pub reply_seconds : (written : ℕ) → ℕ
reply_seconds written = 30 + written / 1_000_000

-- How long a peer is waited for at most that was sent so many bytes: ten seconds for its head, the time of its reply, and a second for what it
-- sends past its head.
pub record IsWithinTimeLimits (sent : ℕ) (waited : Waited) : Type 0 where
  pub head_in_time : as_nanos waited.head ≤ 10 * 1_000_000_000
  pub reply_in_time : as_nanos waited.reply ≤ reply_seconds sent * 1_000_000_000
  pub drain_in_time : as_nanos waited.rest ≤ 1_000_000_000

-- It takes a connection back: what went over it is written down, it is ended in order unless its reply broke off, and its peer was waited for
-- within its times.
pub record ClosesConnection (before after : LoopbackState) (over : Exchange) (broke_off : Bool) : Type 0 where
  pub exchange_is_added : after ≡ record before { exchanges = before.exchanges ++ over ∷ []; ended = graceful_closes_after broke_off before.ended; waited = after.waited }
  pub in_time_limits : IsWithinTimeLimits (length over.sent) after.waited

pub close_adds_one_exchange : (before after : LoopbackState) (over : Exchange) (broke_off : Bool) → ClosesConnection before after over broke_off
    → after.exchanges ≡ before.exchanges ++ over ∷ []
close_adds_one_exchange before after over broke_off closed = ap (λ (l : LoopbackState). l.exchanges) closed.exchange_is_added

-- ---- how long a peer is waited for

-- how many seconds the next bytes of a request may take: the first ones, and those behind them (profile)
abbrev pub wait_seconds : (begun : Bool) → ℕ
wait_seconds false = 2
wait_seconds true = 5

-- The time that the next bytes of a request may take, which is not past ten seconds of the whole head (profile).
pub record IsHeadTimeLimit (begun : Bool) (span : Span) : Type 0 where
  pub each_wait_limit : as_nanos span.most ≡ wait_seconds begun * 1_000_000_000
  pub whole_limit : as_nanos span.whole ≡ 10 * 1_000_000_000

-- The time that the next write of a reply may take, thirty seconds, which is not past the time of the whole reply.
pub record IsReplyTimeLimit (written : ℕ) (span : Span) : Type 0 where
  pub each_wait_limit : as_nanos span.most ≡ 30 * 1_000_000_000
  pub whole_limit : as_nanos span.whole ≡ reply_seconds written * 1_000_000_000
