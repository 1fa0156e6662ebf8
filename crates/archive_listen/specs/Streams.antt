-- What went over a stream of the system.
use Rattle.std.specs.Prelude.{◌≡◌, ◌≤◌, ◌<◌, ◌+◌, ◌⊎◌, ℕ, List, [], ◌++◌, Bool, true, false}
use Rattle.archive_listen.specs.declared.streams.Reading.{Reading}
use Rattle.archive_listen.specs.declared.streams.Reading.TheVariants.{Takes, Looks}

-- the bytes that looks at it gave, and those that it took
pub record StreamState : Type 0 where
  pub given : List ℕ
  pub took : List ℕ

abbrev pub empty_stream : StreamState
empty_stream = record { given = []; took = [] }

-- behind a look that gave these bytes
abbrev pub after_peek : List ℕ → StreamState → StreamState
after_peek bytes stream = record stream { given = stream.given ++ bytes }

-- Behind a read of them. Those that leave the socket were seen before, or are let go.
abbrev pub after_read : Reading → List ℕ → StreamState → StreamState
after_read Takes bytes stream = stream
after_read Looks bytes stream = after_peek bytes stream

-- behind a write of them
abbrev pub after_write : List ℕ → StreamState → StreamState
after_write bytes stream = record stream { took = stream.took ++ bytes }

-- ---- what leaves a socket

-- how many bytes left it, and how often none could be taken
pub record DrainState : Type 0 where
  pub bytes : ℕ
  pub failures : ℕ

abbrev pub nothing_drained : DrainState
nothing_drained = record { bytes = 0; failures = 0 }

-- behind so many more
abbrev pub after_drain : ℕ → DrainState → DrainState
after_drain count taken = record taken { bytes = taken.bytes + count }

-- where none could be taken
abbrev pub after_failed_drain : DrainState → DrainState
after_failed_drain taken = record taken { failures = taken.failures + 1 }

-- All that was seen is taken, unless the socket fails.
abbrev pub DrainsSeenBytes : (unread : ℕ) → (before after : DrainState) → Type 0
DrainsSeenBytes unread before after = (before.bytes + unread ≤ after.bytes) ⊎ (before.failures < after.failures)

-- What becomes of what was seen when a connection ends: it is taken where it ends in order. Where its reply broke off nothing more is taken, and
-- the system resets a connection that is closed over unread bytes (RFC 1122, section 4.2.2.13).
abbrev pub DrainsOrResets : (broke_off : Bool) → (unread : ℕ) → (before after : DrainState) → Type 0
DrainsOrResets true unread before after = after ≡ before
DrainsOrResets false unread before after = DrainsSeenBytes unread before after
