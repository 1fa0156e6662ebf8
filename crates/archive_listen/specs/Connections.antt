-- What goes over a connection, and what becomes of it.
use Rattle.std.specs.Prelude.{◌≡◌, ◌<◌, ◌⊎◌, ℕ, Bool, true, false, List, [], ◌∷◌, ◌++◌, codes, Result, Ok, Err}
use Rattle.byte_device.specs.declared.devices.Sink.{Ghosts as Takes}
use Rattle.archive_listen.specs.declared.faults.ConnectionError.{ConnectionError}
use Rattle.archive_listen.specs.declared.faults.ConnectionError.TheVariants.{Read, Write, Broken}

-- what the two directions of a connection told, and what was counted
pub record ConnectionTranscript : Type 0 where
  -- what was read of the peer, how often its end was met, and how often a read failed
  pub read : List ℕ
  pub ends : ℕ
  pub read_failures : ℕ
  -- what was written to the peer, and how often a write failed
  pub written : List ℕ
  pub write_failures : ℕ

abbrev pub connection_transcript : List ℕ → ℕ → ℕ → List ℕ → ℕ → ConnectionTranscript
connection_transcript read ends read_failures written write_failures = record {
  read = read;
  ends = ends;
  read_failures = read_failures;
  written = written;
  write_failures = write_failures;
}

-- a connection over which nothing went yet
abbrev pub empty_transcript : ConnectionTranscript
empty_transcript = connection_transcript [] 0 0 [] 0

-- what had gone over a connection when it was given back: what was read, and what was passed on to the peer
pub record Exchange : Type 0 where
  pub read : List ℕ
  pub sent : List ℕ

abbrev pub exchange : List ℕ → List ℕ → Exchange
exchange read sent = record { read = read; sent = sent }

-- the first text is a beginning of the second
abbrev pub IsPrefixOf : List ℕ → List ℕ → Type 0
IsPrefixOf first all = (rest : List ℕ) × (all ≡ first ++ rest)

-- how a connection ended: the status of the reply, or a fault
abbrev pub ConnectionResult : Type 0
ConnectionResult = Result ℕ ConnectionError

-- What the peer got of what was written for it: at Ok all of it; after a fault of the answer a beginning; and a beginning where
-- what was held back could not be passed on, which is S2.
abbrev pub ClientReceives : (answer outcome : ConnectionResult) → (written : List ℕ) → (failed : Type 0) → (sent : List ℕ) → Type 0
ClientReceives (Ok status) (Ok told) written failed sent = (told ≡ status) × (sent ≡ written)
ClientReceives (Ok status) (Err Write) written failed sent = failed × IsPrefixOf sent written
ClientReceives (Ok status) (Err Read) written failed sent = ⊥
ClientReceives (Ok status) (Err Broken) written failed sent = ⊥
ClientReceives (Err fault) (Err told) written failed sent = (told ≡ fault) × IsPrefixOf sent written
ClientReceives (Err fault) (Ok told) written failed sent = ⊥

-- A reply broke off where it could not be written, or not be finished. Without a length it would look whole if its connection
-- ended in order (RFC 9112, section 6.3), so this one does not.
abbrev pub is_reply_incomplete : ConnectionResult → Bool
is_reply_incomplete (Ok status) = false
is_reply_incomplete (Err Read) = false
is_reply_incomplete (Err Write) = true
is_reply_incomplete (Err Broken) = true

-- the line that tells of a fault
abbrev pub connection_error_line : ConnectionError → List ℕ
connection_error_line Read = codes "archive: S1 Read\n"
connection_error_line Write = codes "archive: S2 Write\n"
connection_error_line Broken = codes "archive: S3 Broken\n"

-- a fault is told in one line, and a reply in none
abbrev pub outcome_line : ConnectionResult → List ℕ
outcome_line (Ok status) = []
outcome_line (Err fault) = connection_error_line fault

-- ---- the stream of faults

-- what a stream of faults told, and how often it failed
pub record ErrorStreamState : Type 0 where
  pub written : List ℕ
  pub failures : ℕ

-- a stream of faults so far, as contracts see it: what it told, and its failures
abbrev pub error_stream_state : {E : Type 0} → Takes E → E → ErrorStreamState
error_stream_state takes faults = record { written = takes.told faults; failures = takes.failures faults }

-- A text was written, whole; or the stream failed at it, and a beginning of it stands there.
abbrev pub WritesWholeOrFails : (text : List ℕ) → (before after : ErrorStreamState) → Type 0
WritesWholeOrFails text before after =
    ((after.failures ≡ before.failures) × (after.written ≡ before.written ++ text))
    ⊎ ((before.failures < after.failures) × (some : List ℕ) × IsPrefixOf some text × (after.written ≡ before.written ++ some))

-- the line of an outcome was
abbrev pub WritesOutcomeLine : ConnectionResult → (before after : ErrorStreamState) → Type 0
WritesOutcomeLine outcome = WritesWholeOrFails (outcome_line outcome)

-- Each fault of these connections was told in its turn: a line at which the stream fails takes no other with it.
abbrev pub WritesOutcomeLines : List ConnectionResult → (before after : ErrorStreamState) → Type 0
WritesOutcomeLines [] before after = after ≡ before
WritesOutcomeLines (outcome ∷ outcomes) before after = (between : ErrorStreamState) × WritesOutcomeLine outcome before between × WritesOutcomeLines outcomes between after
