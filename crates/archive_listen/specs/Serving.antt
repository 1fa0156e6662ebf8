-- Connections one after the other.
use Rattle.std.specs.Prelude.{◌≡◌, ◌<◌, ◌⊎◌, ℕ, List, [], ◌∷◌, length, Bool, Option, Some, None, Err}
use Rattle.archive_listen.specs.Connections.{ConnectionTranscript, empty_transcript, Exchange, ConnectionResult, ClientReceives, is_reply_incomplete, ErrorStreamState, WritesOutcomeLines}
use Rattle.archive_listen.specs.declared.faults.ConnectionError.TheVariants.{Read}
use Rattle.archive_listen.specs.declared.faults.AcceptError.{AcceptError}
use Rattle.archive_listen.specs.declared.faults.AcceptError.TheVariants.{Peer, Listener}

-- what listens, and what the answers come from
pub record ServerState (L St : Type 0) : Type 0 where
  pub listener : L
  pub state : St

-- the two, as one value
abbrev pub server_state : {L St : Type 0} → L → St → ServerState L St
server_state listener state = record { listener = listener; state = state }

-- a service at work: what it is, and the state that it answers out of
pub record RunningService (V St : Type 0) : Type 0 where
  pub service : V
  pub state : St

-- the two, as one value
abbrev pub running_service : {V St : Type 0} → V → St → RunningService V St
running_service service state = record { service = service; state = state }

-- what a service says of an answer, as a law of the service and its state together
abbrev pub service_answer_law : {V St : Type 0} → (V → V → St → St → ConnectionTranscript → ConnectionTranscript → ConnectionResult → Type 0)
    → RunningService V St → RunningService V St → ConnectionTranscript → ConnectionTranscript → ConnectionResult → Type 0
service_answer_law answers old new before after outcome = answers old.service new.service old.state new.state before after outcome

-- `answers` is the law of what answers: it holds of the state before and after, of what a connection told before and after, and
-- of the answer.
module _ {St : Type 0} (answers : St → St → ConnectionTranscript → ConnectionTranscript → ConnectionResult → Type 0) where
  -- One answer on a connection, and what the peer got of it.
  pub record AnswersConnection (old new : St) (before after : ConnectionTranscript) (sent : List ℕ) (outcome : ConnectionResult) : Type 0 where
    pub transcript : ConnectionTranscript
    pub answer : ConnectionResult
    pub is_answered : answers old new before transcript answer
    pub read_is_transcript : after.read ≡ transcript.read
    pub written_is_transcript : after.written ≡ transcript.written
    pub client_receives : ClientReceives answer outcome transcript.written (transcript.write_failures < after.write_failures) sent

  -- `accepts` and `closes` are what a listener says of a connection that it gives, or does not, and of one that it takes back.
  module _ {L : Type 0} (accepts : L → L → Option AcceptError → Type 0) (closes : L → L → Exchange → Bool → Type 0) where
    -- A connection was taken, answered once, and given back.
    pub record AcceptsAndAnswers (before after : ServerState L St) (outcome : ConnectionResult) : Type 0 where
      pub listening : L
      pub accepts_peer : accepts before.listener listening None
      pub transcript : ConnectionTranscript
      pub sent : List ℕ
      pub is_answered : AnswersConnection before.state after.state empty_transcript transcript sent outcome
      pub closes_exchange : closes listening after.listener (record { read = transcript.read; sent = sent }) (is_reply_incomplete outcome)

    -- Its peer was gone before it was taken: nothing was read, which is S1, and nothing was answered.
    pub record FindsClientGone (before after : ServerState L St) (outcome : ConnectionResult) : Type 0 where
      pub accepts_no_peer : accepts before.listener after.listener (Some Peer)
      pub read_failed : outcome ≡ Err Read
      pub state_is_same : after.state ≡ before.state

    abbrev pub ServesOneConnection : ConnectionResult → (before after : ServerState L St) → Type 0
    ServesOneConnection outcome before after = AcceptsAndAnswers before after outcome ⊎ FindsClientGone before after outcome

    -- connections one after the other, with how each ended
    abbrev pub ServesEachConnection : List ConnectionResult → (before after : ServerState L St) → Type 0
    ServesEachConnection [] before after = after ≡ before
    ServesEachConnection (outcome ∷ outcomes) before after =
        (between : ServerState L St) × ServesOneConnection outcome before between × ServesEachConnection outcomes between after

    module _ (first : ServerState L St) (before after : ErrorStreamState) where
      -- A run of connections: each in its turn, with how it ended, and each fault told.
      pub record ServesAndReportsErrors (outcomes : List ConnectionResult) (last : ServerState L St) : Type 0 where
        pub serves_each : ServesEachConnection outcomes first last
        pub reports_outcomes : WritesOutcomeLines outcomes before after

      -- as many connections as were wanted
      abbrev pub ServesAllConnections : (count : ℕ) → (last : ServerState L St) → Type 0
      ServesAllConnections count last = (outcomes : List ConnectionResult) × (length outcomes ≡ count) × ServesAndReportsErrors outcomes last

      -- fewer, and then the listener gave no more, for a reason of its own
      abbrev pub ServesFewerConnections : (count : ℕ) → (end : ServerState L St) → Type 0
      ServesFewerConnections count end = (outcomes : List ConnectionResult) × (last : ServerState L St) × (length outcomes < count)
          × ServesAndReportsErrors outcomes last × (end.state ≡ last.state) × accepts last.listener end.listener (Some Listener)
