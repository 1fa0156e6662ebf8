-- A run of connections over a state that holds more than what is said of it, as of a service and what it answers out of.
use Rattle.std.proofs.Common.{sym, ap, subst, inl, inr, Bool, List, [], ◌∷◌, Option}
use Rattle.archive_listen.specs.Connections.{ConnectionTranscript, Exchange, ConnectionResult, empty_transcript}
use Rattle.archive_listen.specs.Serving.{ServerState, ServesOneConnection, ServesEachConnection, server_state}
use Rattle.archive_listen.specs.declared.faults.AcceptError.{AcceptError}

-- `whole` is a law of the whole state, and `some` one of the part that `part` gives.
module _ {Whole Part L : Type 0} (whole : Whole → Whole → ConnectionTranscript → ConnectionTranscript → ConnectionResult → Type 0)
    (some : Part → Part → ConnectionTranscript → ConnectionTranscript → ConnectionResult → Type 0) (part : Whole → Part)
    (accepts : L → L → Option AcceptError → Type 0) (closes : L → L → Exchange → Bool → Type 0) where
  abbrev pub part_of : ServerState L Whole → ServerState L Part
  part_of s = server_state s.listener (part s.state)

  -- `Had` is a premise that each answer hands back, from the state after it to the one before; `Holds` is one that it hands on.
  -- Where both hold, an answer by `whole` is one by `some`.
  module _ (Had Holds : Whole → Type 0)
      (back : (old new : Whole) (before after : ConnectionTranscript) (outcome : ConnectionResult) → whole old new before after outcome → Had new → Had old)
      (step : (old new : Whole) (before after : ConnectionTranscript) (outcome : ConnectionResult) → Had new → Holds old → whole old new before after outcome
      → some (part old) (part new) before after outcome × Holds new) where
    had_one : (outcome : ConnectionResult) (before after : ServerState L Whole) → ServesOneConnection whole accepts closes outcome before after
        → Had after.state → Had before.state
    had_one outcome before after (inl takes) had =
        let a = takes.is_answered in back before.state after.state empty_transcript a.transcript a.answer a.is_answered had
    had_one outcome before after (inr misses) had = subst Had misses.state_is_same had

    had_each : (outcomes : List ConnectionResult) (before after : ServerState L Whole) → ServesEachConnection whole accepts closes outcomes before after
        → Had after.state → Had before.state
    had_each [] before after same had = subst (λ (s : ServerState L Whole). Had s.state) same had
    had_each (outcome ∷ outcomes) before after (between, first, rest) had =
        had_one outcome before between first (had_each outcomes between after rest had)

    one_through : (outcome : ConnectionResult) (before after : ServerState L Whole) → Had after.state → Holds before.state
        → ServesOneConnection whole accepts closes outcome before after
        → ServesOneConnection some accepts closes outcome (part_of before) (part_of after) × Holds after.state
    one_through outcome before after had holds (inl takes) =
        let a = takes.is_answered in
        let it = step before.state after.state empty_transcript a.transcript a.answer had holds a.is_answered in (
          inl (record {
            listening = takes.listening;
            accepts_peer = takes.accepts_peer;
            transcript = takes.transcript;
            sent = takes.sent;
            is_answered = record {
              transcript = a.transcript;
              answer = a.answer;
              is_answered = it.0;
              read_is_transcript = a.read_is_transcript;
              written_is_transcript = a.written_is_transcript;
              client_receives = a.client_receives;
            };
            closes_exchange = takes.closes_exchange;
          }),
          it.1,
        )
    one_through outcome before after had holds (inr misses) = (
      inr (record { accepts_no_peer = misses.accepts_no_peer; read_failed = misses.read_failed; state_is_same = ap part misses.state_is_same }),
      subst Holds (sym misses.state_is_same) holds,
    )

    -- where `Had` holds at last and `Holds` at first, the whole run is one over the part, and `Holds` at last
    pub each_had_through : (outcomes : List ConnectionResult) (before after : ServerState L Whole) → Had after.state → Holds before.state
        → ServesEachConnection whole accepts closes outcomes before after
        → ServesEachConnection some accepts closes outcomes (part_of before) (part_of after) × Holds after.state
    each_had_through [] before after had holds same = (ap part_of same, subst (λ (s : ServerState L Whole). Holds s.state) (sym same) holds)
    each_had_through (outcome ∷ outcomes) before after had holds (between, first, rest) =
        let one = one_through outcome before between (had_each outcomes between after rest had) holds first in
        let others = each_had_through outcomes between after had one.1 rest in
        ((part_of between, one.0, others.0), others.1)
