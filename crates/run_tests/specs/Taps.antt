-- What went over connections of memory.
use Rattle.std.proofs.Common.{◌≡◌, ap, List, [], map}
use Rattle.byte_device.specs.Device.{TapState}
use Rattle.archive_listen.specs.Connections.{Exchange, exchange}
use Rattle.archive_listen.specs.Gathering.{WriteBufferState}

-- both directions of each, as its two taps told them
abbrev pub exchanges_of_taps : List (TapState × WriteBufferState TapState) → List Exchange
exchanges_of_taps = map (λ c. exchange c.0.read c.1.inner.written)

-- ---- a law of the quay

pub no_connection_no_exchange : {P : Type 0} (went : P → List Exchange) (old new : P) (taken : List (TapState × WriteBufferState TapState)) → new ≡ old → taken ≡ []
    → (went new ≡ went old) × (exchanges_of_taps taken ≡ [])
no_connection_no_exchange went old new taken same none = (ap went same, ap exchanges_of_taps none)
