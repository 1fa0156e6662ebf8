-- What went over connections of memory.
use Rattle.std.specs.Prelude.{List, map}
use Rattle.byte_device.specs.Device.{TapState}
use Rattle.archive_listen.specs.Connections.{Exchange, exchange}
use Rattle.archive_listen.specs.Gathering.{WriteBufferState}

-- both directions of each, as its two taps told them
abbrev pub exchanges_of_taps : List (TapState × WriteBufferState TapState) → List Exchange
exchanges_of_taps = map (λ c. exchange c.0.read c.1.inner.written)
