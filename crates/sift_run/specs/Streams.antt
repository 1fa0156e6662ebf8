-- What streams told, and a text that goes out.
use Rattle.std.specs.Prelude.{◌≡◌, ◌<◌, ◌++◌, ℕ, List, Result, ⊤, MatchResult}
use Rattle.mbox_core.specs.Written.{AppendsPrefixOfText}
use Rattle.byte_device.specs.declared.devices.Source.{Ghosts as Reads}
use Rattle.byte_device.specs.declared.devices.Sink.{Ghosts as Takes}
use Rattle.archive_listen.specs.declared.connections.BufferedSink.{Ghosts as Passes}

-- what an input told, how often its end was met, and how often a read failed
pub record InputStreamState : Type 0 where
  pub read : List ℕ
  pub ends : ℕ
  pub failures : ℕ

abbrev pub input_stream_state : {R : Type 0} → Reads R → R → InputStreamState
input_stream_state reads input = record { read = reads.told input; ends = reads.ends input; failures = reads.failures input }

-- what an output told, what of it was passed on, and how often it failed
pub record OutputStreamState : Type 0 where
  pub written : List ℕ
  pub passed : List ℕ
  pub failures : ℕ

-- an output so far, as contracts see it: what it told, what of it a flush passed on, and its failures
abbrev pub output_stream_state : {O : Type 0} → Takes O → Passes O → O → OutputStreamState
output_stream_state takes passes output = record { written = takes.told output; passed = passes.sent output; failures = takes.failures output }

-- ---- a text that goes out

-- this text went out, whole, and was passed on
abbrev pub WritesAndFlushes : (before after : OutputStreamState) → (text : List ℕ) → Type 0
WritesAndFlushes before after text = (after.written ≡ before.written ++ text) × (after.failures ≡ before.failures) × (after.passed ≡ after.written)

-- the output failed, and a beginning of the text went out
abbrev pub WritesPartAndFails : (before after : OutputStreamState) → (text : List ℕ) → Type 0
WritesPartAndFails before after text = (count : ℕ) × AppendsPrefixOfText before.written after.written text count × (before.failures < after.failures)

-- it went out, or the output failed, which is told so
abbrev pub WritesAndFlushesOrFails : {E : Type 0} → (told : E) → (before after : OutputStreamState) → (text : List ℕ) → Result ⊤ E → Type 0
WritesAndFlushesOrFails told before after text result = MatchResult result (λ _. WritesAndFlushes before after text) (λ e. (e ≡ told) × WritesPartAndFails before after text)
