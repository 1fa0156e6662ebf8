-- The waits that the system was asked for.
use Rattle.std.specs.Prelude.{◌≡◌, ◌≤◌, ◌+◌, ◌-◌, ℕ, max, Option, Some, None, IfSome, IsNone}
use Rattle.std.specs.Time.{instant_nanos}
use Rattle.std.specs.declared.time.Instant.{Instant}
use Rattle.archive_listen.specs.Streams.{StreamState}

-- how often a clock was asked, and the time that it gave last
pub record ClockState : Type 0 where
  pub calls : ℕ
  pub time : Option Instant

abbrev pub no_clock_calls : ClockState
no_clock_calls = record { calls = 0; time = None }

-- It was asked once more, and gave this time, or none.
abbrev pub after_clock_call : Option Instant → ClockState → ClockState
after_clock_call (Some at) clock = record { calls = clock.calls + 1; time = Some at }
after_clock_call None clock = record clock { calls = clock.calls + 1 }

-- when the waits for a stream began, how long after it the last one could end, in nanoseconds, what went over the stream, and what the clock gave
pub record TimedStreamState : Type 0 where
  pub since : Option Instant
  pub latest : ℕ
  pub stream : StreamState
  pub clock : ClockState

-- More waits, none of them past so many nanoseconds. They are counted from where the first one began.
pub record WaitsWithin (whole : ℕ) (before after : TimedStreamState) : Type 0 where
  pub begin_is_kept : IfSome before.since (λ at. after.since ≡ Some at)
  pub latest_never_falls : before.latest ≤ after.latest
  pub latest_is_bounded : after.latest ≤ max before.latest whole

-- A wait of so many nanoseconds, given where the clock was asked once. The wait ends within the whole span, by the time that the clock gave and
-- counted from where the waits began, which is that time if there was none before. The end is written down.
pub record EndsWithinSpan (whole wait : ℕ) (before after : TimedStreamState) : Type 0 where
  pub now : Instant
  pub since : Instant
  pub clock_gives_now : after.clock ≡ after_clock_call (Some now) before.clock
  pub begin_is_since : after.since ≡ Some since
  pub first_begins_now : IsNone before.since → since ≡ now
  pub ends_in_span : (instant_nanos now - instant_nanos since) + wait ≤ whole
  pub end_is_noted : (instant_nanos now - instant_nanos since) + wait ≤ after.latest
