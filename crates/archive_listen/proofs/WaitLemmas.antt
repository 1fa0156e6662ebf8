-- Waits one after the other.
use Rattle.std.proofs.Common.{◌≡◌, ℕ, Option, Some, None, subst, refl, arith}
use Rattle.std.specs.Prelude.{IfSome}
use Rattle.std.specs.declared.time.Instant.{Instant}
use Rattle.archive_listen.specs.Waits.{TimedStreamState, WaitsWithin}

begun_none : (since : Option Instant) → IfSome since (λ at. since ≡ Some at)
begun_none None = tt
begun_none (Some at) = refl

begun_more : (since : Option Instant) (between last : TimedStreamState) → IfSome since (λ at. between.since ≡ Some at)
    → IfSome between.since (λ at. last.since ≡ Some at) → IfSome since (λ at. last.since ≡ Some at)
begun_more None between last first second = tt
begun_more (Some at) between last first second = subst (λ (s : Option Instant). IfSome s (λ at. last.since ≡ Some at)) first second

-- none
pub waits_none : (whole : ℕ) (state : TimedStreamState) → WaitsWithin whole state state
waits_none whole state = record { begin_is_kept = begun_none state.since; latest_never_falls = omega arith; latest_is_bounded = omega arith }

-- and more of them
pub waits_more : (whole : ℕ) (first between last : TimedStreamState) → WaitsWithin whole first between → WaitsWithin whole between last
    → WaitsWithin whole first last
waits_more whole first between last before after = record {
  begin_is_kept = begun_more first.since between last before.begin_is_kept after.begin_is_kept;
  latest_never_falls = omega (arith, before.latest_never_falls, after.latest_never_falls);
  latest_is_bounded = omega (arith, before.latest_is_bounded, after.latest_is_bounded);
}
