use Rattle.std.proofs.Common.{◌∷◌, [], ◌++◌, ◌+◌, ◌∙◌, ◌<◌, ℕ, List, ap, refl, subst, sym}
use Rattle.std.specs.List.{All, Contains}
use Rattle.std.proofs.lemmas.List.Elements.{All-push}
use Rattle.archive_cache.specs.declared.keyed.KeyStart.{KeyStart}
use Rattle.archive_cache.specs.Keyed.{IsKeyStart, start_at}
use Rattle.archive_cache.proofs.KeyLemmas.{one_more}
use Rattle.archive_cache.proofs.keyed.starts_of.Goals as goal

pub loop-place-preserved : goal.loop-place-preserved
loop-place-preserved c =
    let lines = c.args.lines.now in
    let place = c.loop-place.place in
    let is = ◌∙◌ {A = List KeyStart} c.in_ok-push.ensures.items (ap (λ (s : KeyStart). c.loop-place.starts.items ++ s ∷ []) c.start_at.ensures.value) in
    subst (λ (starts : List KeyStart). ((p : ℕ) → p < place + 1 → Contains starts (start_at lines p)) × All (IsKeyStart lines) starts) (sym is) (
      one_more (start_at lines) c.loop-place.starts.items place c.loop-place.invariant.0,
      All-push (IsKeyStart lines) c.loop-place.starts.items (start_at lines place) c.loop-place.invariant.1 (record { is_of_bytes = c.start_at.ensures.bytes; is_start = refl }),
    )
