use Rattle.std.proofs.Common.{◌≡◌, ◌∙◌, ◌<◌, ◌^◌, ap, drop, false, rules, true, Result, Ok, Err}
use Rattle.std.specs.Prelude.{IsErr, MatchResult}
use Rattle.archive_cache.specs.Views.{CacheState}
use Rattle.archive_cache.proofs.ViewLemmas.{bounded_put}
use Rattle.archive_cache.proofs.cache.Cache.put.Goals as goal

pub invariant_of-self-2 : goal.invariant_of-self-2
invariant_of-self-2 c =
    let fits : c.self.inside.most < 2 ^ 64 = search rules in (
      bounded_put c.self.inside.most c.view_weight.result c.put_place-place.result c.make_room.new.views.items c.insert.new.self.items _ fits c.view_weight.ensures c.in_ok-insert.ensures.items
          c.make_room.ensures.room,
      search rules,
    )

pub returns-clause-bounded : goal.returns-clause-bounded
returns-clause-bounded c =
    let fits : c.self.inside.most < 2 ^ 64 = search rules in (
      bounded_put c.self.inside.most c.view_weight.result c.put_place-place.result c.make_room.new.views.items c.insert.new.self.items _ fits c.view_weight.ensures c.in_ok-insert.ensures.items
          c.make_room.ensures.room,
      search rules,
    )

on_err : {A E : Type 0} (P : A → Type 0) (Q : E → Type 0) (result : Result A E) → IsErr result → ((e : E) → Q e) → MatchResult result P Q
on_err P Q (Ok x) failed says = absurd (let bad : false ≡ true = failed in cc)
on_err P Q (Err e) failed says = says e

pub returns-in_err-insert-clause-kept : goal.returns-in_err-insert-clause-kept
returns-in_err-insert-clause-kept c =
    let failed : IsErr c.from_residual-in_err-insert.result = search rules in
    let same : c.insert.new.self.items ≡ c.make_room.new.views.items = search rules in
    let dropped = c.make_room.ensures.dropped in (
      c.make_room.new.views.items,
      (dropped.0, dropped.1 ∙ ap (λ (k : CacheState). drop dropped.0 k.views) c.self.view_is),
      on_err _ _ c.from_residual-in_err-insert.result failed (λ e. same),
    )
