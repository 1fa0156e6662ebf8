use Rattle.std.proofs.Common.{◌∙◌, ◌++◌, ◌∷◌, [], ap, sym, arith}
use Rattle.std.proofs.lemmas.List.FromFn.{map-range_with_len_more}
use Rattle.archive_cache.specs.ListIndexes.{top_row}
use Rattle.archive_cache.proofs.list_indexes.top_rows.Goals as goal

pub loop-place-preserved : goal.loop-place-preserved
loop-place-preserved c =
    c.in_ok-push.ensures.items ∙ ap (λ xs. xs ++ top_row c.loop-place.place ∷ []) c.loop-place.invariant
    ∙ sym (map-range_with_len_more top_row 0 c.loop-place.place c.loop-place.place (omega arith))
