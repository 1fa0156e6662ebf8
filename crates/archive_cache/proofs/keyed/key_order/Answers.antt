use Rattle.std.proofs.Common.{◌∙◌, List, ap, map, rules, subst, sym}
use Rattle.std.specs.Ordering.{is_lt}
use Rattle.std.proofs.lemmas.Fn.{always_returns_same}
use Rattle.std.proofs.lemmas.List.Sorted.{All-permutation, Contains-permutation}
use Rattle.std.proofs.lemmas.Result.{IfOk-weaker}
use Rattle.archive_cache.specs.declared.keyed.KeyStart.{KeyStart}
use Rattle.archive_cache.specs.Keyed.{IsKeyOrder, IsKeyStart, start_at, start_cmp}
use Rattle.archive_cache.proofs.KeyStartLemmas.{has_place, places_sorted, starts_rank}
use Rattle.archive_cache.proofs.keyed.key_order.Goals as goal

pub returns : goal.returns
returns c =
    let lines = c.args.lines.now in
    let before : List KeyStart = c.in_ok-starts.starts.items in
    let after : List KeyStart = c.sort_unstable_by.new.self.items in
    let moved = c.sort_unstable_by.ensures.permutation in
    let right = All-permutation (IsKeyStart lines) before after moved c.in_ok-starts.ensures.right in
    let sorted = c.sort_unstable_by.ensures.sorted (λ one other. is_lt (start_cmp lines one other)) (starts_rank lines)
    (always_returns_same _ _ _ (λ a r f k. search rules)) in
    let order : IsKeyOrder lines (map (λ s. s.place) after) = record {
      contains_each_line = λ place below. has_place lines after place
          (Contains-permutation before after (start_at lines place) moved (c.in_ok-starts.ensures.each place below));
      is_sorted = places_sorted lines after right sorted;
    } in
    IfOk-weaker c.places_of.result _ _ (λ places is. subst (IsKeyOrder lines) (sym (is ∙ ap (map (λ (s : KeyStart). s.place)) c.deref.ensures.value)) order) c.places_of.ensures
