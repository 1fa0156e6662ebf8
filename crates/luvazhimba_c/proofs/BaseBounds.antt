-- A base is no longer than its subject.
use Rattle.std.proofs.Common.{◌≡◌, ℕ, suc, ◌<◌, ◌≤◌, Bool, true, false, cond, List, [], ◌∷◌, length, arith, ap, ◌∙◌}
use Rattle.std.specs.Char.{to_ascii_lowercase}
use Rattle.std.proofs.lemmas.List.{length-map}
use Rattle.subject_core.specs.Spaces.{is_space_or_tab, begins_with_space_or_tab, with_single_spaces}
use Rattle.subject_core.specs.BaseSubject.{RemovesOnePiece, RemovesPieces, IsBaseSubject}
use Rattle.subject_core.specs.BaseSubject.RemovesPieces.{here, further}

spaced_few : (t : List ℕ) → length (with_single_spaces t) ≤ length t
unfolding with_single_spaces
spaced_few [] = omega arith
spaced_few (b ∷ bs) = go (is_space_or_tab b) (begins_with_space_or_tab bs) (spaced_few bs)
  where
    go : (w v : Bool) → length (with_single_spaces bs) ≤ length bs → length (cond w (cond v (with_single_spaces bs) (32 ∷ with_single_spaces bs)) (b ∷ with_single_spaces bs)) ≤ suc (length bs)
    go true true h = omega (arith, h)
    go true false h = omega (arith, h)
    go false v h = omega (arith, h)

module _ (shortens : (text rest : List ℕ) (reply : Bool) → RemovesOnePiece text reply rest → length rest < length text) where
  reaches_few : (t u : List ℕ) (m : Bool) → RemovesPieces t m u → length u ≤ length t
  reaches_few t u m here = omega arith
  reaches_few t u m (further {next = v} {reply = p} {later = q} g r) =
      let first = shortens t v p g in
      let others = reaches_few v u q r in
      omega (arith, first, others)

  pub base_few : (subject base : List ℕ) (reply : Bool) → IsBaseSubject subject base reply → length base ≤ length subject
  base_few subject base reply b =
      let lowered : length base ≡ length b.remaining_text = ap length b.base_is_lowercase ∙ length-map b.remaining_text to_ascii_lowercase in
      let removed = reaches_few (with_single_spaces subject) b.remaining_text reply b.removes_pieces in
      let white = spaced_few subject in
      omega (arith, lowered, removed, white)
