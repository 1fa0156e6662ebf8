use Rattle.std.proofs.Common.{rules, arith, ◌≡◌, ◌++◌, ◌∙◌, List, ℕ, ap, sym, refl, subst, inl, take, length, ◌+◌}
use Rattle.httparse.specs.Grammar.{HasNoRequest}
use Rattle.std.proofs.lemmas.List.{append-nil, append_assoc, length-take-le}
use Rattle.archive_requests.proofs.HeadLemmas.{no_byte, no_line, same_front, same_told}
use Rattle.archive_requests.proofs.head_reading.read_head.Goals as goal

pub loop-filled-init : goal.loop-filled-init
loop-filled-init g c = record {
  within = omega arith;
  told = sym (append-nil _);
  no_head = no_byte;
  goes_on = refl;
  quiet = refl;
}

pub loop-filled-preserved : goal.loop-filled-preserved
loop-filled-preserved g c =
    let so_far = c.loop-filled.invariant in
    let b = c.in_ok-count.ensures.bytes in
    let none = no_line _ b.0 so_far.no_head (b.5 c.if-looks.false) in
    record {
      within = search rules;
      told = b.3 ∙ ap (λ (t : List ℕ). t ++ b.0) so_far.told ∙ append_assoc _ _ b.0 ∙ ap (λ (t : List ℕ). g.R.Source.told c.args.input.now ++ t) (sym b.4);
      no_head = subst HasNoRequest (sym b.4) none;
      goes_on = search rules;
      quiet = search rules;
    }

pub returns-then-count-eq0-clause-read : goal.returns-then-count-eq0-clause-read
returns-then-count-eq0-clause-read g c =
    let so_far = c.loop-filled.invariant in
    let b = c.in_ok-count.ensures.bytes in
    let z : c.in_ok-count.count ≡ 0 = search rules in
    let same = same_front c.loop-filled.filled _ _ c.read_more.new.buffer b.0 z b.1 b.4 in
    let told = same_told _ _ _ b.0 z b.1 b.3 ∙ so_far.told ∙ ap (λ (t : List ℕ). g.R.Source.told c.args.input.now ++ t) (sym same) in
    let size : length c.read_more.new.buffer ≡ 8192 = search rules in
    let long = length-take-le c.loop-filled.filled c.read_more.new.buffer (omega (arith, size, so_far.within)) in
    let ends : g.R.Source.ends c.read_more.new.input ≡ g.R.Source.ends c.args.input.now + 1 = search rules in (
      take c.loop-filled.filled c.read_more.new.buffer,
      told,
      ap (λ (m : ℕ). take m c.read_more.new.buffer) (sym long),
      inl (ends, subst HasNoRequest (sym same) so_far.no_head, c.at_end.ensures),
    )
