use Rattle.std.proofs.Common.{◌≡◌, ◌<◌, ◌≤◌, ◌+◌, ◌-◌, length, max, ℕ, List, arith, refl, subst, rules}
use Rattle.mbox_core.specs.Separator.{Envelope}
use Rattle.mbox_stream.specs.Window.{SeparatesAfterBlankLine, IsNonSeparatingLine}
use Rattle.mbox_stream.proofs.FindLemmas.{found_mark, found_none, none_more, open_more, found_line, found_no_line, text_looked, next_found}
use Rattle.mbox_stream.proofs.finding.find_next.Goals as goal

later : (len at from : ℕ) → from ≡ max at (len - 5) → at ≤ len → (at ≤ from) × (from ≤ len) × ((k : ℕ) → at ≤ k → k < from → k + 6 ≤ len)
later len at from e low = (omega (arith, e), omega (arith, e, low), λ k ge lt. omega (arith, e, ge, lt))

pub returns-in-None-clause-more : goal.returns-in-None-clause-more
returns-in-None-clause-more c =
    let bytes = c.args.bytes.now in
    let at = c.loop-at.at in
    let w = later (length bytes) at c.max.result (search rules) c.loop-at.invariant.from_in_range in
    none_more bytes at c.loop-at.invariant (found_none bytes c.split_at.result.1.now at c.split_at.ensures.back c.in-None.ensures) c.max.result w.0 w.1 w.2

past : (bytes : List ℕ) (at : ℕ) → length bytes ≤ at → (k : ℕ) → at ≤ k → (f : k + 6 ≤ length bytes) → ⊥
past bytes at h k ge f = omega (arith, h, ge, f)

pub returns-clause-more : goal.returns-clause-more
returns-clause-more c =
    let bytes = c.args.bytes.now in
    let at = c.loop-at.at in
    none_more bytes at c.loop-at.invariant (λ k ge o. past bytes at c.loop-at-test.false k ge o.fits) at (omega arith) c.loop-at.invariant.from_in_range (λ k ge lt. omega (arith, ge, lt))

pub returns-in-None-memchr-clause-more : goal.returns-in-None-memchr-clause-more
returns-in-None-memchr-clause-more c =
    let bytes = c.args.bytes.now in
    let m = found_mark bytes c.split_at.result.1.now c.loop-at.at c.in-Some.lf c.split_at.ensures.back c.loop-at.invariant.from_in_range c.in-Some.ensures in
    let p = c.loop-at.at + c.in-Some.lf in
    open_more bytes c.loop-at.at c.loop-at.invariant p m (found_no_line bytes c.split_at-in-loop-at.result.1.now (p + 1) c.split_at-in-loop-at.ensures.back c.in-None-memchr.ensures)

pub returns-in-Some-heading_of-clause-next : goal.returns-in-Some-heading_of-clause-next
returns-in-Some-heading_of-clause-next c =
    let bytes = c.args.bytes.now in
    let m = found_mark bytes c.split_at.result.1.now c.loop-at.at c.in-Some.lf c.split_at.ensures.back c.loop-at.invariant.from_in_range c.in-Some.ensures in
    let p = c.loop-at.at + c.in-Some.lf in
    let line = c.split_at-in-loop-at-2.result.0.now in
    let l = found_line bytes c.split_at-in-loop-at.result.1.now line (p + 1) c.in-Some-memchr.end c.split_at-in-loop-at.ensures.back c.split_at-in-loop-at-2.ensures.front c.in-Some-memchr.ensures in
    let text = c.in-Some-heading_of.heading.text.now in
    let next : Envelope = c.in-Some-heading_of.heading.envelope in
    let H : List ℕ → Type 0 = λ x. SeparatesAfterBlankLine x line text next in
    next_found bytes c.loop-at.at c.loop-at.invariant p m c.in-Some-memchr.end (p + 1 + (c.in-Some-memchr.end + 1)) line l.is l.long refl l.alone l.ended
    text next (subst H c.split_at-in-loop-at.ensures.front c.in-Some-heading_of.ensures.some)

pub loop-at-preserved : goal.loop-at-preserved
loop-at-preserved c =
    let bytes = c.args.bytes.now in
    let m = found_mark bytes c.split_at.result.1.now c.loop-at.at c.in-Some.lf c.split_at.ensures.back c.loop-at.invariant.from_in_range c.in-Some.ensures in
    let p = c.loop-at.at + c.in-Some.lf in
    let line = c.split_at-in-loop-at-2.result.0.now in
    let l = found_line bytes c.split_at-in-loop-at.result.1.now line (p + 1) c.in-Some-memchr.end c.split_at-in-loop-at.ensures.back c.split_at-in-loop-at-2.ensures.front c.in-Some-memchr.ensures in
    let T : List ℕ → Type 0 = λ x. IsNonSeparatingLine x line in
    text_looked bytes c.loop-at.at c.loop-at.invariant p m c.in-Some-memchr.end (p + 1 + (c.in-Some-memchr.end + 1)) line l.is l.long refl l.alone l.ended
    (subst T c.split_at-in-loop-at.ensures.front c.in_default.ensures.none)
