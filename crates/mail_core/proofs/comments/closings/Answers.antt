use Rattle.std.proofs.Common.{◌≡◌, ◌+◌, ◌-◌, ◌<◌, ◌∙◌, ap, sym, arith, ℕ, List, length, true, false}
use Rattle.mail_core.specs.Comments.{comment_byte_kind}
use Rattle.mail_core.specs.Comments.CommentByteKind.{opening, closing, escape, ordinary}
use Rattle.mail_core.proofs.CommentLemmas.{comment_mark-40, comment_mark-41, comment_mark-92, comment_mark-other}
use Rattle.mail_core.proofs.CommentTable.{closed-none, closed-quoted, closed-byte, closings-none, closings-pushed}
use Rattle.mail_core.proofs.comments.closings.Goals as goal

pub loop-k-init : goal.loop-k-init
loop-k-init c = let n : ℕ = length c.args.text.now in record {
  place = omega arith;
  known = c.in_ok-closed.ensures.items ∙ sym (closings-none c.args.text.now n (omega arith));
  next = sym (closed-none false c.args.text.now n (omega arith));
  after = sym (closed-none true c.args.text.now n (omega arith));
  few = omega arith;
  few_after = omega arith;
}

pub loop-k-preserved-in-41 : goal.loop-k-preserved-in-41
loop-k-preserved-in-41 c =
    let text : List ℕ = c.args.text.now in
    let k : ℕ = c.loop-k.k in
    let hk : k ≡ k - 1 + 1 = omega arith in
    let under : k - 1 < length text = omega arith in
    let v = c.loop-k.invariant in record {
      place = omega arith;
      known = closings-pushed text c.loop-k.closed.items c.push.new.self.items (k - 1) k c.loop-k.next hk under v.known v.next c.in_ok-push.ensures.items;
      next = closed-byte text (k - 1) k c.loop-k.next c.loop-k.after closing hk under (ap comment_byte_kind c.in-41.is ∙ comment_mark-41) v.next v.after;
      after = v.next ∙ sym (closed-quoted text (k - 1) k hk under);
      few = omega arith;
      few_after = omega arith;
    }

pub loop-k-preserved-in-40 : goal.loop-k-preserved-in-40
loop-k-preserved-in-40 c =
    let text : List ℕ = c.args.text.now in
    let k : ℕ = c.loop-k.k in
    let hk : k ≡ k - 1 + 1 = omega arith in
    let under : k - 1 < length text = omega arith in
    let v = c.loop-k.invariant in record {
      place = omega arith;
      known = closings-pushed text c.loop-k.closed.items c.push.new.self.items (k - 1) k c.loop-k.next hk under v.known v.next c.in_ok-push.ensures.items;
      next = c.saturating_sub-here.ensures ∙ closed-byte text (k - 1) k c.loop-k.next c.loop-k.after opening hk under (ap comment_byte_kind c.in-40.is ∙ comment_mark-40) v.next v.after;
      after = v.next ∙ sym (closed-quoted text (k - 1) k hk under);
      few = omega arith;
      few_after = omega arith;
    }

pub loop-k-preserved-in-92 : goal.loop-k-preserved-in-92
loop-k-preserved-in-92 c =
    let text : List ℕ = c.args.text.now in
    let k : ℕ = c.loop-k.k in
    let hk : k ≡ k - 1 + 1 = omega arith in
    let under : k - 1 < length text = omega arith in
    let v = c.loop-k.invariant in record {
      place = omega arith;
      known = closings-pushed text c.loop-k.closed.items c.push.new.self.items (k - 1) k c.loop-k.next hk under v.known v.next c.in_ok-push.ensures.items;
      next = closed-byte text (k - 1) k c.loop-k.next c.loop-k.after escape hk under (ap comment_byte_kind c.in-92.is ∙ comment_mark-92) v.next v.after;
      after = v.next ∙ sym (closed-quoted text (k - 1) k hk under);
      few = omega arith;
      few_after = omega arith;
    }

pub loop-k-preserved : goal.loop-k-preserved
loop-k-preserved c =
    let text : List ℕ = c.args.text.now in
    let k : ℕ = c.loop-k.k in
    let hk : k ≡ k - 1 + 1 = omega arith in
    let under : k - 1 < length text = omega arith in
    let v = c.loop-k.invariant in record {
      place = omega arith;
      known = closings-pushed text c.loop-k.closed.items c.push.new.self.items (k - 1) k c.loop-k.next hk under v.known v.next c.in_ok-push.ensures.items;
      next = closed-byte text (k - 1) k c.loop-k.next c.loop-k.after ordinary hk under (comment_mark-other _ (λ h. omega (arith, h)) (λ h. omega (arith, h)) (λ h. omega (arith, h))) v.next v.after;
      after = v.next ∙ sym (closed-quoted text (k - 1) k hk under);
      few = omega arith;
      few_after = omega arith;
    }
