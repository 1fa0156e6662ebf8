use Rattle.std.proofs.Common.{◌≡◌, ℕ, ◌+◌, ◌++◌, [], ◌∙◌, sym, ap, true, false, drop, List, append-nil, Bool}
use Rattle.mail_core.specs.Quotes.{unquoted}
use Rattle.mail_core.proofs.QuoteLemmas.{unquoted-past, unquoted-at_quoted, unquoted-at_escape, unquoted-at_byte, unquoted-push}
use Rattle.mail_core.proofs.quotes.unquote.Goals as goal

-- the invariant at a flag that is known
at_flag : (value rest : List ℕ) (q r : Bool) (text whole : List ℕ) → q ≡ r → value ++ unquoted q text ≡ whole → value ++ unquoted r text ≡ whole
at_flag value rest q r text whole e h = ap (λ (b : Bool). value ++ unquoted b text) (sym e) ∙ h

pub loop-byte-preserved : goal.loop-byte-preserved
loop-byte-preserved c =
    let h = at_flag c.loop-byte.value.items [] c.loop-byte.quoted false (drop c.loop-byte.byte-index c.args.inside.now) (unquoted false c.args.inside.now) c.if-quoted.false c.loop-byte.invariant in
    at_flag c.push-in-loop-byte.new.self.items [] false c.loop-byte.quoted (drop (c.loop-byte.byte-index + 1) c.args.inside.now) (unquoted false c.args.inside.now) (sym c.if-quoted.false)
    (unquoted-push c.loop-byte.value.items _ _ _ _ c.in_ok-push-2.ensures.items
    (ap (λ (l : List ℕ). c.loop-byte.value.items ++ l) (sym (unquoted-at_byte c.args.inside.now c.loop-byte.byte-index c.loop-byte-test.true c.if-byte-eq92.false)) ∙ h))

pub loop-byte-preserved-then-quoted : goal.loop-byte-preserved-then-quoted
loop-byte-preserved-then-quoted c =
    let h = at_flag c.loop-byte.value.items [] c.loop-byte.quoted true (drop c.loop-byte.byte-index c.args.inside.now) (unquoted false c.args.inside.now) c.if-quoted.true c.loop-byte.invariant in
    unquoted-push c.loop-byte.value.items _ _ _ _ c.in_ok-push.ensures.items
    (ap (λ (l : List ℕ). c.loop-byte.value.items ++ l) (sym (unquoted-at_quoted c.args.inside.now c.loop-byte.byte-index c.loop-byte-test.true)) ∙ h)

pub loop-byte-preserved-then-byte-eq92 : goal.loop-byte-preserved-then-byte-eq92
loop-byte-preserved-then-byte-eq92 c =
    let h = at_flag c.loop-byte.value.items [] c.loop-byte.quoted false (drop c.loop-byte.byte-index c.args.inside.now) (unquoted false c.args.inside.now) c.if-quoted.false c.loop-byte.invariant in
    ap (λ (l : List ℕ). c.loop-byte.value.items ++ l) (sym (unquoted-at_escape c.args.inside.now c.loop-byte.byte-index c.loop-byte-test.true c.if-byte-eq92.true)) ∙ h

pub returns : goal.returns
returns c = sym (append-nil c.loop-byte.value.items) ∙ ap (λ (l : List ℕ). c.loop-byte.value.items ++ l)
    (sym (unquoted-past c.loop-byte.quoted c.args.inside.now c.loop-byte.byte-index c.loop-byte-test.false)) ∙ c.loop-byte.invariant
