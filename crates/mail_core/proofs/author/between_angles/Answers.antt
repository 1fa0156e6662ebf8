use Rattle.std.proofs.Common.{◌≡◌, ◌+◌, ◌∙◌, sym, ap, arith, drop, take, ℕ, List, Some, None}
use Rattle.std.specs.Option.{option_and_then}
use Rattle.mail_core.specs.Author.{after_last_byte, before_byte}
use Rattle.mail_core.proofs.AuthorLemmas.{after_last-none, after_last-at, before_byte-none, before_byte-at}
use Rattle.mail_core.proofs.author.between_angles.Goals as goal

pub returns-in_err-open : goal.returns-in_err-open
returns-in_err-open c =
    let none : after_last_byte 60 c.args.text.now ≡ None = after_last-none 60 c.args.text.now (λ j low lt e. c.in_err-open.ensures j low lt e) in
    rw c.from_residual.ensures (ap (option_and_then (before_byte 62)) none)

pub returns-in_err-close : goal.returns-in_err-close
returns-in_err-close c =
    let h = c.in_ok-open.ensures in
    let text : List ℕ = c.args.text.now in
    let behind : after_last_byte 60 text ≡ Some (drop (c.in_ok-open.open + 1) text) = after_last-at 60 text c.in_ok-open.open h.0.high h.1 (λ j low lt e. h.0.after j low lt e) in
    let none : before_byte 62 c.split_at.result.1.now ≡ None = before_byte-none 62 c.split_at.result.1.now (λ j low lt e. c.in_err-close.ensures j low lt e) in
    rw c.from_residual-in_err-close.ensures (ap (option_and_then (before_byte 62)) behind ∙ ap (before_byte 62) (sym c.split_at.ensures.back) ∙ none)

pub returns : goal.returns
returns c =
    let h = c.in_ok-open.ensures in
    let g = c.in_ok-close.ensures in
    let text : List ℕ = c.args.text.now in
    let behind : after_last_byte 60 text ≡ Some (drop (c.in_ok-open.open + 1) text) = after_last-at 60 text c.in_ok-open.open h.0.high h.1 (λ j low lt e. h.0.after j low lt e) in
    let some : before_byte 62 c.split_at.result.1.now ≡ Some (take c.in_ok-close.close c.split_at.result.1.now) =
    before_byte-at 62 c.split_at.result.1.now c.in_ok-close.close g.0.high g.1 (λ j lt e. g.0.before j (omega arith) lt e) in
    ap (option_and_then (before_byte 62)) behind ∙ ap (before_byte 62) (sym c.split_at.ensures.back) ∙ some ∙ ap (λ (l : List ℕ). Some l) (sym c.split_at-2.ensures.front)
