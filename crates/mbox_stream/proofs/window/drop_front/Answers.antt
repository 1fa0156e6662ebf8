use Rattle.std.proofs.Common.{◌≡◌, ◌+◌, ◌-◌, length, take, drop, ap, ◌∙◌, arith, rules, length-drop, take_all}
use lib.Seq.{paste}
use Rattle.std.proofs.lemmas.List.Edits.{take-paste}
use Rattle.mbox_stream.proofs.window.drop_front.Goals as goal

-- the bytes behind the first ones come to the front, and what is left behind them goes
pub returns : goal.returns
returns c =
    let all = c.args.bytes.now.items in
    let rest = drop c.args.count all in
    let left = c.len-len.result - c.args.count in
    let long : length all ≡ c.len-len.result = search rules in
    let fits : left ≡ length rest = omega (arith, long, length-drop c.args.count all) in
    let same : left ≡ 0 + left = omega arith in
    c.truncate.ensures.items ∙ ap (take left) c.copy_within.ensures.items ∙ ap (λ k. take k (paste all 0 rest left)) same
    ∙ take-paste all 0 rest left (omega (arith, long, c.requires)) (omega (arith, fits)) ∙ take_all left rest (omega (arith, fits))
