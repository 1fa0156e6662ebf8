use Rattle.std.proofs.Common.{◌-◌, ◌∙◌, sym, arith}
use Rattle.mail_core.proofs.AuthorLemmas.{trim-shorter, trim-done, trim-nothing}
use Rattle.mail_core.proofs.author.before_blanks.Goals.{else-loop-len-test, then-loop-len-test+then-not-is_blank_byte}
use Rattle.mail_core.proofs.author.before_blanks.Goals as goal

pub loop-len-preserved : goal.loop-len-preserved
loop-len-preserved c = record {
  within = omega arith;
  same = c.loop-len.invariant.same ∙ trim-shorter c.args.text.now c.loop-len.len (c.loop-len.len - 1) (omega arith) c.loop-len.invariant.within (sym c.if-not-is_blank_byte.ensures);
}

pub returns : goal.returns
returns c =
    c.split_at.ensures.front
    ∙ sym (c.loop-len.invariant.same ∙ elim c.loop-len-test.branch [
      | else-loop-len-test w ↦ trim-nothing c.args.text.now c.loop-len.len (let h = w.loop-len-test.false in omega (arith, h))
      | then-loop-len-test+then-not-is_blank_byte w ↦ let h = w.loop-len-test.true in trim-done c.args.text.now c.loop-len.len (c.loop-len.len - 1)
          (omega (arith, h)) c.loop-len.invariant.within (sym w.if-not-is_blank_byte.ensures)
    ])
