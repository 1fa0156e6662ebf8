use Rattle.std.proofs.Common.{◌∙◌, sym, arith, drop, take}
use Rattle.std.proofs.lemmas.List.{take_rest}
use Rattle.mail_core.proofs.FieldLemmas.{block-grows, block-ends}
use Rattle.mail_core.proofs.field_blocks.block_end.Goals as goal

pub loop-end-preserved : goal.loop-end-preserved
loop-end-preserved c =
    let rest = take_rest c.args.text.now c.loop-end.end in record {
      begun = omega arith;
      place = omega arith;
      same = c.loop-end.invariant.same ∙ block-grows c.args.text.now c.loop-end.end c.line_end-end.result c.line_end-end.ensures.some (sym (rw rest at c.loop-end-test.ensures))
          (rw rest at c.line_end-end.ensures.cuts);
    }

pub returns-clause-cuts : goal.returns-clause-cuts
returns-clause-cuts c =
    let rest = take_rest c.args.text.now c.loop-end.end in
    c.loop-end.invariant.same ∙ block-ends (take c.loop-end.end c.args.text.now) (drop c.loop-end.end c.args.text.now) (sym (rw rest at c.loop-end-test.ensures))
