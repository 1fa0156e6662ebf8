use Rattle.std.proofs.Common.{arith}
use Rattle.thread_links.proofs.NumberLemmas.{onto_step}
use Rattle.thread_links.proofs.numbering.put_all_first.Goals as goal

pub loop-left-preserved : goal.loop-left-preserved
loop-left-preserved c = record {
  within = omega (arith, c.loop-left.invariant.within);
  put = onto_step c.args.refs.now c.args.ids.now.items c.loop-left.ids.items c.put_first.new.ids.items c.loop-left.left c.get.result c.loop-left-test.true
      c.loop-left.invariant.within (c.get.ensures c.get.result) c.loop-left.invariant.put c.in_ok-put_first.ensures;
}
