use Rattle.std.proofs.Common.{◌<◌, length, arith}
use Rattle.luvazhimba_c.proofs.IdLemmas.{more_texts, more_lens}
use Rattle.luvazhimba_c.proofs.ids.Texts.push_all.Goals as goal

pub loop-at-preserved : goal.loop-at-preserved
loop-at-preserved c =
    let ids = c.args.ids.now in
    let within : c.loop-at.at < length ids = omega (arith, c.loop-at-test.true, c.len-at-end.ensures) in
    record {
      bytes = more_texts ids c.loop-at.at c.get.result within c.get.ensures c.args.self.now.bytes.items c.loop-at.self.bytes.items c.push.new.self.bytes.items
          c.loop-at.invariant.bytes c.in_ok-push.ensures.bytes;
      lens = more_lens ids c.loop-at.at c.get.result within c.get.ensures c.args.self.now.lens.items c.loop-at.self.lens.items c.push.new.self.lens.items
          c.loop-at.invariant.lens c.in_ok-push.ensures.lens;
    }
