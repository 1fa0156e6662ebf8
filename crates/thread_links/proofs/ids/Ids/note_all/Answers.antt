use Rattle.std.proofs.Common.{◌++◌, take, arith}
use Rattle.thread_links.proofs.IdLemmas.{noted_at, numbered_at_id}
use Rattle.thread_links.proofs.ids.Ids.note_all.Goals as goal

pub loop-at-preserved : goal.loop-at-preserved
loop-at-preserved c = record {
  containers = λ entries refs noted.
      noted_at entries refs c.args.ids.now c.loop-at.at c.get.result _ _ (omega (arith, c.loop-at-test.true, c.len-at-end.ensures)) c.get.ensures
      (c.in_ok-note.ensures.containers entries (refs ++ take c.loop-at.at c.args.ids.now) (c.loop-at.invariant.containers entries refs noted));
  references = λ refs noted.
      numbered_at_id _ refs c.args.ids.now c.loop-at.at c.get.result _ (omega (arith, c.loop-at-test.true, c.len-at-end.ensures)) c.get.ensures
      (c.in_ok-note.ensures.references (refs ++ take c.loop-at.at c.args.ids.now) (c.loop-at.invariant.references refs noted));
}
