use Rattle.subject_core.specs.Removal.{stripped_subject}
use Rattle.subject_core.proofs.Loops.{end_less, end_same, end_within}
use Rattle.subject_core.proofs.removal.without_trailers.Goals as goal

pub loop-shorter-smaller : goal.loop-shorter-smaller
loop-shorter-smaller c = end_less c.loop-shorter.rest.now (stripped_subject c.in-Some.shorter.reply c.in-Some.shorter.text.now) c.in-Some.ensures

pub loop-shorter-preserved : goal.loop-shorter-preserved
loop-shorter-preserved c = record {
  same = end_same c.args.text.now c.loop-shorter.rest.now c.loop-shorter.reply (stripped_subject c.in-Some.shorter.reply c.in-Some.shorter.text.now) c.loop-shorter.invariant.same c.in-Some.ensures;
  within = end_within c.args.text.now c.loop-shorter.rest.now (stripped_subject c.in-Some.shorter.reply c.in-Some.shorter.text.now) c.loop-shorter.invariant.within c.in-Some.ensures;
}
