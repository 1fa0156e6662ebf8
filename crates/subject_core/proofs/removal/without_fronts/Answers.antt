use Rattle.subject_core.specs.Removal.{stripped_subject}
use Rattle.subject_core.proofs.Loops.{front_less, front_none, front_same, front_within}
use Rattle.subject_core.proofs.removal.without_fronts.Goals as goal

pub loop-shorter-smaller : goal.loop-shorter-smaller
loop-shorter-smaller c = front_less c.loop-shorter.rest.now (stripped_subject c.in-Some.shorter.reply c.in-Some.shorter.text.now) c.loop-shorter.invariant.no_trailer c.in-Some.ensures

pub loop-shorter-preserved : goal.loop-shorter-preserved
loop-shorter-preserved c = record {
  same = front_same c.args.text.now c.loop-shorter.rest.now c.loop-shorter.reply (stripped_subject c.in-Some.shorter.reply c.in-Some.shorter.text.now) c.loop-shorter.invariant.same
      c.loop-shorter.invariant.no_trailer c.in-Some.ensures;
  within = front_within c.args.text.now c.loop-shorter.rest.now (stripped_subject c.in-Some.shorter.reply c.in-Some.shorter.text.now) c.loop-shorter.invariant.within
      c.loop-shorter.invariant.no_trailer c.in-Some.ensures;
  no_trailer = front_none c.loop-shorter.rest.now (stripped_subject c.in-Some.shorter.reply c.in-Some.shorter.text.now) c.loop-shorter.invariant.no_trailer c.in-Some.ensures;
}
