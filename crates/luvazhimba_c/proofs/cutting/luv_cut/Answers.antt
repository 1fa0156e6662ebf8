use Rattle.luvazhimba_c.proofs.PlaceLemmas.{blocks_there}
use Rattle.luvazhimba_c.proofs.cutting.luv_cut.Goals as goal

pub put_places-requires-clause-blocks : goal.put_places-requires-clause-blocks
put_places-requires-clause-blocks c =
    blocks_there c.args.mbox.now c.in-Ok.found c.first_line.result c.in-Ok.ensures.ok c.first_line.ensures.cut c.first_line.ensures.blank c.first_line.ensures.unblank
