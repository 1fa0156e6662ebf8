use Rattle.luvazhimba_c.proofs.ThreadLemmas.{threads_there}
use Rattle.luvazhimba_c.proofs.laws.places_have_the_threads_of_the_mbox.Goals as goal

pub returns : goal.returns
returns c = threads_there
