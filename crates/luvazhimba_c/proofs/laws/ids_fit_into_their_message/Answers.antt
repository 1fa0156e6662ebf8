use Rattle.luvazhimba_c.proofs.IdBounds.{texts_few, count_few}
use Rattle.luvazhimba_c.proofs.laws.ids_fit_into_their_message.Goals as goal

pub returns-clause-texts : goal.returns-clause-texts
returns-clause-texts c = texts_few

pub returns-clause-count : goal.returns-clause-count
returns-clause-count c = count_few
