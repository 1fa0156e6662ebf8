use Rattle.luvazhimba_c.proofs.FieldBounds.{all_texts_few, all_lens_few}
use Rattle.luvazhimba_c.proofs.laws.fields_fit_into_their_mbox.Goals as goal

pub returns-clause-texts : goal.returns-clause-texts
returns-clause-texts c = all_texts_few

pub returns-clause-count : goal.returns-clause-count
returns-clause-count c = all_lens_few
