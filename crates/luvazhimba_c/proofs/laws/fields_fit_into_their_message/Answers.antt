use Rattle.luvazhimba_c.proofs.FieldBounds.{field_texts_few, field_lens_few}
use Rattle.luvazhimba_c.proofs.laws.fields_fit_into_their_message.Goals as goal

pub returns-clause-texts : goal.returns-clause-texts
returns-clause-texts c = field_texts_few

pub returns-clause-count : goal.returns-clause-count
returns-clause-count c = field_lens_few
