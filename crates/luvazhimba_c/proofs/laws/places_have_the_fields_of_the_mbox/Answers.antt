use Rattle.luvazhimba_c.specs.Fields.{field_texts, field_text_lengths, field_numbers}
use Rattle.luvazhimba_c.proofs.ThreadLemmas.{said_there, texts_there}
use Rattle.luvazhimba_c.proofs.laws.places_have_the_fields_of_the_mbox.Goals as goal

pub returns-clause-texts : goal.returns-clause-texts
returns-clause-texts c = texts_there field_texts

pub returns-clause-lens : goal.returns-clause-lens
returns-clause-lens c = texts_there field_text_lengths

pub returns-clause-numbers : goal.returns-clause-numbers
returns-clause-numbers c = said_there field_numbers
