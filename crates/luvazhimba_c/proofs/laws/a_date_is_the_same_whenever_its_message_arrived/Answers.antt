use Rattle.std.proofs.Common.{codes}
use Rattle.mail_core.specs.Fields.{field_of}
use Rattle.mail_core.specs.Headers.{or_empty}
use Rattle.luvazhimba_c.proofs.DateLemmas.{dated, undated}
use Rattle.luvazhimba_c.proofs.laws.a_date_is_the_same_whenever_its_message_arrived.Goals as goal

pub returns-clause-dated : goal.returns-clause-dated
returns-clause-dated c = λ message. dated (or_empty (field_of message (codes "date")))

pub returns-clause-undated : goal.returns-clause-undated
returns-clause-undated c = λ message. undated (or_empty (field_of message (codes "date")))
