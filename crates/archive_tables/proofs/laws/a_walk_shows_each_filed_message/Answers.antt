use Rattle.archive_tables.proofs.FiledLemmas as lemmas
use Rattle.archive_tables.proofs.laws.a_walk_shows_each_filed_message.Goals as goal

pub returns-clause-month : goal.returns-clause-month
returns-clause-month c = lemmas.walked_month

pub returns-clause-author : goal.returns-clause-author
returns-clause-author c = lemmas.walked_author
