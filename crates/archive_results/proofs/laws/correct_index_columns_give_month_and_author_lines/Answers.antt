use Rattle.archive_results.proofs.FiledLemmas as lemmas
use Rattle.archive_results.proofs.laws.correct_index_columns_give_month_and_author_lines.Goals as goal

pub returns-clause-month : goal.returns-clause-month
returns-clause-month c = lemmas.month_is_filed

pub returns-clause-author : goal.returns-clause-author
returns-clause-author c = lemmas.author_is_filed
