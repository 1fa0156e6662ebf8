use Rattle.std.proofs.Common.{pos}
use Rattle.civil_time.proofs.DateLemmas.{date_back}
use Rattle.civil_time.proofs.TextLemmas.{date_found}
use Rattle.civil_time.proofs.laws.each_day_has_one_date.Goals as goal

pub returns-clause-date : goal.returns-clause-date
returns-clause-date c = date_found

pub returns-clause-alone : goal.returns-clause-alone
returns-clause-alone c = λ year month in_month day h. date_back (pos year) month in_month day h
