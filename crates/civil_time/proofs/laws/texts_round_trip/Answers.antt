use Rattle.civil_time.proofs.TextLemmas.{day_read, month_text_read, instant_month_read}
use Rattle.civil_time.proofs.laws.texts_round_trip.Goals as goal

pub returns-clause-day : goal.returns-clause-day
returns-clause-day c = day_read

pub returns-clause-month : goal.returns-clause-month
returns-clause-month c = month_text_read

pub returns-clause-instant : goal.returns-clause-instant
returns-clause-instant c = instant_month_read
