use Rattle.std.proofs.Common.{rules}
use Rattle.archive_database.proofs.taking.insert_message.Goals as goal

pub returns-in-Some-clause-made : goal.returns-in-Some-clause-made
returns-in-Some-clause-made g c = λ clean behind k free. c.write_down.ensures.made (search rules) clean behind k free

pub returns-clause-made : goal.returns-clause-made
returns-clause-made g c = λ clean behind k free. c.write_down-2.ensures.made (search rules) clean behind k free

pub returns-in-Some-clause-crash : goal.returns-in-Some-clause-crash
returns-in-Some-clause-crash g c = λ behind k needs clean db may. c.write_down.ensures.crash (search rules) behind k needs clean db may

pub returns-clause-crash : goal.returns-clause-crash
returns-clause-crash g c = λ behind k needs clean db may. c.write_down-2.ensures.crash (search rules) behind k needs clean db may
