use Rattle.luvazhimba_c.proofs.threads.rows_of_messages.Goals as goal

pub returns-clause-rows : goal.returns-clause-rows
returns-clause-rows c = cc (c.in_ok-rows.ensures.rows, c.in_ok-entries.ensures.entries)
