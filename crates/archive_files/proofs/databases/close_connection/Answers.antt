use Rattle.archive_files.proofs.databases.close_connection.Goals as goal

pub returns-in-Ok-clause-last : goal.returns-in-Ok-clause-last
returns-in-Ok-clause-last g c = (c.in-Ok.ensures.ok.0, c.in-Ok.ensures.ok.2)

pub returns-in-Err-clause-last : goal.returns-in-Err-clause-last
returns-in-Err-clause-last g c = (c.in-Err.failed.1, c.in-Err.ensures.err.0)

pub returns-in-Err-clause-left : goal.returns-in-Err-clause-left
returns-in-Err-clause-left g c = c.in-Err.ensures.err.0
