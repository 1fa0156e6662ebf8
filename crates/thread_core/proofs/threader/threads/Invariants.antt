use Rattle.thread_core.proofs.threader.threads.Given as goal

-- the ledger of the blank
abbrev pub ghosts-join_and_rows : goal.ghosts-join_and_rows
ghosts-join_and_rows g a = record { name = a.blank.name; parts = a.blank.parts }
