use Rattle.thread_tests.proofs.nodes.a_relink_takes_the_old_parent_away.Given as goal

-- the ledger of the blank
abbrev pub ghosts-answers_of_relinks : goal.ghosts-answers_of_relinks
ghosts-answers_of_relinks g a = record { name = a.blank.name; parts = a.blank.parts }
