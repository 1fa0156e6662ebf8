use Rattle.thread_tests.proofs.threads.rows_are_those_of_the_given_links.Given as goal

-- the ledger of the blank
abbrev pub ghosts-rows_over_pairs : goal.ghosts-rows_over_pairs
ghosts-rows_over_pairs g a = record { name = a.blank.name; parts = a.blank.parts }
