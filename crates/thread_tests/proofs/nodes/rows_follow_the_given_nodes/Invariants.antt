use Rattle.thread_tests.proofs.nodes.rows_follow_the_given_nodes.Given as goal

-- the ledger of the blank
abbrev pub ghosts-rows_of_two : goal.ghosts-rows_of_two
ghosts-rows_of_two g a = record { name = a.blank.name; parts = a.blank.parts }
