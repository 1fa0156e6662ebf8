use Rattle.thread_tests.proofs.nodes.a_link_that_closes_a_ring_is_refused.Given as goal

-- the ledger of the blank
abbrev pub ghosts-answers_of_links : goal.ghosts-answers_of_links
ghosts-answers_of_links g a = record { name = a.blank.name; parts = a.blank.parts }
