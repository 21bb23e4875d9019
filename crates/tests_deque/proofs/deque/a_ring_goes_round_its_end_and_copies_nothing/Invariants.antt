use Rattle.tests_deque.proofs.deque.a_ring_goes_round_its_end_and_copies_nothing.Given as goal

abbrev pub ghosts-row_ring : goal.ghosts-row_ring
ghosts-row_ring g a = record { name = a.opening.name; ids = a.opening.ids }
