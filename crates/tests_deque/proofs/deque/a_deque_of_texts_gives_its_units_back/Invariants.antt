use Rattle.tests_deque.proofs.deque.a_deque_of_texts_gives_its_units_back.Given as goal

abbrev pub ghosts-ended : goal.ghosts-ended
ghosts-ended g a = record { name = a.opening.name; ids = a.opening.ids }
