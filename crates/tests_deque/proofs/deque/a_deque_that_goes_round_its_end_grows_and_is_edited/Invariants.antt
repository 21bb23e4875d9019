use Rattle.tests_deque.proofs.deque.a_deque_that_goes_round_its_end_grows_and_is_edited.Given as goal

abbrev pub ghosts-edited : goal.ghosts-edited
ghosts-edited g a = record { name = a.opening.name; ids = a.opening.ids }
