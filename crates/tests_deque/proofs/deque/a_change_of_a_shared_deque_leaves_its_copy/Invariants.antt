use Rattle.tests_deque.proofs.deque.a_change_of_a_shared_deque_leaves_its_copy.Given as goal

abbrev pub ghosts-changed_copy : goal.ghosts-changed_copy
ghosts-changed_copy g a = record { name = a.opening.name; ids = a.opening.ids }
