use Rattle.tests_deque.proofs.deque.each_call_of_an_alone_deque_copies_nothing.Given as goal

abbrev pub ghosts-row_calls : goal.ghosts-row_calls
ghosts-row_calls g a = record { name = a.opening.name; ids = a.opening.ids }
