use Rattle.tests_heap.proofs.heap.a_heap_whose_copy_has_ended_copies_nothing.Given as goal

abbrev pub ghosts-pop_after_copy : goal.ghosts-pop_after_copy
ghosts-pop_after_copy g a = record { name = a.opening.name; ids = a.opening.ids }
