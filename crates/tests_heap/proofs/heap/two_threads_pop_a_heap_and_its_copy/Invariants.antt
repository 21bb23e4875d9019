use Rattle.tests_heap.proofs.heap.two_threads_pop_a_heap_and_its_copy.Given as goal

abbrev pub ghosts-popped_by_two : goal.ghosts-popped_by_two
ghosts-popped_by_two g a = record { name = a.opening.name; ids = a.opening.ids }
