use Rattle.tests_heap.proofs.heap.a_heap_of_added_elements_gives_them_from_both_ends.Given as goal

abbrev pub ghosts-added_ends : goal.ghosts-added_ends
ghosts-added_ends g a = record { name = a.opening.name; ids = a.opening.ids }
