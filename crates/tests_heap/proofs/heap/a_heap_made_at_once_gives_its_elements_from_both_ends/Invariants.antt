use Rattle.tests_heap.proofs.heap.a_heap_made_at_once_gives_its_elements_from_both_ends.Given as goal

abbrev pub ghosts-made_ends : goal.ghosts-made_ends
ghosts-made_ends g a = record { name = a.opening.name; ids = a.opening.ids }
