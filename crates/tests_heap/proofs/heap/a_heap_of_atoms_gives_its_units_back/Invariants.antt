use Rattle.tests_heap.proofs.heap.a_heap_of_atoms_gives_its_units_back.Given as goal

abbrev pub ghosts-mixed_ends : goal.ghosts-mixed_ends
ghosts-mixed_ends g a = record { name = a.opening.name; ids = a.opening.ids }
