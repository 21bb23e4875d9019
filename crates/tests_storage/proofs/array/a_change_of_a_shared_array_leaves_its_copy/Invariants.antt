use Rattle.tests_storage.proofs.array.a_change_of_a_shared_array_leaves_its_copy.Given as goal

abbrev pub ghosts-shared_changes : goal.ghosts-shared_changes
ghosts-shared_changes g a = record { name = a.opening.name; ids = a.opening.ids }
