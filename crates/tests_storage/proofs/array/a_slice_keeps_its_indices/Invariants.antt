use Rattle.tests_storage.proofs.array.a_slice_keeps_its_indices.Given as goal

abbrev pub ghosts-index_set : goal.ghosts-index_set
ghosts-index_set g a = record { name = a.opening.name; ids = a.opening.ids }
