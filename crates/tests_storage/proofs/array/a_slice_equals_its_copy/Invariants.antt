use Rattle.tests_storage.proofs.array.a_slice_equals_its_copy.Given as goal

abbrev pub ghosts-copied_slice : goal.ghosts-copied_slice
ghosts-copied_slice g a = record { name = a.opening.name; ids = a.opening.ids }
