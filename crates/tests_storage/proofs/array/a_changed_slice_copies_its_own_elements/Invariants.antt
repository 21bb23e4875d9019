use Rattle.tests_storage.proofs.array.a_changed_slice_copies_its_own_elements.Given as goal

abbrev pub ghosts-slice_calls : goal.ghosts-slice_calls
ghosts-slice_calls g a = record { name = a.opening.name; ids = a.opening.ids }
