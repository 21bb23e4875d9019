use Rattle.tests_values.proofs.kinds.a_slice_is_changed.Given as goal

abbrev pub ghosts-slice_calls : goal.ghosts-slice_calls
ghosts-slice_calls g a = record { name = a.opening.name; ids = a.opening.ids }
