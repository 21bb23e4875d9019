use Rattle.tests_values.proofs.kinds.an_array_is_changed.Given as goal

abbrev pub ghosts-array_calls : goal.ghosts-array_calls
ghosts-array_calls g a = record { name = a.opening.name; ids = a.opening.ids }
