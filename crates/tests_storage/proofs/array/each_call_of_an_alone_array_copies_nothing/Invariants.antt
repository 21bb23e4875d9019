use Rattle.tests_storage.proofs.array.each_call_of_an_alone_array_copies_nothing.Given as goal

abbrev pub ghosts-array_calls : goal.ghosts-array_calls
ghosts-array_calls g a = record { name = a.opening.name; ids = a.opening.ids }
