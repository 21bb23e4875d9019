use Rattle.tests_storage.proofs.array.an_empty_array_has_no_last_element.Given as goal

abbrev pub ghosts-last_of_none : goal.ghosts-last_of_none
ghosts-last_of_none g a = record { name = a.opening.name; ids = a.opening.ids }
