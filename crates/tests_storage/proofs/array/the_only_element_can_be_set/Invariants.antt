use Rattle.tests_storage.proofs.array.the_only_element_can_be_set.Given as goal

abbrev pub ghosts-first_set : goal.ghosts-first_set
ghosts-first_set g a = record { name = a.opening.name; ids = a.opening.ids }
