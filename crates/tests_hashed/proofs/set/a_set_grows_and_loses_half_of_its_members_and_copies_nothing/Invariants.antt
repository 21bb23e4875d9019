use Rattle.tests_hashed.proofs.set.a_set_grows_and_loses_half_of_its_members_and_copies_nothing.Given as goal

abbrev pub ghosts-thousand : goal.ghosts-thousand
ghosts-thousand g a = record { name = a.opening.name; ids = a.opening.ids }
