use Rattle.tests_hashed.proofs.set.a_removal_cuts_no_key_off_from_its_home.Given as goal

abbrev pub ghosts-set_one_home : goal.ghosts-set_one_home
ghosts-set_one_home g a = record { name = a.opening.name; ids = a.opening.ids }
