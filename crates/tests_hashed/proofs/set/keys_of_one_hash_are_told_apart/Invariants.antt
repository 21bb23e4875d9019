use Rattle.tests_hashed.proofs.set.keys_of_one_hash_are_told_apart.Given as goal

abbrev pub ghosts-one_hash : goal.ghosts-one_hash
ghosts-one_hash g a = record { name = a.opening.name; ids = a.opening.ids }
