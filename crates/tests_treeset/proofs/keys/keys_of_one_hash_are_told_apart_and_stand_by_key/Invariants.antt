use Rattle.tests_treeset.proofs.keys.keys_of_one_hash_are_told_apart_and_stand_by_key.Given as goal

abbrev pub ghosts-keys_of_one_hash : goal.ghosts-keys_of_one_hash
ghosts-keys_of_one_hash g a = record { name = a.opening.name; ids = a.opening.ids }
