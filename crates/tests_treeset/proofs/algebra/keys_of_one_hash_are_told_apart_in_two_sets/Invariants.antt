use Rattle.tests_treeset.proofs.algebra.keys_of_one_hash_are_told_apart_in_two_sets.Given as goal

abbrev pub ghosts-of_two : goal.ghosts-of_two
ghosts-of_two g a = record { name = a.opening.name; ids = a.opening.ids }
