use Rattle.tests_treeset.proofs.removing.the_last_of_the_keys_of_one_hash_moves_up_through_all_levels.Given as goal

abbrev pub ghosts-lose : goal.ghosts-lose
ghosts-lose g a = record { name = a.opening.name; ids = a.opening.ids }
