use Rattle.tests_treeset.proofs.algebra.the_keys_of_one_alone_are_left_after_a_subtraction_and_a_symmetric_difference.Given as goal

abbrev pub ghosts-of_two : goal.ghosts-of_two
ghosts-of_two g a = record { name = a.opening.name; ids = a.opening.ids }
