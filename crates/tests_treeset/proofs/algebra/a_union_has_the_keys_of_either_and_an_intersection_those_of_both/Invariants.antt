use Rattle.tests_treeset.proofs.algebra.a_union_has_the_keys_of_either_and_an_intersection_those_of_both.Given as goal

abbrev pub ghosts-of_two : goal.ghosts-of_two
ghosts-of_two g a = record { name = a.opening.name; ids = a.opening.ids }
