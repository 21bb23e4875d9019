use Rattle.tests_treeset.proofs.algebra.a_set_that_doesnt_change_copies_nothing.Given as goal

abbrev pub ghosts-of_two : goal.ghosts-of_two
ghosts-of_two g a = record { name = a.opening.name; ids = a.opening.ids }
