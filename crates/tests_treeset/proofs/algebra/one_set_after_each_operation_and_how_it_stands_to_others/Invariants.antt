use Rattle.tests_treeset.proofs.algebra.one_set_after_each_operation_and_how_it_stands_to_others.Given as goal

abbrev pub ghosts-operate : goal.ghosts-operate
ghosts-operate g a = record { name = a.opening.name; ids = a.opening.ids }
