use Rattle.tests_ordered.proofs.set.the_algebra_of_ordered_sets_gives_its_row.Given as goal

abbrev pub ghosts-set_algebra : goal.ghosts-set_algebra
ghosts-set_algebra g a = record { name = a.opening.name; ids = a.opening.ids }
