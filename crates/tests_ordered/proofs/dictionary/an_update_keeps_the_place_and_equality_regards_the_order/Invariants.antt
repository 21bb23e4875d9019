use Rattle.tests_ordered.proofs.dictionary.an_update_keeps_the_place_and_equality_regards_the_order.Given as goal

abbrev pub ghosts-ordered : goal.ghosts-ordered
ghosts-ordered g a = record { name = a.opening.name; ids = a.opening.ids }
