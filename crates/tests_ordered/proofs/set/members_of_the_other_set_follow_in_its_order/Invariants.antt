use Rattle.tests_ordered.proofs.set.members_of_the_other_set_follow_in_its_order.Given as goal

abbrev pub ghosts-in_order : goal.ghosts-in_order
ghosts-in_order g a = record { name = a.opening.name; ids = a.opening.ids }
