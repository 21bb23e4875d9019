use Rattle.tests_ordered.proofs.set.a_change_of_a_shared_ordered_set_copies_its_members_once.Given as goal

abbrev pub ghosts-shared : goal.ghosts-shared
ghosts-shared g a = record { name = a.opening.name; ids = a.opening.ids }
