use Rattle.tests_treeset.proofs.removing.a_removal_copies_the_path_that_is_shared_and_no_other_handle_sees_it.Given as goal

abbrev pub ghosts-shared_set : goal.ghosts-shared_set
ghosts-shared_set g a = record { name = a.opening.name; ids = a.opening.ids }
