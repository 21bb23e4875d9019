use Rattle.tests_storage.proofs.array.two_threads_change_a_copy_each.Given as goal

abbrev pub ghosts-changed_by_two : goal.ghosts-changed_by_two
ghosts-changed_by_two g a = record { name = a.opening.name; ids = a.opening.ids }
