use Rattle.tests_trie.proofs.threads.two_threads_change_a_copy_each.Given as goal

abbrev pub ghosts-over_levels : goal.ghosts-over_levels
ghosts-over_levels g a = record { name = a.opening.name; ids = a.opening.ids }
