use Rattle.tests_trie.proofs.making.a_filter_by_which_all_pairs_stay_copies_nothing.Given as goal

abbrev pub ghosts-of_one : goal.ghosts-of_one
ghosts-of_one g a = record { name = a.opening.name; ids = a.opening.ids }
