use Rattle.tests_trie.proofs.making.a_filter_copies_the_pairs_that_stay.Given as goal

abbrev pub ghosts-of_one : goal.ghosts-of_one
ghosts-of_one g a = record { name = a.opening.name; ids = a.opening.ids }
