use Rattle.tests_trie.proofs.making.no_pairs_make_an_empty_dictionary.Given as goal

abbrev pub ghosts-of_pairs : goal.ghosts-of_pairs
ghosts-of_pairs g a = record { name = a.opening.name; ids = a.opening.ids }
