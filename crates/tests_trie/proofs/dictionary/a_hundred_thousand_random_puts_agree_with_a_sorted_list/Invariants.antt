use Rattle.tests_trie.proofs.dictionary.a_hundred_thousand_random_puts_agree_with_a_sorted_list.Given as goal

abbrev pub ghosts-random_trie : goal.ghosts-random_trie
ghosts-random_trie g a = record { name = a.opening.name; ids = a.opening.ids }
