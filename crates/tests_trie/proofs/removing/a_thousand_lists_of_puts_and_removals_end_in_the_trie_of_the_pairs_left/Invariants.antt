use Rattle.tests_trie.proofs.removing.a_thousand_lists_of_puts_and_removals_end_in_the_trie_of_the_pairs_left.Given as goal

abbrev pub ghosts-play_lists : goal.ghosts-play_lists
ghosts-play_lists g a = record { name = a.opening.name; ids = a.opening.ids }
