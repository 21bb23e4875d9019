use Rattle.tests_treeset.proofs.removing.a_thousand_lists_of_insertions_and_removals_end_in_the_trie_of_the_keys_left.Given as goal

abbrev pub ghosts-play_lists : goal.ghosts-play_lists
ghosts-play_lists g a = record { name = a.opening.name; ids = a.opening.ids }
