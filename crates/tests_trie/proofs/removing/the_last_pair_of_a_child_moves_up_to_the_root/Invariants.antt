use Rattle.tests_trie.proofs.removing.the_last_pair_of_a_child_moves_up_to_the_root.Given as goal

abbrev pub ghosts-lifted_trie : goal.ghosts-lifted_trie
ghosts-lifted_trie g a = record { name = a.opening.name; ids = a.opening.ids }
