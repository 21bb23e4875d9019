use Rattle.tests_trie.proofs.nodes.a_change_of_a_copy_makes_seven_nodes_at_most_and_one_for_keys_of_one_hash.Given as goal

abbrev pub ghosts-nodes : goal.ghosts-nodes
ghosts-nodes g a = record { name = a.opening.name; ids = a.opening.ids }
