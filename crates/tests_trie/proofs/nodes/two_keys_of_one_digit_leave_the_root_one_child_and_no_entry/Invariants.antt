use Rattle.tests_trie.proofs.nodes.two_keys_of_one_digit_leave_the_root_one_child_and_no_entry.Given as goal

abbrev pub ghosts-nodes : goal.ghosts-nodes
ghosts-nodes g a = record { name = a.opening.name; ids = a.opening.ids }
