use Rattle.tests_trie.proofs.making.the_last_value_of_a_key_stands_and_nothing_is_copied.Given as goal

abbrev pub ghosts-of_pairs : goal.ghosts-of_pairs
ghosts-of_pairs g a = record { name = a.opening.name; ids = a.opening.ids }
