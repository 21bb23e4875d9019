use Rattle.tests_trie.proofs.dictionary.keys_of_one_digit_stand_in_a_child_and_those_of_one_hash_by_key.Given as goal

abbrev pub ghosts-stand : goal.ghosts-stand
ghosts-stand g a = record { name = a.opening.name; ids = a.opening.ids }
