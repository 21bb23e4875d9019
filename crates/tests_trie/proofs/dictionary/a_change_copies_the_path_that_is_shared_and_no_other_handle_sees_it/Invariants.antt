use Rattle.tests_trie.proofs.dictionary.a_change_copies_the_path_that_is_shared_and_no_other_handle_sees_it.Given as goal

abbrev pub ghosts-shared_trie : goal.ghosts-shared_trie
ghosts-shared_trie g a = record { name = a.opening.name; ids = a.opening.ids }
