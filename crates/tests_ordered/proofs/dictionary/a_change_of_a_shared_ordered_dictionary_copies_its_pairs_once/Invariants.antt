use Rattle.tests_ordered.proofs.dictionary.a_change_of_a_shared_ordered_dictionary_copies_its_pairs_once.Given as goal

abbrev pub ghosts-shared : goal.ghosts-shared
ghosts-shared g a = record { name = a.opening.name; ids = a.opening.ids }
