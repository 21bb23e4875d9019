use Rattle.tests_trie.proofs.making.a_merge_with_nothing_copies_nothing.Given as goal

abbrev pub ghosts-of_two : goal.ghosts-of_two
ghosts-of_two g a = record { name = a.opening.name; ids = a.opening.ids }
