use Rattle.tests_trie.proofs.making.a_merge_keeps_or_takes_the_value_under_a_key_of_both.Given as goal

abbrev pub ghosts-of_two : goal.ghosts-of_two
ghosts-of_two g a = record { name = a.opening.name; ids = a.opening.ids }
