use Rattle.tests_ordered.proofs.dictionary.the_calls_of_an_ordered_dictionary_give_their_row.Given as goal

abbrev pub ghosts-ordered_calls : goal.ghosts-ordered_calls
ghosts-ordered_calls g a = record { name = a.opening.name; ids = a.opening.ids }
