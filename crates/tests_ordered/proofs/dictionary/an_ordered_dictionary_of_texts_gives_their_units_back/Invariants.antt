use Rattle.tests_ordered.proofs.dictionary.an_ordered_dictionary_of_texts_gives_their_units_back.Given as goal

abbrev pub ghosts-texts_end : goal.ghosts-texts_end
ghosts-texts_end g a = record { name = a.opening.name; ids = a.opening.ids }
