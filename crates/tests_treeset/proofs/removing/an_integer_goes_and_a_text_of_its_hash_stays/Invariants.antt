use Rattle.tests_treeset.proofs.removing.an_integer_goes_and_a_text_of_its_hash_stays.Given as goal

abbrev pub ghosts-texts_and_integers : goal.ghosts-texts_and_integers
ghosts-texts_and_integers g a = record { name = a.opening.name; ids = a.opening.ids }
