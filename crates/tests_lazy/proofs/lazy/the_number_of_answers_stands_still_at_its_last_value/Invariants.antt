use Rattle.tests_lazy.proofs.lazy.the_number_of_answers_stands_still_at_its_last_value.Given as goal

abbrev pub ghosts-below : goal.ghosts-below
ghosts-below g a = record { name = a.opening.name; ids = a.opening.ids }
