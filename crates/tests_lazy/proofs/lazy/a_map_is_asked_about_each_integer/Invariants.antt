use Rattle.tests_lazy.proofs.lazy.a_map_is_asked_about_each_integer.Given as goal

abbrev pub ghosts-one_more : goal.ghosts-one_more
ghosts-one_more g a = record { name = a.opening.name; ids = a.opening.ids }
