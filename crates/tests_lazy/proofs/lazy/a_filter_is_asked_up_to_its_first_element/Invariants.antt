use Rattle.tests_lazy.proofs.lazy.a_filter_is_asked_up_to_its_first_element.Given as goal

abbrev pub ghosts-even_ones : goal.ghosts-even_ones
ghosts-even_ones g a = record { name = a.opening.name; ids = a.opening.ids }
