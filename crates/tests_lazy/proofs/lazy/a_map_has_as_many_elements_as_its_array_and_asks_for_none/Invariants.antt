use Rattle.tests_lazy.proofs.lazy.a_map_has_as_many_elements_as_its_array_and_asks_for_none.Given as goal

abbrev pub ghosts-both : goal.ghosts-both
ghosts-both g a = record { name = a.opening.name; ids = a.opening.ids }
